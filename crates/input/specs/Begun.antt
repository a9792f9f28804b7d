-- What a read that fails midway leaves.
use Rattle.std.specs.Prelude.{List, Option, ℕ, ◌≤◌, take, length}
use Rattle.std.specs.Io.KnownBytes.{Consumes}

-- no byte is lost: those that the input gave before it failed stand at the front of the room
pub record Begun (old new : Option (List ℕ)) (bytes : List ℕ) : Type 0 where
  pub count : ℕ
  pub fits : count ≤ length bytes
  pub came : Consumes old new (take count bytes)
