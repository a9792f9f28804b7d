-- What the functions ask of their arguments.
use Rattle.std.specs.Prelude.{List, ℕ, ◌≤◌, ◌<◌, get_or}

-- n coordinates on the larger grid
abbrev pub OnGrid : ℕ → List ℕ → Type 0
OnGrid n axis = (a : ℕ) → a < n → get_or axis a 0 ≤ 4095

-- a step's milliseconds
pub record Step (ms : ℕ) : Type 0 where
  pub least : 1 ≤ ms
  pub most : ms ≤ 60000
