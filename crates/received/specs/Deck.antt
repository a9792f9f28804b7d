-- A deck received from an input, which lies at the front of the room for bytes.
use Rattle.std.specs.Prelude.{◌≡◌, List, Option, Result, Ok, Err, ℕ, ◌+◌, ◌*◌, ◌≤◌, length, take, MatchResult}
use Rattle.std.specs.Io.KnownBytes.{Consumes}
use Rattle.paper.specs.Cards.{cards}
use Rattle.paper.specs.Calls.{reads, read_table, last_card, start_of, counts_in}
use Rattle.paper.specs.declared.Refusal.{Refusal}
use Rattle.received.specs.declared.Received.{Received}

-- where the bytes are read: as many are notes as stand before D, and a card is six numbers
abbrev pub IsReceived : List ℕ → ℕ → Result Received Refusal → Type 0
IsReceived b room r =
    MatchResult r (λ d. (reads b room ≡ Ok tt) × (d.notes ≡ start_of b (last_card b)) × (d.numbers ≡ (cards (counts_in b) + 1) * 6)) (λ why. reads b room ≡ Err why)

-- of what the input gave
pub record Deck (old new : Option (List ℕ)) (bytes t₀ t : List ℕ) (r : Result Received Refusal) : Type 0 where
  pub count : ℕ
  pub fits : count ≤ length bytes
  pub came : Consumes old new (take count bytes)
  pub table : t ≡ read_table (take count bytes) t₀
  pub is : IsReceived (take count bytes) (length t₀) r
