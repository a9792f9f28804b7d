-- The nodes before k are the card's.
use mathlib.Core.Path.{◌≡◌}
use Prim.Native.Nat.{ℕ, ◌+◌, ◌<◌}
use lib.ListN.{length, get_or}
use Rattle.element.proofs.corners.Given as goal

abbrev pub invariant-loop-k : goal.invariant-loop-k
invariant-loop-k g l = (length l.nodes ≡ g.row.N) × ((a : ℕ) → a < l.k → (get_or l.nodes a (record { 0 = 0 })).0 ≡ get_or l.card (a + 1) 0)
