-- The fields before a are the nodes'.
use mathlib.Core.Path.{◌≡◌}
use Prim.Native.Nat.{ℕ, ◌<◌}
use lib.ListN.{length, get_or}
use Rattle.paper.specs.Cards.{field}
use Rattle.simplex.specs.Forms.{numbers}
use Rattle.element.proofs.along.Given as goal

abbrev pub invariant-loop-a : goal.invariant-loop-a
invariant-loop-a g l = (length l.fields ≡ g.row.N) × ((b : ℕ) → b < l.a → get_or l.fields b 0 ≡ field l.deck.table.now (get_or (numbers l.nodes) b 0) l.k)
