-- Z is the last row.
use mathlib.Core.Path.{ap}
use Prim.Native.Nat.{ℕ}
use native.Mathlib.Omega.{arith}
use lib.ListN.{get_or}
use Rattle.paper.specs.Cards as cards
use Rattle.deck.proofs.Deck.materials.Goals as goal

pub returns : goal.returns
unfolding cards.materials cards.field
returns c =
    ap (λ (k : ℕ). get_or c.args.self.table.now k 0) (omega (arith, c.args.self.accepted.whole, c.args.self.accepted.all))
