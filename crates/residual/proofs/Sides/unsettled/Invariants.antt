-- The invariant: no row so far is loose.
use mathlib.Core.Bool.{not}
use lib.Dec.{leb}
use lib.IntN.{nat_abs}
use lib.ListN.{length}
use Rattle.whole.specs.Packed.{cell}
use Rattle.paper.specs.Step.{row_bound}
use Rattle.whole.proofs.First.{Looking}
use Rattle.starts.specs.Lent.{wide}
use Rattle.residual.proofs.Sides.unsettled.Given as goal

abbrev pub invariant-loop-i : goal.invariant-loop-i
invariant-loop-i l = Looking (λ k. not (leb (nat_abs (cell l.r k)) (row_bound (wide l.self.a.starts.now l.self.a.numbers.now) l.self.fixed.now (length l.self.a.starts.now) k))) (length l.self.a.starts.now) l.i
