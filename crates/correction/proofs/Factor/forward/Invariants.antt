-- What is left of the substitution from row i is the whole.
use lib.ListN.{length}
use Rattle.starts.specs.Lent.{wide}
use Rattle.correction.specs.Asks.{Under}
use Rattle.correction.proofs.AlongRows.{ForwardInv}
use Rattle.correction.proofs.Factor.forward.Given as goal

abbrev pub invariant-loop-i : goal.invariant-loop-i
invariant-loop-i l = ForwardInv (wide l.self.rows.starts.now l.self.rows.numbers.now) (length l.self.rows.starts.now) l.initial.y l.y l.i × Under l.y l.i l.most
