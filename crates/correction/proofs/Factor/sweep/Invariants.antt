-- What is left of the substitution below row k is the whole.
use Rattle.correction.proofs.FromLast.{SweepInv}
use Rattle.correction.proofs.Factor.sweep.Given as goal

abbrev pub invariant-loop-k : goal.invariant-loop-k
invariant-loop-k l = SweepInv l.self.rows.starts.now l.self.rows.numbers.now l.initial.x l.x l.k
