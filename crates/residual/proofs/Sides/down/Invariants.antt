-- The invariant: the sum is that of the columns so far.
use Rattle.whole.specs.Packed.{cell}
use Rattle.starts.proofs.Along.{Below}
use Rattle.residual.specs.Asks.{share}
use Rattle.residual.proofs.Sides.down.Given as goal

abbrev pub invariant-loop-j : goal.invariant-loop-j
invariant-loop-j l = Below l.self.a.starts.now l.self.a.numbers.now (λ k x. share (cell l.self.fixed.now k) x) l.i l.j l.sum
