-- The invariant: the sum is that of the columns so far.
use Prim.Native.Nat.{◌+◌, ◌-◌}
use Rattle.whole.specs.Packed.{cell}
use Rattle.starts.proofs.Along.{Along}
use Rattle.residual.specs.Asks.{share}
use Rattle.residual.proofs.Sides.left.Given as goal

abbrev pub invariant-loop-j : goal.invariant-loop-j
invariant-loop-j l = Along l.self.a.starts.now l.self.a.numbers.now (λ k x. share (cell l.self.fixed.now k) x) l.i (l.s + (l.j - l.f)) l.j l.sum
