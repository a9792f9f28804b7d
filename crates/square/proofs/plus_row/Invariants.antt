-- The numbers before k are made new.
use mathlib.Core.Path.{◌≡◌}
use lib.IntN.{◌+ℤ◌}
use Rattle.whole.specs.Packed.{cell}
use Rattle.whole.proofs.Sums.{filled}
use Rattle.square.proofs.plus_row.Given as goal

abbrev pub invariant-loop-k : goal.invariant-loop-k
invariant-loop-k l = l.r ≡ filled (λ k. ◌+ℤ◌ (cell l.initial.r k) (cell l.p k)) l.initial.r l.k
