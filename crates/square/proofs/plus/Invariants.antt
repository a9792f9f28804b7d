-- The rows before i are made new.
use mathlib.Core.Path.{◌≡◌}
use lib.IntN.{◌+ℤ◌}
use Rattle.whole.specs.Squares.{at}
use Rattle.square.proofs.Rows.{rowed}
use Rattle.square.proofs.plus.Given as goal

abbrev pub invariant-loop-i : goal.invariant-loop-i
invariant-loop-i l = l.q ≡ rowed 4 (λ i j. ◌+ℤ◌ (at l.initial.q i j) (at l.p i j)) l.initial.q l.i
