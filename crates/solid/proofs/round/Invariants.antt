-- The pairs before k are rounded.
use mathlib.Core.Path.{◌≡◌}
use Prim.Native.Nat.{◌*◌}
use Rattle.whole.specs.Nearest.{nearest}
use Rattle.whole.specs.Packed.{cell}
use Rattle.whole.proofs.Sums.{filled}
use Rattle.solid.proofs.round.Given as goal

abbrev pub invariant-loop-k : goal.invariant-loop-k
invariant-loop-k l = l.p ≡ filled (λ k. nearest (cell l.initial.p k) (120 * l.s)) l.initial.p l.k
