-- The list is filled from the front.
use mathlib.Core.Path.{◌≡◌}
use mathlib.Core.List.{List}
use Prim.Native.Nat.{ℕ, ◌≤◌}
use lib.IntN.{ℤ, pos, nat_abs, ◌*ℤ◌}
use lib.ListN.{length}
use Rattle.whole.specs.Nearest.{nearest}
use Rattle.whole.specs.Packed.{cell}
use Rattle.whole.proofs.Sums.{filled}
use Rattle.whole.specs.Kept.{spot}
use Rattle.starts.specs.Lent.{by}
use Rattle.correction.proofs.Factor.zs.Given as goal

-- z of a row
abbrev pub z_at : List ℕ → List ℤ → List ℤ → ℕ → ℤ
z_at st l xs₀ i = nearest (pos 256 *ℤ cell xs₀ i) (nat_abs (cell l (spot (by st l) i i)))

pub record Inv (st : List ℕ) (l xs₀ xs : List ℤ) (i : ℕ) : Type 0 where
  pub upto : i ≤ length st
  pub so : xs ≡ filled (z_at st l xs₀) xs₀ i

abbrev pub invariant-loop-i : goal.invariant-loop-i
invariant-loop-i l = Inv l.self.rows.starts.now l.self.rows.numbers.now l.initial.x l.x l.i
