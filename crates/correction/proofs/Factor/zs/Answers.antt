use mathlib.Core.Path.{◌≡◌, ap, ◌∙◌}
use mathlib.Core.List.{List}
use Prim.Native.Nat.{ℕ, ◌+◌, ◌^◌, ◌≤◌, ◌<◌}
use native.Mathlib.Omega.{arith}
use borrow.Author.Rules.{sfits_of}
use lib.Dec.{lit<}
use lib.IntN.{ℤ, pos, nat_abs, ◌*ℤ◌}
use lib.Signed.{◌<ℤ◌}
use lib.ListN.{length, set}
use mir.Syntax.{w64}
use mir.Val.{SFits}
use mir.Facts.{to_z-of_z}
use Rattle.whole.specs.Nearest.{nearest}
use Rattle.whole.specs.Packed.{cell, entry}
use Rattle.whole.proofs.Sums.{filled, filled_none, filled_next, filled_more, filled-length, filled-end}
use Rattle.whole.proofs.Calc.{Is, rd, num, size_of}
use Rattle.whole.specs.Kept.{spot}
use Rattle.correction.specs.Rows.{zs_of}
use Rattle.whole.proofs.Packed.{place-low}
use Rattle.whole.proofs.Kept.{expand-cell}
use Rattle.whole.proofs.RowStarts.{by-low}
use Rattle.starts.specs.Lent.{by, wide}
use Rattle.correction.specs.Asks.{Sound, Back}
use Rattle.correction.proofs.Kept.{pivot-above}
use Rattle.correction.proofs.Factor.zs.Invariants.{z_at, Inv}
use Rattle.correction.proofs.Factor.zs.Goals as goal

module _ {st : List ℕ} {l xs₀ : List ℤ} (q : Sound st l) (b : Back xs₀ (length st) (length st)) {xs : List ℤ} {i : ℕ} (inv : Inv st l xs₀ xs i) where
  long : length xs ≡ length st
  long = ap length inv.so ∙ filled-length (z_at st l xs₀) xs₀ i (omega (arith, b.long, inv.upto)) ∙ b.long

  module _ (h : i < length st) where
    same : cell xs i ≡ cell xs₀ i
    same = ap (λ (z : List ℤ). cell z i) inv.so ∙ filled_next (z_at st l xs₀) xs₀ i (omega (arith, b.long))

    y-is : Is (rd (cell xs i)) (cell xs i) (2 ^ 52)
    y-is = num (cell xs i) (rw same (b.below i h)) (lit< tt)

    -- the diagonal, as the code has it
    module _ {d : ℤ} (fd : SFits w64 d) (ed : d ≡ entry (wide st l) i i) where
      d-is : rd d ≡ cell l (spot (by st l) i i)
      d-is = to_z-of_z fd ∙ ed ∙ ap (cell (wide st l)) (place-low i i (omega arith)) ∙ expand-cell (by st l) (length st) i i l h (by-low st (length l) i) (omega arith)

      z-asks : (nat_abs (rd (cell xs i)) ≤ 2 ^ 52) × (pos 0 <ℤ rd d)
      z-asks = (size_of y-is, rw d-is (pivot-above q i h))

      more : {r : ℤ} → SFits w64 r → r ≡ nearest (pos 256 *ℤ rd (cell xs i)) (nat_abs (rd d)) → Inv st l xs₀ (set xs i (rd r)) (i + 1)
      more {r} fr er =
          let x : rd (cell xs i) ≡ cell xs₀ i = y-is.eq ∙ same in
          let z : rd r ≡ z_at st l xs₀ i = to_z-of_z fr ∙ er ∙ (λ k. nearest (pos 256 *ℤ x k) (nat_abs (d-is k))) in
          record {
            upto = omega arith;
            so = (λ k. set (inv.so k) i (z k)) ∙ filled_more (z_at st l xs₀) xs₀ i (omega (arith, b.long));
          }

last : {st : List ℕ} {l xs₀ xs : List ℤ} {i : ℕ} → Back xs₀ (length st) (length st) → Inv st l xs₀ xs i → length st ≤ i → xs ≡ zs_of (by st l) l (length st) xs₀
unfolding zs_of
last {st} {l} {xs₀} {i} b inv h =
    let e : i ≡ length st = omega (arith, inv.upto) in
    inv.so ∙ ap (filled (z_at st l xs₀) xs₀) e ∙ filled-end (z_at st l xs₀) xs₀ (length st) b.long

pub loop-i-init : goal.loop-i-init
loop-i-init c = record { upto = omega arith; so = filled_none _ c.args.x.now }

pub z_of-requires : goal.z_of-requires
z_of-requires c = z-asks c.args.self.sound c.requires c.loop-i.invariant (omega arith) (sfits_of c.diagonal.type_inv) c.diagonal.ensures

pub loop-i-preserved : goal.loop-i-preserved
loop-i-preserved c = more c.args.self.sound c.requires c.loop-i.invariant (omega arith) (sfits_of c.diagonal.type_inv) c.diagonal.ensures (sfits_of c.z_of.type_inv) c.z_of.ensures

pub returns : goal.returns
returns c = last c.requires c.loop-i.invariant (omega arith)
