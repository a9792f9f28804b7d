-- What the code's expressions are, as the machine has them, and that none overflows.
use mathlib.Core.Path.{◌≡◌}
use mathlib.Core.List.{List}
use Prim.Native.Nat.{ℕ, ◌+◌, ◌*◌, ◌^◌, ◌≤◌, ◌<◌}
use lib.Dec.{lit<}
use lib.IntN.{ℤ, pos, ◌-ℤ◌, ◌*ℤ◌}
use lib.ListN.{get_or}
use lib.Signed.{mag}
use mir.Syntax.{w64}
use mir.Val.{to_z}
use Rattle.whole.specs.Packed.{cell, Bounded}
use Rattle.whole.proofs.Linear.{apart-size}
use Rattle.whole.proofs.Calc.{Is, rd, num, cast, of, res, minus, times, again}
use Rattle.paper.specs.Corners.{from, area}
use Rattle.laws.proofs.Solids.{term_size}
use Rattle.simplex.specs.Asks.{OnGrid}

-- what `apart` gives
pub edge-is : {z : ℤ} (n : ℕ) (f : List ℕ) (p q : ℕ) → OnGrid n f → p < n → q < n → mag z < 2 ^ 63 → z ≡ from f p q → Is (rd z) (from f p q) 4095
edge-is n f p q h k l m e = res m e (of (apart-size (get_or f q 0) (get_or f p 0) 4095 (h q l) (h p k)))

-- a doubled area, step by step
pub record Area (f g : List ℕ) (p q r : ℕ) (x y z w : ℤ) : Type 0 where
  pub one : Is (rd x *ℤ rd y) (from f p q *ℤ from g p r) (4095 * 4095)
  pub other : Is (rd z *ℤ rd w) (from f p r *ℤ from g p q) (4095 * 4095)
  pub both : Is (rd (rd x *ℤ rd y) -ℤ rd (rd z *ℤ rd w)) (area f g p q r) (4095 * 4095 + 4095 * 4095)

pub areas : {x y z w : ℤ} (n : ℕ) (f g : List ℕ) (p q r : ℕ) → OnGrid n f → OnGrid n g → p < n → q < n → r < n
    → mag x < 2 ^ 63 → x ≡ from f p q → mag y < 2 ^ 63 → y ≡ from g p r → mag z < 2 ^ 63 → z ≡ from f p r → mag w < 2 ^ 63 → w ≡ from g p q
    → Area f g p q r x y z w
unfolding area
areas n f g p q r hf hg hp hq hr mx ex my ey mz ez mw ew =
    let x = edge-is n f p q hf hp hq mx ex in
    let y = edge-is n g p r hg hp hr my ey in
    let z = edge-is n f p r hf hp hr mz ez in
    let w = edge-is n g p q hg hp hq mw ew in
    record { one = times x y; other = times z w; both = minus (again (times x y) (lit< tt)) (again (times z w) (lit< tt)) }

-- k times two of a factor's numbers
pub record Term (k : ℕ) (f : List ℤ) (i j : ℕ) : Type 0 where
  pub both : Is (rd (cell f i) *ℤ rd (cell f j)) (cell f i *ℤ cell f j) (1023 * 1023 * (1023 * 1023))
  pub all : Is (to_z w64 k *ℤ rd (rd (cell f i) *ℤ rd (cell f j))) (pos k *ℤ (cell f i *ℤ cell f j)) term_size

pub term_is : (k : ℕ) (f : List ℤ) (i j : ℕ) → k ≤ 500000 → Bounded (1023 * 1023) f → Term k f i j
term_is k f i j h b =
    let p = num (cell f i) (b.each i) (lit< tt) in
    let q = num (cell f j) (b.each j) (lit< tt) in
    record { both = times p q; all = times (cast k h (lit< tt)) (again (times p q) (lit< tt)) }
