-- A square whose rows are made new from the first on.
use mathlib.Core.Path.{◌≡◌, refl, sym, ap, subst, ◌∙◌}
use mathlib.Core.List.{List, [], ◌∷◌, ◌++◌, append-nil, append_assoc}
use Prim.Native.Nat.{ℕ, zero, suc, ◌+◌, ◌^◌, ◌≤◌, ◌<◌}
use native.Mathlib.Numerals.{add-one}
use native.Mathlib.Omega.{arith}
use lib.IntN.{ℤ, nat_abs}
use lib.ListN.{length, length-append, get_or, drop, set, drop_of_length-le}
use lib.Seq.{drop-cons, set_at, get_or_at}
use Rattle.whole.specs.Sums.{table}
use Rattle.whole.specs.Packed.{cell, Bounded}
use Rattle.whole.proofs.Sums.{filled, filled_more, filled_next}
use Rattle.whole.specs.Squares.{at, rows_of, Small}

rows-length : (k m : ℕ) (f : ℕ → ℕ → ℤ) → length (rows_of k m f) ≡ k
unfolding rows_of
rows-length zero m f = refl
rows-length (suc k) m f = length-append (rows_of k m f) (table m (f k) ∷ []) ∙ omega (arith, rows-length k m f)

-- i rows of f, and the rest of q
abbrev pub rowed : ℕ → (ℕ → ℕ → ℤ) → List (List ℤ) → ℕ → List (List ℤ)
rowed m f q i = rows_of i m f ++ drop i q

pub rowed_none : (m : ℕ) (f : ℕ → ℕ → ℤ) (q : List (List ℤ)) → q ≡ rowed m f q 0
unfolding rows_of
rowed_none m f q = refl

pub rowed_more : (m : ℕ) (f : ℕ → ℕ → ℤ) (q : List (List ℤ)) (i : ℕ) → i < length q → set (rowed m f q i) i (table m (f i)) ≡ rowed m f q (i + 1)
unfolding rows_of
rowed_more m f q i h =
    ap (λ (d : List (List ℤ)). set (rows_of i m f ++ d) i (table m (f i))) (drop-cons q i [] h)
    ∙ set_at (rows_of i m f) (get_or q i []) (drop (suc i) q) (table m (f i)) i (rows-length i m f)
    ∙ sym (append_assoc (rows_of i m f) (table m (f i) ∷ []) (drop (suc i) q))
    ∙ ap (λ (k : ℕ). rowed m f q k) (sym (add-one i))

-- the next row is as it was
pub rowed_next : (m : ℕ) (f : ℕ → ℕ → ℤ) (q : List (List ℤ)) (i : ℕ) → i < length q → get_or (rowed m f q i) i [] ≡ get_or q i []
rowed_next m f q i h =
    ap (λ (d : List (List ℤ)). get_or (rows_of i m f ++ d) i []) (drop-cons q i [] h)
    ∙ get_or_at (rows_of i m f) (get_or q i []) (drop (suc i) q) [] i (rows-length i m f)

pub rowed-end : (m : ℕ) (f : ℕ → ℕ → ℤ) (q : List (List ℤ)) (n : ℕ) → length q ≡ n → rowed m f q n ≡ rows_of n m f
rowed-end m f q n e = ap (λ (d : List (List ℤ)). rows_of n m f ++ d) (drop_of_length-le q {i = n} (omega arith)) ∙ append-nil (rows_of n m f)

-- ---- a turn: row i is read, and written

module _ (op : ℤ → ℤ → ℤ) (q : List (List ℤ)) (p : List (List ℤ)) (i : ℕ) (h : i < length q) where
  abbrev made : ℕ → ℕ → ℤ
  made a b = op (at q a b) (at p a b)

  pub row_small : {r : List (List ℤ)} → r ≡ rowed 4 made q i → Small (2 ^ 60) q → Bounded (2 ^ 60) (get_or r i [])
  row_small e s = subst (Bounded (2 ^ 60)) (sym (ap (λ (x : List (List ℤ)). get_or x i []) e ∙ rowed_next 4 made q i h)) (record { each = s.each i })

  pub turn : {r : List (List ℤ)} {new : List ℤ} → r ≡ rowed 4 made q i → new ≡ table 4 (λ k. op (cell (get_or r i []) k) (at p i k)) → set r i new ≡ rowed 4 made q (i + 1)
  turn {r} {new} e n =
      let was : get_or r i [] ≡ get_or q i [] = ap (λ (x : List (List ℤ)). get_or x i []) e ∙ rowed_next 4 made q i h in
      (λ t. set (e t) i ((n ∙ ap (λ (l : List ℤ). table 4 (λ k. op (cell l k) (at p i k))) was) t)) ∙ rowed_more 4 made q i h

-- ---- and within a row

module _ (op : ℤ → ℤ → ℤ) (s p : List ℤ) (k : ℕ) (h : k < length s) where
  abbrev fresh : ℕ → ℤ
  fresh i = op (cell s i) (cell p i)

  was : {r : List ℤ} → r ≡ filled fresh s k → cell r k ≡ cell s k
  was e = ap (λ (x : List ℤ). cell x k) e ∙ filled_next fresh s k h

  pub cell_small : {r : List ℤ} → r ≡ filled fresh s k → Bounded (2 ^ 60) s → nat_abs (cell r k) ≤ 2 ^ 60
  cell_small {r} e b = subst (λ (x : ℤ). nat_abs x ≤ 2 ^ 60) (sym (was e)) (b.each k)

  pub step : {r : List ℤ} {v : ℤ} → r ≡ filled fresh s k → v ≡ op (cell r k) (cell p k) → set r k v ≡ filled fresh s (k + 1)
  step e q = (λ t. set (e t) k ((q ∙ ap (λ (x : ℤ). op x (cell p k)) (was e)) t)) ∙ filled_more fresh s k h
