-- A number counted from 1 is found, and 0 is none.
use mathlib.Core.Path.{◌≡◌, sym, ap, ◌∙◌}
use Prim.Native.Nat.{ℕ, ◌+◌}
use native.Mathlib.Numerals.{add-one}
use Rattle.std.specs.Prelude.{Some}
use Rattle.whole.specs.Sums.{from_one}

pub some_from : (n : ℕ) {m : ℕ} → n + 1 ≡ m → Some (n + 1) ≡ from_one m
some_from n e = ap Some (add-one n) ∙ ap from_one (sym (add-one n) ∙ e)
