-- A chain of tests by `&&`, told test by test.
use mathlib.Core.Path.{◌≡◌, sym, ap, ◌∙◌}
use mathlib.Core.Bool.{Bool, true, false, ◌&&◌}

-- r is what the next test told, v what the chain so far is
pub and-then : {v a r A B : Bool} → a ≡ A → a ≡ true → r ≡ B → v ≡ r → v ≡ (A && B)
and-then {B} p q e w = w ∙ e ∙ ap (λ (t : Bool). t && B) (sym q ∙ p)

pub and-else : {v a A : Bool} (B : Bool) → a ≡ A → a ≡ false → v ≡ a → v ≡ (A && B)
and-else B p q w = w ∙ q ∙ ap (λ (t : Bool). t && B) (sym q ∙ p)
