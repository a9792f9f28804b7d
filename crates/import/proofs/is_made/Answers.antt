use mathlib.Core.Path.{◌≡◌, refl, sym, ap, ◌∙◌}
use mathlib.Core.Bool.{Bool, true, ◌||◌}
use mathlib.Core.List.{List}
use mathlib.Core.Logic.{⊎_elim}
use Prim.Native.Nat.{ℕ, ◌<◌}
use native.Mathlib.Omega.{arith}
use lib.Dec.{eqb}
use lib.ListN.{get_or}
use borrow.Author.Tests.{ne_eqb}
use Rattle.paper.specs.Kinds.{about, kind_of, letter_of}
use Rattle.paper.specs.declared.Kind.{Kind}
use Rattle.paper.specs.declared.Kind.TheVariants.{H, F, T}
use Rattle.paper_records.specs.Records.{is_made}
use Rattle.laws.proofs.Letters.{kind-of, letter-of}
use Rattle.import.proofs.is_made.Goals as goal

abbrev test : ℕ → Bool
test l = eqb l (letter_of H) || eqb l (letter_of F) || eqb l (letter_of T)

by_kind : (l : ℕ) (k : Kind) (card : List ℕ) → (about k).order < 12 → true ≡ test (letter_of k) → kind_of l ≡ k → l ≡ get_or card 0 0 → true ≡ is_made card
by_kind l k card o t q e = t ∙ ap test (sym (letter-of l k q o) ∙ e)

pub returns-in-H : goal.returns-in-H
unfolding about
returns-in-H c = λ card e.
    let at = λ (k : Kind) (q : c.kind.result ≡ k). sym c.kind.ensures ∙ q in
    ⊎_elim (λ q. by_kind c.args.letter H card (omega arith) refl (at H q) e) (⊎_elim (λ q. by_kind c.args.letter F card (omega arith) refl (at F q) e) (λ q. by_kind c.args.letter T card (omega arith) refl (at T q) e)) c.in-H.is

pub returns-in_default : goal.returns-in_default
returns-in_default c = λ card e.
    let n = λ (k : Kind) (not : c.kind.result ≡ k → ⊥). ne_eqb (get_or card 0 0) (letter_of k) (λ z. not (c.kind.ensures ∙ kind-of c.args.letter k (e ∙ z))) in
    simp (n H c.in_default.not-H, n F c.in_default.not-F, n T c.in_default.not-T)
