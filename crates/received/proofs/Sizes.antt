-- How long a part is that was read, and how many numbers its table has.
use mathlib.Core.Path.{◌≡◌, sym, ap, ◌∙◌}
use mathlib.Core.List.{List}
use Prim.Native.Nat.{ℕ, ◌+◌, ◌-◌, ◌*◌, ◌/◌, ◌≤◌}
use native.Mathlib.Omega.{arith}
use lib.ListN.{length, get_or, length-drop}
use Rattle.std.specs.declared.result.Result.TheVariants.{Ok}
use Rattle.paper.specs.Refusals.{Answer}
use Rattle.paper.specs.Cards.{cards}
use Rattle.paper.specs.Calls.{reads, read_part, last_card, start_of, counts_in}
use Rattle.laws.proofs.Reading.{trailer-told, accepted, part-read}

pub record Size (b : List ℕ) (room : ℕ) (p : List ℕ) : Type 0 where
  pub within : length p ≤ length b
  pub notes : length b - length p ≡ start_of b (last_card b)
  pub numbers : length p / 42 * 6 ≡ (cards (counts_in b) + 1) * 6
  pub fits : (cards (counts_in b) + 1) * 6 ≤ room

pub sizes : (b : List ℕ) (room : ℕ) (p : List ℕ) → reads b room ≡ Ok tt → p ≡ read_part b room → Size b room p
sizes b room p h e =
    let a = accepted b room h in
    let s = trailer-told (last_card b) (λ i. get_or b (start_of b (last_card b) + i * 42) 0) a.trails in
    let l : length p ≡ length b - start_of b (last_card b) = ap length (e ∙ sym (part-read b room h)) ∙ length-drop (start_of b (last_card b)) b in
    record { within = omega arith; notes = omega (arith, l, a.least, a.within); numbers = omega (arith, l, a.least, a.within, s.back); fits = a.fits }
