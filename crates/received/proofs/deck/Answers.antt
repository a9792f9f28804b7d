use mathlib.Core.Path.{◌≡◌}
use native.Mathlib.Omega.{arith}
use lib.ListN.{length, take}
use Rattle.std.proofs.Common.{length-take-le}
use Rattle.received.proofs.Sizes.{sizes}
use Rattle.received.proofs.deck.Goals as goal

pub overflow_sub-result : goal.overflow_sub-result
overflow_sub-result g c =
    let n = c.in_ok-n.n in
    let b = c.fill.new.bytes in
    let e : length (take n b) ≡ n = length-take-le n b c.in_ok-n.ensures.bound in
    let z = sizes (take n b) (length c.args.table.now) c.in-Ok.part.now c.in-Ok.ensures.part.0 c.in-Ok.ensures.part.1 in
    omega (arith, e, z.within)

pub returns-in-Ok-clause-deck : goal.returns-in-Ok-clause-deck
returns-in-Ok-clause-deck g c =
    let n = c.in_ok-n.n in
    let b = c.fill.new.bytes in
    let e : length (take n b) ≡ n = length-take-le n b c.in_ok-n.ensures.bound in
    let z = sizes (take n b) (length c.args.table.now) c.in-Ok.part.now c.in-Ok.ensures.part.0 c.in-Ok.ensures.part.1 in
    record { count = n; fits = c.in_ok-n.ensures.bound; came = c.in_ok-n.ensures.came; table = c.part.ensures.table; is = (c.in-Ok.ensures.part.0, omega (arith, e, z.notes), z.numbers) }

pub returns-in-Ok-clause-within : goal.returns-in-Ok-clause-within
returns-in-Ok-clause-within g c =
    let n = c.in_ok-n.n in
    let b = c.fill.new.bytes in
    let z = sizes (take n b) (length c.args.table.now) c.in-Ok.part.now c.in-Ok.ensures.part.0 c.in-Ok.ensures.part.1 in
    (omega (arith, c.in_ok-n.ensures.bound), omega (arith, z.numbers, z.fits, c.part.auto.table))
