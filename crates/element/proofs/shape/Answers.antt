-- Its corners, and two fields of each.
use mathlib.Core.Path.{◌∙◌, ap}
use mathlib.Core.List.{map}
use native.Mathlib.Omega.{arith}
use Rattle.paper.specs.Cards.{field}
use Rattle.paper.specs.Corners.{shape_of}
use Rattle.element.proofs.Ranges.{nodes-in}
use Rattle.element.proofs.shape.Goals as goal

pub along-requires : goal.along-requires
along-requires g c =
    let few = c.requires.few in
    (omega (arith, few), (omega (arith, few), (omega arith, nodes-in c.args.deck.table.now c.args.card.now c.corners-corners.result g.row.N c.requires c.corners-corners.ensures)))

pub along-requires-2 : goal.along-requires-2
along-requires-2 g c =
    let few = c.requires.few in
    (omega (arith, few), (omega (arith, few), (omega arith, nodes-in c.args.deck.table.now c.args.card.now c.corners-corners.result g.row.N c.requires c.corners-corners.ensures)))

pub returns : goal.returns
unfolding shape_of
returns g c =
    let t = c.args.deck.table.now in
    let e = c.corners-corners.ensures in
    λ d. record { corners = e d; xs = (c.along.ensures ∙ ap (map (λ n. field t n 1)) e) d; ys = (c.along-2.ensures ∙ ap (map (λ n. field t n 2)) e) d }
