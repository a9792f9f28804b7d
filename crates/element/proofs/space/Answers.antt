-- And one field more.
use mathlib.Core.Path.{◌∙◌, ap}
use mathlib.Core.List.{map}
use native.Mathlib.Omega.{arith}
use Rattle.paper.specs.Cards.{field}
use Rattle.paper.specs.Corners.{Shape, shape_of}
use Rattle.paper.specs.Tetrahedron.{space_of}
use Rattle.element.proofs.Ranges.{nodes-in}
use Rattle.element.proofs.space.Goals as goal

pub along-z-requires : goal.along-z-requires
unfolding shape_of
along-z-requires g c =
    let few = c.requires.few in
    (omega (arith, few), (omega (arith, few), (omega arith, nodes-in c.args.deck.table.now c.args.card.now c.shape-shape.result.corners g.row.N c.requires (ap (λ (s : Shape). s.corners) c.shape-shape.ensures))))

pub returns : goal.returns
unfolding space_of shape_of
returns g c =
    let t = c.args.deck.table.now in
    let e = c.shape-shape.ensures in
    λ d. record { shape = e d; zs = (c.along-z.ensures ∙ ap (λ (s : Shape). map (λ n. field t n 3) s.corners) e) d }
