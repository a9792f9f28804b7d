use Rattle.std.specs.Prelude.{◌≡◌, IsTrue, ◌↔◌}
use Rattle.std.proofs.Common.{rules}
use Rattle.paper.specs.declared.Kind.TheVariants.{«V»}
use Rattle.element.proofs.Ranges.{solid-told}
use Rattle.element.proofs.is_solid.Goals as goal

pub returns : goal.returns
returns c =
    let same : IsTrue c.eq.result ↔ (c.kind.result ≡ «V») = search rules in
    solid-told c.args.card c.eq.result c.kind.ensures same
