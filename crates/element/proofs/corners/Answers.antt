use native.Mathlib.Omega.{arith}
use Rattle.element.proofs.Ranges.{corners_are}
use Rattle.element.proofs.corners.Goals as goal

pub returns : goal.returns
returns g c = let l = c.loop-k in corners_are c.args.card.now l.nodes g.row.N l.invariant.0 (λ a h. l.invariant.1 a (omega arith))
