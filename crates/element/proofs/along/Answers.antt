use native.Mathlib.Omega.{arith}
use Rattle.element.proofs.Ranges.{node-at, along_is}
use Rattle.element.proofs.along.Goals as goal

pub field-requires : goal.field-requires
field-requires g c = let l = c.loop-a in node-at c.args.deck.table.now c.args.nodes.now l.a c.args.k c.args.deck.accepted c.requires.0 (omega arith) (c.requires.1 l.a (omega arith)) c.node_row.ensures

pub returns : goal.returns
returns g c = let l = c.loop-a in along_is c.args.deck.table.now l.fields c.args.nodes.now c.args.k g.row.N l.invariant.0 (omega arith) (λ b h. l.invariant.1 b (omega arith))
