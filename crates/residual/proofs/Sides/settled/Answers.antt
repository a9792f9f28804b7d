-- A fixed row, the diagonal alone, or the whole row.
use Rattle.residual.proofs.Settling.{fixed-settled, bound-settled, own-settled}
use Rattle.residual.proofs.Sides.settled.Goals as goal

pub returns-then-fixed-i-ge0 : goal.returns-then-fixed-i-ge0
returns-then-fixed-i-ge0 c = fixed-settled c.args.self.bounds.light c.args.self.bounds.mild c.requires c.args.r c.ranges.r c.unsigned_abs-m.result c.unsigned_abs-m.ensures.value c.if-fixed-i-ge0.true

pub returns-then-m-unsigned_abs : goal.returns-then-m-unsigned_abs
returns-then-m-unsigned_abs c = own-settled c.args.self.bounds.light c.args.self.bounds.mild c.requires c.args.r c.ranges.r c.unsigned_abs-m.result c.unsigned_abs-m.ensures.value c.if-fixed-i-ge0.false c.diagonal.ensures c.unsigned_abs.result c.unsigned_abs.ensures.value c.if-m-unsigned_abs.true

pub returns : goal.returns
returns c = bound-settled c.args.self.bounds.light c.args.self.bounds.mild c.requires c.args.r c.ranges.r c.unsigned_abs-m.result c.unsigned_abs-m.ensures.value c.if-fixed-i-ge0.false c.down.result c.down.ensures
