use mathlib.Core.Path.{◌∙◌}
use native.Mathlib.Omega.{arith}
use borrow.Author.Rules.{sfits_of}
use Rattle.correction.proofs.AlongRows.{row-asks, row-y, forward-no, forward-yes, forward-end, under_next}
use Rattle.correction.proofs.Factor.forward.Goals as goal

pub y_at-v-requires : goal.y_at-v-requires
y_at-v-requires c = (row-asks c.args.self.sound c.loop-i.invariant.0.state c.loop-i-test.true c.start-s.ensures c.first-f.ensures, c.loop-i.invariant.1)

pub returns-then-size-gt4503599627370496 : goal.returns-then-size-gt4503599627370496
returns-then-size-gt4503599627370496 c = forward-no c.loop-i.invariant.0 c.loop-i-test.true c.y_at-v.result (sfits_of c.y_at-v.type_inv) (c.y_at-v.ensures ∙ row-y c.args.self.sound c.loop-i.i c.loop-i.y c.loop-i-test.true c.start-s.ensures c.first-f.ensures) c.unsigned_abs-size.result c.unsigned_abs-size.ensures.value c.if-size-gt4503599627370496.true

pub loop-i-preserved : goal.loop-i-preserved
loop-i-preserved c = (forward-yes c.loop-i.invariant.0 c.loop-i-test.true c.y_at-v.result (sfits_of c.y_at-v.type_inv) (c.y_at-v.ensures ∙ row-y c.args.self.sound c.loop-i.i c.loop-i.y c.loop-i-test.true c.start-s.ensures c.first-f.ensures) c.unsigned_abs-size.result c.unsigned_abs-size.ensures.value c.if-size-gt4503599627370496.false, under_next c.loop-i.invariant.0.state c.loop-i.invariant.1 c.loop-i-test.true _ c.unsigned_abs-size.result c.unsigned_abs-size.ensures.value c.max-most.result c.max-most.ensures)

pub returns : goal.returns
returns c = forward-end c.loop-i.invariant.0 (omega arith)
