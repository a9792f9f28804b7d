use mathlib.Core.Path.{◌∙◌}
use native.Mathlib.Omega.{arith}
use Prim.Native.Nat.{◌-◌}
use Rattle.correction.proofs.FromLast.{sweep-no, sweep-asks, sweep-yes, sweep-end}
use Rattle.correction.proofs.Factor.sweep.Goals as goal

pub returns-then-unsigned_abs-gt68719476736 : goal.returns-then-unsigned_abs-gt68719476736
returns-then-unsigned_abs-gt68719476736 c = sweep-no c.args.self.sound c.loop-k.invariant (c.loop-k.k - 1) (omega arith) c.unsigned_abs.result c.unsigned_abs.ensures.value c.if-unsigned_abs-gt68719476736.true _

pub less-requires : goal.less-requires
less-requires c =
    let k = c.loop-k.k - 1 in
    sweep-asks c.args.self.sound c.loop-k.invariant k (omega arith) c.unsigned_abs.result c.unsigned_abs.ensures.value c.if-unsigned_abs-gt68719476736.false (c.start-s.ensures ∙ c.args.self.sound.lent.each k (omega (arith, c.loop-k.invariant.state.upto))) c.first-f.ensures

pub loop-k-preserved : goal.loop-k-preserved
loop-k-preserved c =
    let k = c.loop-k.k - 1 in
    sweep-yes c.args.self.sound c.loop-k.invariant k (omega arith) c.unsigned_abs.result c.unsigned_abs.ensures.value c.if-unsigned_abs-gt68719476736.false (c.start-s.ensures ∙ c.args.self.sound.lent.each k (omega (arith, c.loop-k.invariant.state.upto))) c.first-f.ensures _ c.less.ensures

pub returns : goal.returns
returns c = sweep-end c.loop-k.invariant (omega arith)
