use native.Mathlib.Omega.{arith}
use lib.ListN.{length}
use borrow.Author.Rules.{rules}
use Rattle.whole.proofs.First.{look-here, look-on, look-end}
use Rattle.starts.specs.Lent.{wide}
use Rattle.residual.proofs.Settling.{loose-is, found, none-found}
use Rattle.residual.proofs.Sides.unsettled.Goals as goal

pub returns-then-not-settled : goal.returns-then-not-settled
returns-then-not-settled c =
    let s = c.args in let v = c.loop-i in
    found v.i (look-here v.invariant (omega arith) (loose-is (wide s.self.a.starts.now s.self.a.numbers.now) s.self.fixed.now s.r.now (length s.self.a.starts.now) v.i (search rules) c.settled.result c.settled.ensures c.if-not-settled.true))

pub loop-i-preserved : goal.loop-i-preserved
loop-i-preserved c =
    let s = c.args in let v = c.loop-i in
    look-on v.invariant (omega arith) (loose-is (wide s.self.a.starts.now s.self.a.numbers.now) s.self.fixed.now s.r.now (length s.self.a.starts.now) v.i (search rules) c.settled.result c.settled.ensures c.if-not-settled.false)

pub returns : goal.returns
returns c = none-found (look-end c.loop-i.invariant (omega arith))
