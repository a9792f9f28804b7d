use native.Mathlib.Omega.{arith}
use borrow.Author.Rules.{sfits_of}
use Rattle.whole.specs.Packed.{cell}
use Rattle.starts.proofs.Along.{below-sum, below_next}
use Rattle.residual.specs.Asks.{share}
use Rattle.residual.proofs.Terms.{share-read, bound-fits}
use Rattle.residual.proofs.Sides.down.Goals as goal

pub overflow_add-sum : goal.overflow_add-sum
overflow_add-sum c =
    let h = bound-fits c.args.self.bounds.light c.args.self.fixed.now c.args.i c.loop-j.j c.requires.0 c.loop-j-test.true (below-sum c.args.self.a.starts.now c.args.self.a.numbers.now (λ k x. share (cell c.args.self.fixed.now k) x) c.requires.0 c.loop-j.invariant c.loop-j-test.true c.number.ensures (share-read (cell c.args.self.fixed.now c.loop-j.j) c.number.result (c.args.self.bounds.mild.each c.loop-j.j c.loop-j-test.true) (sfits_of c.number.type_inv) c.share-sum.ensures)) in
    omega arith

pub loop-j-preserved : goal.loop-j-preserved
loop-j-preserved c = below_next c.args.self.a.starts.now c.args.self.a.numbers.now (λ k x. share (cell c.args.self.fixed.now k) x) c.requires.0 c.loop-j.invariant c.loop-j-test.true c.number.ensures (share-read (cell c.args.self.fixed.now c.loop-j.j) c.number.result (c.args.self.bounds.mild.each c.loop-j.j c.loop-j-test.true) (sfits_of c.number.type_inv) c.share-sum.ensures)
