use mathlib.Core.Path.{◌≡◌}
use Prim.Native.Nat.{◌+◌, ◌-◌}
use native.Mathlib.Omega.{arith}
use borrow.Author.Rules.{rules}
use Rattle.whole.specs.Packed.{cell}
use Rattle.starts.proofs.Along.{walk-in, along-start, along-sum, along-next, along-end}
use Rattle.residual.specs.Asks.{share}
use Rattle.residual.proofs.Terms.{share-none, share-read, bound-fits}
use Rattle.residual.proofs.Sides.left.Goals as goal

pub loop-j-init : goal.loop-j-init
loop-j-init c = along-start c.args.self.a.starts.now c.args.self.a.numbers.now (λ k x. share (cell c.args.self.fixed.now k) x) c.requires (λ k. share-none (cell c.args.self.fixed.now k)) (omega (arith, c.start-s.ensures)) c.first-f.ensures

pub bounds-a-s : goal.bounds-a-s
bounds-a-s c = walk-in c.args.self.a.starts.now c.args.self.a.numbers.now c.args.self.bounds.lent c.requires c.loop-j.invariant.walk (omega arith)

pub overflow_add-s : goal.overflow_add-s
overflow_add-s c =
    let h = walk-in c.args.self.a.starts.now c.args.self.a.numbers.now c.args.self.bounds.lent c.requires c.loop-j.invariant.walk (omega arith) in
    omega arith

pub offset_bounds-a-s : goal.offset_bounds-a-s
offset_bounds-a-s c =
    let h = walk-in c.args.self.a.starts.now c.args.self.a.numbers.now c.args.self.bounds.lent c.requires c.loop-j.invariant.walk (omega arith) in
    omega arith

pub overflow_add-sum : goal.overflow_add-sum
overflow_add-sum c =
    let h = bound-fits c.args.self.bounds.light c.args.self.fixed.now c.args.i c.loop-j.j c.requires (omega (arith, c.requires)) (along-sum c.args.self.a.starts.now c.args.self.a.numbers.now (λ k x. share (cell c.args.self.fixed.now k) x) c.requires c.args.self.bounds.lent c.loop-j.invariant (omega arith) (share-read (cell c.args.self.fixed.now c.loop-j.j) (cell c.args.self.a.numbers.now (c.start-s.result + (c.loop-j.j - c.first-f.result))) (c.args.self.bounds.mild.each c.loop-j.j (omega (arith, c.requires))) (search rules) c.share-sum.ensures)) in
    omega arith

pub loop-j-preserved : goal.loop-j-preserved
loop-j-preserved c =
    let e : c.start-s.result + (c.loop-j.j - c.first-f.result) + 1 ≡ c.start-s.result + (c.loop-j.j + 1 - c.first-f.result) = omega (arith, c.loop-j.invariant.walk.from, c.first-f.ensures) in
    rw e at (along-next c.args.self.a.starts.now c.args.self.a.numbers.now (λ k x. share (cell c.args.self.fixed.now k) x) c.requires c.args.self.bounds.lent c.loop-j.invariant (omega arith) (share-read (cell c.args.self.fixed.now c.loop-j.j) (cell c.args.self.a.numbers.now (c.start-s.result + (c.loop-j.j - c.first-f.result))) (c.args.self.bounds.mild.each c.loop-j.j (omega (arith, c.requires))) (search rules) c.share-sum.ensures))

pub returns : goal.returns
returns c = along-end c.args.self.a.starts.now c.args.self.a.numbers.now (λ k x. share (cell c.args.self.fixed.now k) x) c.requires c.loop-j.invariant (omega arith)
