use mathlib.Core.Path.{sym, ◌∙◌}
use Rattle.whole.proofs.First.{look-here, look-on, look-end}
use Rattle.paper.specs.Cards.{row_at}
use Rattle.laws.proofs.Rows.{first-at}
use Rattle.import.proofs.Turns.{made_found, made_none}
use Rattle.import.proofs.none_made.Goals as goal

pub returns-then-is_made : goal.returns-then-is_made
returns-then-is_made c =
    let e = c.is_made.ensures (row_at c.args.t.now c.loop-i.i) (first-at c.args.t.now c.loop-i.i) in
    made_found c.loop-i.i _ (look-here c.loop-i.invariant c.loop-i-test.true (sym e ∙ c.if-is_made.true))

pub loop-i-preserved : goal.loop-i-preserved
loop-i-preserved c =
    let e = c.is_made.ensures (row_at c.args.t.now c.loop-i.i) (first-at c.args.t.now c.loop-i.i) in
    look-on c.loop-i.invariant c.loop-i-test.true (sym e ∙ c.if-is_made.false)

pub returns : goal.returns
returns c = made_none _ (look-end c.loop-i.invariant c.loop-i-test.false)
