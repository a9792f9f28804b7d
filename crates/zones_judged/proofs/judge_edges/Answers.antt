use native.Mathlib.Omega.{arith}
use Rattle.paper.specs.declared.Refusal.TheVariants.{Falling}
use Rattle.zones_judged.proofs.Turns.{edges-start, edge-sunk, edge-above, edges-end}
use Rattle.zones_judged.proofs.judge_edges.Goals as goal

pub loop-k-init : goal.loop-k-init
loop-k-init c = edges-start c.args.edges.now

pub returns-then-edges-k : goal.returns-then-edges-k
returns-then-edges-k c = edge-sunk c.args.edges.now c.loop-k.k (omega arith) c.loop-k.invariant Falling c.loop-k-test.true (omega arith)

pub loop-k-preserved : goal.loop-k-preserved
loop-k-preserved c = edge-above c.args.edges.now c.loop-k.k (omega arith) c.loop-k.invariant c.loop-k-test.true (omega arith)

pub returns : goal.returns
returns c = edges-end c.args.edges.now c.loop-k.k (omega arith) c.loop-k.invariant Falling (omega arith)
