use mathlib.Core.Path.{refl, ap, ◌∙◌}
use native.Mathlib.Omega.{arith}
use Prim.Native.Nat.{ℕ}
use Rattle.whole.specs.Sums.{sum_n}
use Rattle.whole.proofs.First.{look-start, look-here, look-on, look-end}
use Rattle.paper.specs.declared.Refusal.TheVariants.{Zone}
use Rattle.paper_zones.specs.Zones.{zones, zone_start, refused_at, wrong_zone}
use Rattle.zones_judged.proofs.Turns.{refused_here, rest-has, rest-on, zone-told}
use Rattle.zones_judged.proofs.judge_zones.Goals as goal

pub loop-z-init : goal.loop-z-init
unfolding zone_start sum_n
loop-z-init c = (look-start _ (zones c.args.counts.now), refl)

pub split_at-requires : goal.split_at-requires
split_at-requires c = rest-has c.args.counts.now c.args.members.now c.loop-z.rest.now c.loop-z.z c.loop-z.invariant.1 c.loop-z-test.true c.requires.0

pub returns-then-wrong : goal.returns-then-wrong
unfolding wrong_zone
returns-then-wrong c = refused_here c.loop-z.z _ Zone (look-here c.loop-z.invariant.0 c.loop-z-test.true (zone-told c.args.n c.args.counts.now c.args.members.now c.loop-z.rest.now _ c.loop-z.z c.loop-z.invariant.1 c.split_at.ensures.front c.wrong.ensures c.if-wrong.true))

pub loop-z-preserved : goal.loop-z-preserved
loop-z-preserved c = (look-on c.loop-z.invariant.0 c.loop-z-test.true (zone-told c.args.n c.args.counts.now c.args.members.now c.loop-z.rest.now _ c.loop-z.z c.loop-z.invariant.1 c.split_at.ensures.front c.wrong.ensures c.if-wrong.false), c.split_at.ensures.back ∙ rest-on c.args.counts.now c.args.members.now c.loop-z.rest.now c.loop-z.z c.loop-z.invariant.1)

pub returns : goal.returns
unfolding wrong_zone
returns c = ap (λ (k : ℕ). refused_at k Zone) (look-end c.loop-z.invariant.0 (omega arith))
