use mathlib.Core.Path.{◌≡◌}
use lib.ListN.{drop}
use Rattle.whole.proofs.First.{Looking}
use Rattle.paper_zones.specs.Zones.{zones, zone_start, zone_at, wrong}
use Rattle.zones_judged.proofs.judge_zones.Given as goal

abbrev pub invariant-loop-z : goal.invariant-loop-z
invariant-loop-z l = Looking (λ k. wrong l.n (zone_at l.counts l.members k)) (zones l.counts) l.z × (l.rest ≡ drop (zone_start l.counts l.z) l.members)
