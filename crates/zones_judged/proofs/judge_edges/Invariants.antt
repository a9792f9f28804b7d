use mathlib.Core.Path.{◌≡◌}
use Prim.Native.Nat.{◌-◌}
use lib.ListN.{length}
use Rattle.whole.specs.Sums.{first_from}
use Rattle.paper_zones.specs.Zones.{sunk, sunk_edge}
use Rattle.zones_judged.proofs.judge_edges.Given as goal

abbrev pub invariant-loop-k : goal.invariant-loop-k
invariant-loop-k l = sunk_edge l.edges ≡ first_from (length l.edges - l.k) l.k (sunk l.edges)
