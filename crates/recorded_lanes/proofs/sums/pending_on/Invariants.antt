use Rattle.std.proofs.Common.{◌≡◌, ◌≤◌, ◌*◌, ◌^◌, take}
use Rattle.world_parts.specs.world_laws.Settle.{pending_on}
use Rattle.recorded_lanes.proofs.sums.pending_on.Given as goal

abbrev pub invariant-loop-lane : goal.invariant-loop-lane
invariant-loop-lane l = record {
  sum : l.pending ≡ pending_on (take l.lane-index l.lanes);
  small : l.pending ≤ l.lane-index * 2 ^ 32;
}
