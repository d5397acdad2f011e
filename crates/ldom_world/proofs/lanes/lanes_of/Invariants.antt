use Rattle.std.proofs.Common.{◌≡◌, ◌*◌, ◌≤◌, length, map, take}
use Rattle.recorded_lanes.specs.world_parts.lane_models.LaneState.{fresh}
use Rattle.recorded_lanes.specs.world_parts.Declared.{blocks_of, shapes_of}
use Rattle.ldom_world.proofs.lanes.lanes_of.Given as goal

abbrev pub invariant-loop-k : goal.invariant-loop-k
invariant-loop-k l = record {
  lanes : l.lanes.items ≡ map fresh (shapes_of 0 (take l.k l.fn.names.disks));
  first : l.first ≡ blocks_of (take l.k l.fn.names.disks);
  long : length l.lanes.items ≡ l.k;
  small : l.first ≤ 65536 * l.k;
  few : 1 ≤ l.k → length l.fn.names.disks ≤ 8;
}
