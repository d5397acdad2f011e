use Rattle.std.proofs.Common.{◌≡◌, ◌≤◌, length, take}
use Rattle.recorded_lanes.specs.world_parts.lane_models.NetLaneState.{IsNetShape}
use Rattle.domain_script.specs.Declarations.{AddressesDiffer}
use Rattle.lane_kinds.specs.Lanes.{EachOf}
use Rattle.recorded_lanes.specs.switched_ports.Shapes.{shapes_of}
use Rattle.recorded_lanes.specs.world_parts.Declared.{nets_of}
use Rattle.ldom_world.proofs.lanes.port_shapes.Given as goal

abbrev pub invariant-loop-k : goal.invariant-loop-k
invariant-loop-k l = record {
  shapes : shapes_of l.shapes.items ≡ nets_of (take l.k l.fn.names.ports);
  sound : EachOf IsNetShape (nets_of (take l.k l.fn.names.ports));
  long : length l.shapes.items ≡ l.k;
  few : 1 ≤ l.k → length l.fn.names.ports ≤ 8;
  differ : 1 ≤ l.k → AddressesDiffer l.fn.names.ports;
}
