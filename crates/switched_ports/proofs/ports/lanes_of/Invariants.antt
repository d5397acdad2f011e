use Rattle.std.proofs.Common.{◌≡◌, map, take}
use Rattle.switched_ports.specs.Shapes.{lane_of}
use Rattle.switched_ports.proofs.ports.lanes_of.Given as goal

abbrev pub invariant-loop-shape : goal.invariant-loop-shape
invariant-loop-shape l = l.lanes.items ≡ map lane_of (take l.shape-index l.shapes)
