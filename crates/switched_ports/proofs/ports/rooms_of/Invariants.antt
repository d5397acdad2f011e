use Rattle.std.proofs.Common.{◌≡◌, map, take}
use Rattle.switched_ports.proofs.ports.rooms_of.Given as goal

abbrev pub invariant-loop-shape : goal.invariant-loop-shape
invariant-loop-shape l = l.rooms.items ≡ map (λ shape. shape.slots) (take l.shape-index l.shapes)
