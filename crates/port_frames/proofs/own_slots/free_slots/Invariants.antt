use Rattle.std.proofs.Common.{◌≡◌, ◌+◌, ◌-◌, length}
use Rattle.lane_models.specs.NetEndTaking.{freed}
use Rattle.port_frames.proofs.own_slots.free_slots.Given as goal

abbrev pub invariant-loop-index : goal.invariant-loop-index
invariant-loop-index l = record {
  same_length : length l.memory ≡ length l.fn.memory;
  freed : freed l.slots l.number l.count l.fn.memory ≡ freed l.slots (l.number + l.index) (l.count - l.index) l.memory;
}
