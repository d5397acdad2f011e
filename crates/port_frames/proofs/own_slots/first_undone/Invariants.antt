use Rattle.std.proofs.Common.{◌≡◌, ◌+◌, ◌-◌}
use Rattle.lane_models.specs.NetEndTaking.{first_undone}
use Rattle.port_frames.proofs.own_slots.first_undone.Given as goal

abbrev pub invariant-loop-index : goal.invariant-loop-index
invariant-loop-index l =
    first_undone l.slots l.memory l.number l.count ≡ first_undone l.slots l.memory (l.number + l.index) (l.count - l.index)
