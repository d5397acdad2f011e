-- How many frames of a guest may still cross to the switch's end. They are those that it holds and didn't publish in its session. While it
-- is up, those that stand READY in its ring come to them.
use Rattle.std.specs.Prelude.{ℕ, ◌+◌, ◌-◌, List, length, Option, Some, None}
use Rattle.ldc_queue.specs.declared.end.ChannelState.{ChannelState}
use Rattle.ldc_queue.specs.declared.end.ChannelState.TheVariants.{Down, Resetting, Up}
use Rattle.lane_models.specs.NetEndState.{NetEndState, NetSession, unseen}
use Rattle.lane_models.specs.PortState.{PortState}
use Rattle.port_laws.specs.Remaining.{ready_slots}

abbrev pub fresh_frames : NetEndState → ℕ
fresh_frames s = length s.frames - unseen s.session

abbrev pub ready_in : ℕ → List ℕ → Option NetSession → ℕ
ready_in slots memory None = 0
ready_in slots memory (Some session) = ready_slots slots memory

abbrev pub untaken : ChannelState → List ℕ → NetEndState → ℕ
untaken Up memory s = fresh_frames s + ready_in s.slots memory s.session
untaken Down memory s = fresh_frames s
untaken Resetting memory s = fresh_frames s

abbrev pub crossing : PortState → ℕ
crossing s = untaken s.lane.wire.wire.end_a s.lane.guest_memory s.lane.guest
