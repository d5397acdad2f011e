-- The ring of an end of a port that nobody forged, while the end is up and its session is open: it holds the frames that are published and not
-- acknowledged, of which the peer took so many as its log says.
use Rattle.std.specs.Prelude.{ℕ, List, Option, Some, None, ⊤}
use Rattle.ldc_queue.specs.declared.end.ChannelState.{ChannelState}
use Rattle.ldc_queue.specs.declared.end.ChannelState.TheVariants.{Down, Resetting, Up}
use Rattle.ldc_queue.specs.declared.end.End.{End}
use Rattle.ldc_queue.specs.Wire.{peer_of, state_of}
use Rattle.lane_models.specs.WireAt.{IsUp}
use Rattle.lane_models.specs.EndLog.{SessionLog}
use Rattle.lane_models.specs.NetEndState.{NetSession}
use Rattle.lane_models.specs.NetLaneState.{NetLaneState, memory_of, net_end}
use Rattle.lane_models.specs.PortLog.{PortLog, log_of_end}
use Rattle.port_laws.specs.RingHolds.{RingHolds}

-- so many frames an end took in its open session; one that isn't up took none in the next
abbrev pub taken_in : Option SessionLog → ℕ
taken_in None = 0
taken_in (Some v) = v.taken

abbrev pub taken_by : ChannelState → Option SessionLog → ℕ
taken_by Up session = taken_in session
taken_by Down session = 0
taken_by Resetting session = 0

abbrev pub RingIn : (slots taken : ℕ) → Option NetSession → List (List ℕ) → List ℕ → Type 0
RingIn slots taken None frames memory = ⊤
RingIn slots taken (Some p) frames memory = RingHolds slots p.seen taken p.published frames memory

abbrev pub taken_of : End → NetLaneState → PortLog → ℕ
taken_of e s l = taken_by (state_of e s.wire.wire) (log_of_end e l).session

abbrev pub RingStands : End → NetLaneState → PortLog → Type 0
RingStands e s l = IsUp e s.wire.wire → RingIn l.shape.slots (taken_of (peer_of e) s l) (net_end e s).session (net_end e s).frames (memory_of e s)
