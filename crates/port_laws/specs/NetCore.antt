-- A port's lane as two ends on a channel, of any kind of lane: what its ends, and its events, are of that.
use Rattle.std.specs.Prelude.{ℕ, ◌+◌, ◌&&◌, Bool, true, false, not, is_none, is_some, List, map, Option, Some, None}
use Rattle.ldc_link.specs.declared.phase.Role.{Role}
use Rattle.ldc_link.specs.declared.phase.Role.TheVariants.{Initiator, Responder}
use Rattle.ldc_queue.specs.declared.end.ChannelState.{ChannelState}
use Rattle.ldc_queue.specs.declared.end.ChannelState.TheVariants.{Down, Resetting, Up}
use Rattle.lane_models.specs.WireEvent.{WireEvent}
use Rattle.lane_models.specs.EndCore.{EndCore}
use Rattle.lane_models.specs.LaneCore.{Beside, CoreEvent, LaneCore, OnChannel, fresh_core}
use Rattle.lane_models.specs.NetEndState.{NetEndState, NetSession}
use Rattle.lane_models.specs.NetEvent.{NetEvent, on_wire}
use Rattle.lane_models.specs.NetLaneState.{NetLaneState, NetShape}
use Rattle.lane_models.specs.Offers.{port_offer}

-- Before it takes a packet an end may say so many messages of its session: an answer to groups, an ACK, its groups, and
-- an INFO.
abbrev pub one_if : Bool → ℕ
one_if true = 1
one_if false = 0

abbrev pub more_in : NetSession → ℕ
more_in p = one_if (is_some p.reply) + one_if (is_some p.active) + one_if (not p.telling) + one_if (not p.asking)

abbrev pub more_of : Option NetSession → ℕ
more_of None = 0
more_of (Some p) = more_in p

-- the message that its link holds is of its session where its handshake owes none
abbrev pub net_core : Role → NetEndState → EndCore
net_core role s = record {
  link = s.link;
  handshake = s.handshake;
  offer = port_offer role s.address s.slots;
  is_open = is_some s.session;
  own = is_none s.handshake.owed;
  more = more_of s.session;
}

-- an end that was never configured holds no message of its session
abbrev pub is_begun : ChannelState → Bool
is_begun Down = false
is_begun Up = true
is_begun Resetting = true

abbrev pub net_core_at : Role → Bool → NetEndState → EndCore
net_core_at role begun s = record (net_core role s) { own = begun && is_none s.handshake.owed }

abbrev pub lane_core : NetLaneState → LaneCore
lane_core s = record {
  entries = s.shape.entries;
  wire = s.wire;
  a = net_core_at Initiator (is_begun s.wire.wire.end_a) s.guest;
  b = net_core_at Responder (is_begun s.wire.wire.end_b) s.hub;
}

-- what isn't on the wire is work of a session, or asked of the lane
abbrev pub event_core : Option WireEvent → CoreEvent
event_core None = Beside
event_core (Some event) = OnChannel event

abbrev pub core_event : NetEvent → CoreEvent
core_event event = event_core (on_wire event)

abbrev pub core_events : List NetEvent → List CoreEvent
core_events events = map core_event events

abbrev pub fresh_net_core : NetShape → LaneCore
fresh_net_core shape = fresh_core shape.entries (port_offer Initiator shape.address shape.slots) (port_offer Responder shape.address shape.slots)
