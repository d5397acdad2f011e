-- What remains to be done on a port: a number that each step of an end lowers, where the end isn't idle or blocked and nothing is lost,
-- forged or reset meanwhile. A packet of the guest counts four until it's put and three until it's taken, as the switch's end may owe one
-- for it. A packet of the switch's end counts two and one. A frame counts eight: one that it's published, one that it's taken, and six for
-- the INFO that announces it and the ACK that answers it.
use Rattle.std.specs.Prelude.{ℕ, zero, suc, ◌+◌, ◌-◌, ◌*◌, ◌==◌, Bool, true, false, is_some, List, length, Option, Some, None}
use Rattle.dring.specs.Slots.{ready_state}
use Rattle.ldc_link.specs.declared.phase.Role.{Role}
use Rattle.ldc_link.specs.declared.phase.Role.TheVariants.{Initiator, Responder}
use Rattle.ldc_queue.specs.declared.end.ChannelState.{ChannelState}
use Rattle.ldc_queue.specs.declared.end.ChannelState.TheVariants.{Down, Resetting, Up}
use Rattle.ldc_queue.specs.Wire.{Wire}
use Rattle.lane_models.specs.PacketsLeft.{packets_left}
use Rattle.lane_models.specs.NetEndState.{Activity, NetEndState, NetSession, unseen, unseen_in}
use Rattle.lane_models.specs.NetEndTaking.{slot_state}
use Rattle.lane_models.specs.NetLaneState.{NetLaneState}
use Rattle.lane_models.specs.PortState.{PortState}
use Rattle.port_laws.specs.NetCore.{net_core, one_if}

-- A PACKET that an end has still to put
abbrev pub put_weight : Role → ℕ
put_weight Initiator = 4
put_weight Responder = 2

-- A FRAME that stands READY in the end's own ring: that it's taken, and the ACK of the other end
abbrev pub ready_weight : Role → ℕ
ready_weight Initiator = 3
ready_weight Responder = 5

-- so many of the first slots of a memory are READY
abbrev pub ready_slots : ℕ → List ℕ → ℕ
ready_slots zero memory = 0
ready_slots (suc slot) memory = ready_slots slot memory + one_if (slot_state slot memory == ready_state)

-- the frames that an end holds: eight for each that isn't published; of the others an INFO for each but one that is announced
abbrev pub frames_left : Role → (slots held : ℕ) → (memory : List ℕ) → Option NetSession → ℕ
frames_left role slots held memory None = 8 * held
frames_left role slots held memory (Some p) =
    8 * (held - unseen_in p) + put_weight role * (unseen_in p - one_if p.asking) + ready_weight role * ready_slots slots memory

-- AN ANSWER that it owes: for frames that it took, or for groups
abbrev pub took_some : Option Activity → Bool
took_some None = false
took_some (Some activity) = is_some activity.last

abbrev pub answers_left : Role → Option NetSession → ℕ
answers_left role None = 0
answers_left role (Some p) = put_weight role * (one_if (took_some p.active) + one_if (is_some p.reply))

-- A GUEST'S GROUPS, which it has still to tell in its session
abbrev pub groups_left : Role → Option NetSession → ℕ
groups_left Initiator None = 4
groups_left Initiator (Some p) = 4 * one_if p.untold
groups_left Responder session = 0

abbrev pub session_left : Role → (slots held : ℕ) → (memory : List ℕ) → Option NetSession → ℕ
session_left role slots held memory session = frames_left role slots held memory session + answers_left role session + groups_left role session

-- AN END, with so many frames more than it holds itself. One that isn't up counts as one that begins: eleven packets of a guest and its
-- groups, and thirteen packets of the switch's end. Those of its frames that are published don't outlast that.
abbrev pub first_left : Role → (held : ℕ) → ℕ
first_left Initiator held = 48 + 8 * held
first_left Responder held = 26 + 8 * held

abbrev pub end_left : ChannelState → Role → (more : ℕ) → (memory : List ℕ) → NetEndState → ℕ
end_left Up role more memory s = put_weight role * packets_left (net_core role s) + session_left role s.slots (length s.frames + more) memory s.session
end_left Down role more memory s = first_left role (length s.frames + more - unseen s.session)
end_left Resetting role more memory s = first_left role (length s.frames + more - unseen s.session)

abbrev pub absent : ChannelState → ℕ
absent Up = 0
absent Down = 1
absent Resetting = 1

-- THE LANE, with so many frames in the out queue
abbrev pub life : Wire → NetLaneState → (queued : ℕ) → ℕ
life w s queued =
    absent w.end_a + absent w.end_b + length w.to_a + 3 * length w.to_b
    + end_left w.end_a Initiator 0 s.guest_memory s.guest + end_left w.end_b Responder queued s.hub_memory s.hub

-- where a packet was lost the ends may have to begin once more, with the frames that aren't published
abbrev pub second_life : Bool → ℕ
second_life true = 76
second_life false = 0

abbrev pub remaining_of : NetLaneState → (queued : ℕ) → ℕ
remaining_of s queued = life s.wire.wire s queued + second_life s.wire.lossy

-- THE NUMBER
abbrev pub remaining : PortState → ℕ
remaining s = remaining_of s.lane (length s.queue)

-- THE FRAMES that both ends hold, and those in the out queue; and those of them that aren't published in an open session
abbrev pub frames_held : PortState → ℕ
frames_held s = length s.lane.guest.frames + length s.lane.hub.frames + length s.queue

abbrev pub kept_in : NetLaneState → (queued : ℕ) → ℕ
kept_in s queued = (length s.guest.frames - unseen s.guest.session) + (length s.hub.frames + queued - unseen s.hub.session)

abbrev pub frames_kept : PortState → ℕ
frames_kept s = kept_in s.lane (length s.queue)
