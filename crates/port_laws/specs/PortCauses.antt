-- What a session of a port makes of a message of rings or groups: it takes it, or resets its end for a cause.
use Rattle.std.specs.Prelude.{ℕ, ◌+◌, ◌%◌, ◌==◌, ◌&&◌, nat_le, nat_lt, not, if◌then◌else◌, List, Option, Some, None}
use Rattle.ldc_link.specs.declared.phase.Role.{Role}
use Rattle.ldc_link.specs.declared.phase.Role.TheVariants.{Initiator, Responder}
use Rattle.ldc_packet.specs.declared.packet.Subtype.{Subtype}
use Rattle.ldc_packet.specs.declared.packet.Subtype.TheVariants.{Ack, Info, Nack}
use Rattle.ldc_queue.specs.declared.end.End.{End}
use Rattle.ldc_queue.specs.Transcript.{Utterance}
use Rattle.vio_tag.specs.declared.cause.Cause.{Cause}
use Rattle.vio_tag.specs.declared.cause.Cause.TheVariants as the_cause
use Rattle.vio_tag.specs.declared.message.Message.{Message}
use Rattle.vio_tag.specs.declared.message.MsgBody.{MsgBody}
use Rattle.vio_tag.specs.declared.message.MsgBody.TheVariants.{DringData, Mcast}
use Rattle.lane_models.specs.Ranges.{is_other}
use Rattle.dring.specs.Slots.{range_length}
use Rattle.lane_models.specs.PacketCauses.{packet_cause}
use Rattle.lane_models.specs.NetEndState.{NetEndState, NetSession}
use Rattle.lane_models.specs.NetEndTaking.{first_undone}
use Rattle.lane_models.specs.NetLaneState.{NetLaneState, memory_of, net_end, role_at}

-- AN INFO names another ring than the peer's, hasn't the next number, doesn't begin at the next slot, or names an end and not one of the
-- peer's slots
abbrev pub info_cause : NetEndState → NetSession → (seq ident start end : ℕ) → Option Cause
info_cause s session seq ident start end =
    if is_other s.handshake.draft.ident_peer ident then Some (the_cause.Ident s.handshake.draft.ident_peer ident)
    else if is_other session.seq seq then Some (the_cause.Seq session.seq seq)
    else if is_other session.place start then Some (the_cause.Slot session.place start)
    else if not (end == 0xffffffff) && nat_le s.handshake.draft.peer_slots end then Some (the_cause.RangeEnd end)
    else None

-- AN ACK names another ring than the own, doesn't begin at the first frame that isn't acknowledged, goes beyond what is published, or names a
-- slot that isn't DONE
abbrev pub ack_cause : NetEndState → NetSession → List ℕ → (ident start end : ℕ) → Option Cause
ack_cause s session memory ident start end =
    if is_other s.handshake.draft.ident_own ident then Some (the_cause.Ident s.handshake.draft.ident_own ident)
    else if is_other (session.seen % s.slots) start then Some (the_cause.Slot (session.seen % s.slots) start)
    else if nat_lt end s.slots && nat_le (session.seen + range_length s.slots start end) session.published
    then first_undone s.slots memory session.seen (range_length s.slots start end)
    else Some (the_cause.RangeEnd end)

-- a NACK of a range is refused; groups are the switch's to take, and an answer to them the guest's, where it waits for one
abbrev pub session_cause : Role → NetEndState → NetSession → List ℕ → Subtype → MsgBody → Option Cause
session_cause role s session memory Info (DringData seq ident start end state) = info_cause s session seq ident start end
session_cause role s session memory Ack (DringData seq ident start end state) = ack_cause s session memory ident start end
session_cause role s session memory Nack (DringData seq ident start end state) = Some the_cause.Refused
session_cause Responder s session memory Info (Mcast set count addresses) = None
session_cause Initiator s session memory Ack (Mcast set count addresses) = if session.telling then None else Some the_cause.Order
session_cause Initiator s session memory Nack (Mcast set count addresses) = if session.telling then Some the_cause.Refused else Some the_cause.Order
session_cause role s session memory subtype body = Some the_cause.Order

abbrev pub own_cause : Role → NetEndState → NetSession → List ℕ → Message → Option Cause
own_cause role s session memory message = session_cause role s session memory message.subtype message.body

-- THE CAUSE that a packet has for an end in this session which said and heard this
abbrev pub port_cause : NetLaneState → End → NetSession → List Utterance → List ℕ → Option Cause
port_cause s e session utterances packet =
    packet_cause (own_cause (role_at e) (net_end e s) session (memory_of e s)) (net_end e s).handshake.draft.sid utterances packet
