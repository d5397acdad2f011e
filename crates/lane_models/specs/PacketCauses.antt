-- Why an end whose session is open resets itself for a packet: the first of these causes that the packet has, or none. They are read from the
-- packet's bytes and from what the end heard before. What a session makes of a message of its own is its kind's: it takes it, or gives a cause.
use Rattle.std.specs.Prelude.{◌≡◌, ℕ, Bool, ◌&&◌, ◌||◌, not, nat_eq, if◌then◌else◌, List, Option, Some, None, Result, Ok, Err, ⊤}
use Rattle.ldc_link.specs.declared.phase.Role.{Role}
use Rattle.ldc_link.specs.Taking.{Heard, LinkTake, TakesBytes, Unheard, may_come}
use Rattle.ldc_packet.specs.declared.packet.PacketFault.{PacketFault}
use Rattle.ldc_packet.specs.Fault.{first_fault}
use Rattle.ldc_packet.specs.Spelling.{ctrl_at, env_at, seqid_at, type_at}
use Rattle.ldc_queue.specs.Fragments.{fragment_at, is_part}
use Rattle.ldc_queue.specs.Numbered.{is_numbered}
use Rattle.ldc_queue.specs.Transcript.{Utterance}
use Rattle.vio_handshake.specs.declared.handshake.Handshake.{Handshake}
use Rattle.vio_handshake.specs.Rules.{Faults, Goes, GoesOpen, HandshakeTake, handshake_take, is_declined, sid_fault}
use Rattle.vio_tag.specs.declared.cause.Cause.{Cause}
use Rattle.vio_tag.specs.declared.cause.Cause.TheVariants as the_cause
use Rattle.vio_tag.specs.declared.message.Message.{Message}
use Rattle.vio_tag.specs.declared.message.MsgBody.{MsgBody}
use Rattle.vio_tag.specs.declared.message.MsgBody.TheVariants.{DringData, Mcast}
use Rattle.vio_tag.specs.declared.message.TagFault.{TagFault}
use Rattle.vio_tag.specs.Decoding.{Decodes}
use Rattle.vio_tag.specs.Fault as message
use Rattle.vio_tag.specs.Spelling as message_at
use Rattle.vio_tag.specs.Spelling.{SpellsMessage}
use Rattle.lane_models.specs.Messages.{ended_by}
use Rattle.lane_models.specs.ResetSays.{MessageSays}
use Rattle.lane_models.specs.Sayings.{count_heard, half_heard}
use Rattle.lane_models.specs.WireAt.{counts_next}
use Rattle.lane_models.specs.EndCore.{EndCore}
use Rattle.lane_models.specs.EndFold.{decoded_of}
use Rattle.lane_models.specs.EndStep.{risen_at}

-- A MESSAGE has another sid than the session's, or is one of rings or groups, which the session judges. Any other is declined or out of order.
abbrev pub body_cause : (Message → Option Cause) → Message → MsgBody → Option Cause
body_cause own message (DringData seq ident start end state) = own message
body_cause own message (Mcast set count addresses) = own message
body_cause own message body = if is_declined message.subtype body then None else Some the_cause.Order

abbrev pub decoded_cause : (Message → Option Cause) → ℕ → Result Message TagFault → Option Cause
decoded_cause own sid (Err fault) = Some (the_cause.Tag fault)
decoded_cause own sid (Ok message) =
    if nat_eq sid message.sid then body_cause own message message.body else Some (the_cause.Sid sid message.sid)

abbrev pub message_cause : (Message → Option Cause) → ℕ → Option (List ℕ) → Option Cause
message_cause own sid None = None
message_cause own sid (Some bytes) = decoded_cause own sid (decoded_of bytes)

-- A PACKET: its bytes spell none; its number isn't the next; its mode isn't unreliable, 1; it is no part of a message; it makes none with what
-- had come before
abbrev pub fault_cause : Option PacketFault → Option Cause → Option Cause
fault_cause None rest = rest
fault_cause (Some fault) rest = Some (the_cause.Packet fault)

abbrev pub number_cause : Bool → (next found : ℕ) → Option Cause → Option Cause
number_cause has_number next found rest = if has_number && not (nat_eq found next) then Some (the_cause.Gap next found) else rest

abbrev pub names_mode : List ℕ → Bool
names_mode packet = nat_eq (type_at packet) 1 && (nat_eq (ctrl_at packet) 2 || nat_eq (ctrl_at packet) 3)

abbrev pub mode_cause : Bool → (found : ℕ) → Option Cause → Option Cause
mode_cause names found rest = if names && not (nat_eq found 1) then Some (the_cause.Mode found) else rest

abbrev pub part_cause : (part comes : Bool) → Option Cause → Option Cause
part_cause part comes rest = if part then (if comes then rest else Some the_cause.Fragment) else Some the_cause.Unexpected

-- THE CAUSE, in a session of this sid
abbrev pub packet_cause : (Message → Option Cause) → ℕ → List Utterance → List ℕ → Option Cause
packet_cause own sid utterances packet =
    fault_cause (first_fault packet)
    (number_cause (is_numbered packet) (counts_next (count_heard utterances)) (seqid_at packet)
    (mode_cause (names_mode packet) (env_at packet)
    (part_cause (is_part packet) (may_come (half_heard utterances) (fragment_at packet))
    (message_cause own sid (ended_by (half_heard utterances) packet)))))

-- WHAT AN END MAKES of a packet, by its link, its handshake and its session
abbrev pub refused_by : HandshakeTake → Option Cause
refused_by (Goes h) = None
refused_by (GoesOpen h) = None
refused_by (Faults cause) = Some cause

abbrev pub judged_body : (Message → Option Cause) → Handshake → Message → MsgBody → Option Cause
judged_body own h message (DringData seq ident start end state) = own message
judged_body own h message (Mcast set count addresses) = own message
judged_body own h message body = refused_by (handshake_take h message)

abbrev pub fault_first : Option Cause → Option Cause → Option Cause
fault_first None rest = rest
fault_first (Some cause) rest = Some cause

abbrev pub judged : (Message → Option Cause) → Handshake → Result Message TagFault → Option Cause
judged own h (Err fault) = Some (the_cause.Tag fault)
judged own h (Ok message) = fault_first (sid_fault h.sid message.sid) (judged_body own h message message.body)

abbrev pub WholeJudged : (Message → Option Cause) → Handshake → Option (List ℕ) → Option Cause → Type 0
WholeJudged own h None answer = answer ≡ None
WholeJudged own h (Some bytes) answer = (decoded : Result Message TagFault) × Decodes bytes decoded × (answer ≡ judged own h decoded)

abbrev pub LinkJudged : (Message → Option Cause) → Role → EndCore → LinkTake → Option Cause → Type 0
LinkJudged own role c (Heard heard) answer = WholeJudged own (risen_at role c.link heard c.handshake) heard.whole answer
LinkJudged own role c (Unheard why) answer = answer ≡ Some why

pub record Judges (own : Message → Option Cause) (role : Role) (c : EndCore) (packet : List ℕ) (answer : Option Cause) : Type 0 where
  pub take : LinkTake
  pub takes : TakesBytes c.link packet take
  pub judges : LinkJudged own role c take answer

-- A KIND'S OWN CAUSE is what the message says of it; or it is a slot of the end's own ring, which a range of the message names
abbrev pub OwnSays : List ℕ → Cause → Type 0
OwnSays m (the_cause.NotDone slot state) = (message.first_fault m ≡ None) × (message_at.envelope_at m ≡ 0x0042)
OwnSays m cause = MessageSays m cause

abbrev pub SomeSays : List ℕ → Option Cause → Type 0
SomeSays m None = ⊤
SomeSays m (Some cause) = OwnSays m cause

pub record JudgesRightly (own : Message → Option Cause) : Type 0 where
  pub says : (m : List ℕ) (one : Message) → message.first_fault m ≡ None → SpellsMessage m one → SomeSays m (own one)
