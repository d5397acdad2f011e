-- What the packet says that a reset carries: its fault, or what it has in another place than the end expected.
use Rattle.std.specs.Prelude.{◌≡◌, ◌≢◌, ℕ, ◌⊎◌, true, false, List, ◌++◌, Option, Some, None, ⊤}
use Rattle.vio_bytes.specs.Place.{number_at}
use Rattle.ldc_packet.specs.Fault.{first_fault}
use Rattle.ldc_packet.specs.Spelling.{ctrl_at, env_at, subtype_at, type_at}
use Rattle.ldc_queue.specs.Fragments.{fragment_at, is_part}
use Rattle.ldc_queue.specs.Transcript.{Utterance}
use Rattle.ldc_link.specs.Taking.{may_come}
use Rattle.vio_tag.specs.declared.cause.Cause.{Cause}
use Rattle.vio_tag.specs.declared.cause.Cause.TheVariants as the_cause
use Rattle.vio_tag.specs.Fault as message
use Rattle.vio_tag.specs.Spelling as message_at
use Rattle.lane_models.specs.Sayings.{half_heard}
use Rattle.lane_models.specs.TranscriptLog.{TranscriptLog, transcript_of}
use Rattle.lane_models.specs.WireEvent.{Reset, WireEvent}

-- RTS or RTR with the mode, which isn't unreliable, 1
pub record HasMode (packet : List ℕ) (found : ℕ) : Type 0 where
  pub control : type_at packet ≡ 1
  pub kind : (ctrl_at packet ≡ 2) ⊎ (ctrl_at packet ≡ 3)
  pub mode : env_at packet ≡ found
  pub other : found ≢ 1

-- an answer to VERS that isn't ACK 1.0
pub record RefusesVersion (packet : List ℕ) : Type 0 where
  pub control : type_at packet ≡ 1
  pub kind : ctrl_at packet ≡ 1
  pub answer : (subtype_at packet ≡ 4)
      ⊎ ((subtype_at packet ≡ 2) × ((number_at 2 8 packet ≢ 1) ⊎ (number_at 2 10 packet ≢ 0)))

-- a part that makes no message with what had come before
pub record BreaksMessage (utterances : List Utterance) (packet : List ℕ) : Type 0 where
  pub part : is_part packet ≡ true
  pub broken : may_come (half_heard utterances) (fragment_at packet) ≡ false

-- the message that the packet ends
abbrev pub ended : List Utterance → List ℕ → List ℕ
ended utterances packet = half_heard utterances ++ (fragment_at packet).bytes

pub record EndsMessage (packet : List ℕ) : Type 0 where
  pub part : is_part packet ≡ true
  pub stop : (fragment_at packet).stop ≡ true

-- the number that was found is the message's, and another than the end expected
abbrev pub IsOther : ℕ → ℕ → ℕ → Type 0
IsOther expected found there = (found ≡ there) × (expected ≢ found)

-- what the message says of the cause; a message of which the cause speaks is one of DRING_DATA, but for its sid, its order and its refusal
abbrev pub MessageSays : List ℕ → Cause → Type 0
MessageSays m (the_cause.Tag fault) = message.first_fault m ≡ Some fault
MessageSays m (the_cause.Sid expected found) = (message.first_fault m ≡ None) × IsOther expected found (number_at 4 4 m)
MessageSays m the_cause.Order = message.first_fault m ≡ None
MessageSays m the_cause.Refused = message.first_fault m ≡ None
MessageSays m (the_cause.Ident expected found) = (message.first_fault m ≡ None) × (message_at.envelope_at m ≡ 0x0042) × IsOther expected found (number_at 8 16 m)
MessageSays m (the_cause.Seq expected found) = (message.first_fault m ≡ None) × (message_at.envelope_at m ≡ 0x0042) × IsOther expected found (number_at 8 8 m)
MessageSays m (the_cause.Slot expected found) = (message.first_fault m ≡ None) × (message_at.envelope_at m ≡ 0x0042) × IsOther expected found (number_at 4 24 m)
MessageSays m (the_cause.RangeEnd found) = (message.first_fault m ≡ None) × (message_at.envelope_at m ≡ 0x0042) × (found ≡ number_at 4 28 m)
MessageSays m _ = ⊥

abbrev pub EndsBadly : List Utterance → List ℕ → Cause → Type 0
EndsBadly utterances packet cause = EndsMessage packet × MessageSays (ended utterances packet) cause

-- Bytes that spell no packet have that cause and no other. What a gap says stands by itself, and what a ring has no packet.
abbrev pub PacketSays : List Utterance → List ℕ → Cause → Type 0
PacketSays utterances packet (the_cause.Packet fault) = first_fault packet ≡ Some fault
PacketSays utterances packet (the_cause.Gap expected found) = first_fault packet ≡ None
PacketSays utterances packet (the_cause.Mode found) = (first_fault packet ≡ None) × HasMode packet found
PacketSays utterances packet the_cause.Version = (first_fault packet ≡ None) × RefusesVersion packet
PacketSays utterances packet the_cause.Unexpected = first_fault packet ≡ None
PacketSays utterances packet the_cause.Fragment = (first_fault packet ≡ None) × BreaksMessage utterances packet
PacketSays utterances packet (the_cause.NotReady slot state) = ⊥
PacketSays utterances packet (the_cause.NotDone slot state) = first_fault packet ≡ None
PacketSays utterances packet (the_cause.Frame size count) = ⊥
PacketSays utterances packet (the_cause.Copy fault) = ⊥
PacketSays utterances packet the_cause.Asked = ⊥
PacketSays utterances packet the_cause.Restart = ⊥
PacketSays utterances packet the_cause.Tick = ⊥
PacketSays utterances packet cause = (first_fault packet ≡ None) × EndsBadly utterances packet cause

-- the causes that lie in a packet want one
abbrev pub MayLackPacket : Cause → Type 0
MayLackPacket the_cause.Asked = ⊤
MayLackPacket the_cause.Restart = ⊤
MayLackPacket the_cause.Tick = ⊤
MayLackPacket (the_cause.NotReady slot state) = ⊤
MayLackPacket (the_cause.NotDone slot state) = ⊤
MayLackPacket (the_cause.Frame size count) = ⊤
MayLackPacket (the_cause.Copy fault) = ⊤
MayLackPacket _ = ⊥

abbrev pub ResetSays : List Utterance → Option (List ℕ) → Cause → Type 0
ResetSays utterances None cause = MayLackPacket cause
ResetSays utterances (Some packet) cause = PacketSays utterances packet cause

abbrev pub WireResetAt : TranscriptLog → WireEvent → Type 0
WireResetAt l (Reset e cause packet lost) = ResetSays (transcript_of e l) packet cause
WireResetAt l _ = ⊤
