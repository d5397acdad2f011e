-- What an end is by what it said and heard since it last began anew: its link's phase, and its handshake. Both are counted from the utterances, newest
-- first, by the tables of the link and of the handshake.
use Rattle.std.specs.Prelude.{◌≡◌, ℕ, ◌==◌, ◌||◌, Bool, true, false, nat_eq, if◌then◌else◌, List, [], ◌∷◌, Option, Some, None, Result, Ok, Err}
use Rattle.ldc_link.specs.declared.phase.LinkPhase.{LinkPhase}
use Rattle.ldc_link.specs.declared.phase.Role.{Role}
use Rattle.ldc_link.specs.declared.phase.Role.TheVariants.{Initiator, Responder}
use Rattle.ldc_link.specs.LinkState.{first_phase}
use Rattle.ldc_link.specs.Putting.{phase_behind_put}
use Rattle.ldc_link.specs.Taking.{in_mode, phase_behind_rdx, phase_behind_rtr, phase_behind_rts, phase_behind_vers}
use Rattle.ldc_packet.specs.declared.packet.Subtype.{Subtype}
use Rattle.ldc_packet.specs.declared.packet.Subtype.TheVariants.{Ack, Info, Nack}
use Rattle.ldc_packet.specs.Spelling.{ctrl_at, env_at, subtype_at}
use Rattle.ldc_queue.specs.Fragments.{is_part}
use Rattle.ldc_queue.specs.Transcript.{Heard, Said, Utterance}
use Rattle.vio_bytes.specs.Place.{number_at}
use Rattle.vio_tag.proofs.Deciding.{some_result}
use Rattle.vio_tag.specs.declared.cause.Cause.{Cause}
use Rattle.vio_tag.specs.declared.message.Message.{Message}
use Rattle.vio_tag.specs.declared.message.MsgBody.TheVariants.{Ver}
use Rattle.vio_tag.specs.declared.message.TagFault.{TagFault}
use Rattle.vio_handshake.specs.declared.handshake.Handshake.{Handshake}
use Rattle.vio_handshake.specs.declared.handshake.Phase.TheVariants.{Version}
use Rattle.vio_handshake.specs.declared.session.Offer.{Offer}
use Rattle.vio_handshake.specs.Messages.{info}
use Rattle.vio_handshake.specs.Rules.{Faults, Goes, GoesOpen, HandshakeTake, handshake_sent, handshake_take}
use Rattle.vio_handshake.specs.State.{fresh_handshake, no_session}
use Rattle.lane_models.specs.Messages.{ended_by}
use Rattle.lane_models.specs.Sayings.{half_heard, half_said}
use Rattle.lane_models.specs.TranscriptLog.{is_rdx}
use Rattle.lane_models.specs.EndCore.{EndCore}

-- THE LINK'S PHASE. A control packet that is heard moves it by its fields, a part of a message by none
abbrev pub subtype_named : ℕ → Subtype
subtype_named code = if nat_eq code 1 then Info else if nat_eq code 2 then Ack else Nack

abbrev pub phase_by : ℕ → LinkPhase → List ℕ → Result LinkPhase Cause
phase_by ctrl phase packet =
    if nat_eq ctrl 1 then phase_behind_vers phase (subtype_named (subtype_at packet)) (number_at 2 8 packet) (number_at 2 10 packet)
    else if nat_eq ctrl 2 then in_mode (env_at packet) (phase_behind_rts phase (subtype_named (subtype_at packet)))
    else if nat_eq ctrl 3 then in_mode (env_at packet) (phase_behind_rtr phase (subtype_named (subtype_at packet)))
    else phase_behind_rdx phase (subtype_named (subtype_at packet))

abbrev pub or_stays : LinkPhase → Result LinkPhase Cause → LinkPhase
or_stays phase (Ok next) = next
or_stays phase (Err cause) = phase

abbrev pub phase_heard : Bool → LinkPhase → List ℕ → LinkPhase
phase_heard true phase packet = phase
phase_heard false phase packet = or_stays phase (phase_by (ctrl_at packet) phase packet)

abbrev pub link_phase : Role → List Utterance → LinkPhase
link_phase role [] = first_phase role
link_phase role (Said packet ∷ utterances) = phase_behind_put (link_phase role utterances)
link_phase role (Heard packet ∷ utterances) = phase_heard (is_part packet) (link_phase role utterances) packet

-- THE HANDSHAKE of an end that offers this, where so many links came up
abbrev pub down_with : Role → Offer → ℕ → Handshake
down_with role offer last = record (fresh_handshake role offer) { last_sid = last }

-- its link comes up: the initiator offers its version in the session that begins, and the responder waits for it
abbrev pub up_with : Role → Offer → ℕ → Handshake
up_with Initiator offer last = record (down_with Initiator offer last) {
  phase = Version;
  sid = Some last;
  owed = Some (info last (Ver 1 offer.minor offer.class));
  draft = record no_session { sid = last };
}
up_with Responder offer last = record (down_with Responder offer last) { phase = Version }

-- a message that it said is the one that it owed, but for one of the open session: of rings, or of groups
abbrev pub is_of_session : List ℕ → Bool
is_of_session message = number_at 2 2 message == 0x0042 || number_at 2 2 message == 0x0101

abbrev pub sent_unless : Bool → Handshake → Handshake
sent_unless true h = h
sent_unless false h = handshake_sent h

abbrev pub behind_said : Option (List ℕ) → Handshake → Handshake
behind_said None h = h
behind_said (Some message) h = sent_unless (is_of_session message) h

-- one that it heard moves it where the handshake takes it; one of the session it doesn't take
abbrev pub moved_by : HandshakeTake → Handshake → Handshake
moved_by (Goes g) h = g
moved_by (GoesOpen g) h = g
moved_by (Faults cause) h = h

abbrev pub decoded_of : List ℕ → Result Message TagFault
decoded_of bytes = (some_result bytes).0

abbrev pub behind_decoded : Result Message TagFault → Handshake → Handshake
behind_decoded (Ok message) h = moved_by (handshake_take h message) h
behind_decoded (Err fault) h = h

abbrev pub behind_heard : Option (List ℕ) → Handshake → Handshake
behind_heard None h = h
behind_heard (Some message) h = behind_decoded (decoded_of message) h

-- with RDX the link is up, whoever puts it
abbrev pub up_if : Bool → Handshake → Handshake → Handshake
up_if true up h = up
up_if false up h = h

abbrev pub handshake_of : Role → Offer → ℕ → List Utterance → Handshake
handshake_of role offer last [] = down_with role offer last
handshake_of role offer last (Said packet ∷ utterances) =
    up_if (is_rdx packet) (up_with role offer last) (behind_said (ended_by (half_said utterances) packet) (handshake_of role offer last utterances))
handshake_of role offer last (Heard packet ∷ utterances) =
    up_if (is_rdx packet) (up_with role offer last) (behind_heard (ended_by (half_heard utterances) packet) (handshake_of role offer last utterances))

-- AN END is so: its link, and its handshake, where its last sid is known
pub record EndFolds (role : Role) (c : EndCore) (utterances : List Utterance) : Type 0 where
  pub phase : c.link.phase ≡ link_phase role utterances
  pub handshake : c.handshake ≡ handshake_of role c.offer c.handshake.last_sid utterances
