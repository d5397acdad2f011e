-- Where nobody forged, a packet for which an end resets itself is a gap after a loss, or ends a message that the end hears badly in session.
use Rattle.std.proofs.Common.{◌≡◌, ℕ, true, false, Option, Some, None, List, refl, subst, ◌⊎◌, inl, inr}
use Rattle.std.specs.Prelude.{is_some}
use Rattle.runs.specs.Run.{Run}
use Rattle.ldc_link.specs.declared.phase.Role.TheVariants.{Initiator, Responder}
use Rattle.ldc_link.specs.LinkState.{LinkState}
use Rattle.ldc_link.specs.Taking.{Heard, LinkTake, Unheard}
use Rattle.ldc_queue.specs.declared.end.ChannelState.TheVariants.{Up}
use Rattle.ldc_queue.specs.declared.end.End.TheVariants.{A, B}
use Rattle.vio_tag.specs.declared.cause.Cause.{Cause}
use Rattle.lane_models.specs.EndPuts.{handshake_risen}
use Rattle.lane_models.specs.TranscriptLog.{TranscriptLog}
use Rattle.lane_models.specs.WireAt.{IsOwnReset}
use Rattle.lane_models.specs.ClientRule as client_rules
use Rattle.lane_models.specs.ClientState.{ClientSession}
use Rattle.lane_models.specs.ClientTaking as client
use Rattle.lane_models.specs.DiskEvent.{DiskEvent}
use Rattle.lane_models.specs.LaneState.{IsShape, LaneState, Shape, fresh}
use Rattle.lane_models.specs.LaneStep.{LaneStep}
use Rattle.lane_models.specs.Seeing.{seen}
use Rattle.lane_models.specs.ServerRule as server_rules
use Rattle.lane_models.specs.ServerState.{ServerSession}
use Rattle.lane_models.specs.ServerTaking as server
use Rattle.lane_models.proofs.NextHeard.{ComesTo, NextHeard, comes_to, own_gap}
use Rattle.lane_models.proofs.UnforgedResets.{side_fails}
use Rattle.lane_models.specs.Resetting.{IsGapBehindLoss}
use Rattle.lane_models.specs.Sides.{Sides, sides_of, swapped}
use Rattle.lane_laws.proofs.ClientMoves.{client_refuses}
use Rattle.lane_laws.proofs.LaneChannel.{OnLane, answers_of, asks_of, lane_matches, lane_meets, lane_meets_other, transcript_in}
use Rattle.lane_laws.proofs.Ruling.{client_may, server_may}
use Rattle.lane_laws.proofs.ServerMoves.{server_refuses}
use Rattle.lane_laws.specs.ChannelEnds.{core_of}
use Rattle.lane_laws.specs.RuleFacts.{ClientMay, ServerMay}

open_one : (X : Type 0) (o : Option X) → is_some o ≡ true → (x : X) × (o ≡ Some x)
open_one X None is = absurd (cc is)
open_one X (Some x) is = (x, refl)

-- IN SESSION an end hears the next message that the other said, and resets itself for it
pub record ClientHearsBadly (s : LaneState) (transcript : TranscriptLog) (cause : Cause) : Type 0 where
  pub up : s.wire.wire.end_a ≡ Up
  pub session : ClientSession
  pub is : s.client.session ≡ Some session
  pub message : List ℕ
  pub next : NextHeard transcript.a transcript.b s.wire.wire.end_b message
  pub link : LinkState
  pub hears : client.HearsWhole (record s.client { link = link }) (Some message) (client.Resets cause)

pub record ServerHearsBadly (s : LaneState) (transcript : TranscriptLog) (cause : Cause) : Type 0 where
  pub up : s.wire.wire.end_b ≡ Up
  pub session : ServerSession
  pub is : s.server.session ≡ Some session
  pub message : List ℕ
  pub next : NextHeard transcript.b transcript.a s.wire.wire.end_a message
  pub link : LinkState
  pub hears : server.HearsWhole (record s.server { link = link; handshake = handshake_risen s.server.link link s.server.handshake }) (Some message) (server.Resets cause)

-- THE CLIENT
pub client_packet : (shape : Shape) (events : List DiskEvent) (s : LaneState) (packet : List ℕ) (cause : Cause) → IsShape shape → Run LaneStep (fresh shape) events s → s.wire.forged ≡ false
    → client_rules.client_rule s.client (seen A s.shape.entries s.wire.wire) ≡ client_rules.Takes packet → client.ClientTakes s.client packet (client.Resets cause)
    → IsOwnReset s.wire cause ⊎ ClientHearsBadly s (transcript_in shape events) cause
client_packet shape events s packet cause sound run clean rule takes =
    elim (side_fails (asks_of shape) (answers_of shape) Initiator sides packet cause (lane_matches shape sound) on.stand on.meets on.parts_theirs may.0 may.1
    (client_refuses s.client (seen A s.shape.entries s.wire.wire) packet cause rule takes)) [
      | inl gap ↦ inl (own_gap s.wire s.wire.lossy cause refl gap)
      | inr lies ↦
          by_link (open_one ClientSession s.client.session lies.opened) takes.link
          (comes_to (asks_of shape) (answers_of shape) Initiator sides packet takes.link on.stand on.meets on.parts_theirs may.0 may.1 takes.takes) takes.hears
    ]
  where
    sides : Sides
    sides = sides_of (core_of s) (transcript_in shape events)

    on : OnLane shape Initiator sides
    on = lane_meets shape events s sound run clean

    may : ClientMay s.client (seen A s.shape.entries s.wire.wire) (client_rules.Takes packet)
    may = subst (ClientMay s.client (seen A s.shape.entries s.wire.wire)) rule (client_may s.client (seen A s.shape.entries s.wire.wire))

    by_whole : (one : (session : ClientSession) × (s.client.session ≡ Some session)) (k : LinkState) (whole : Option (List ℕ)) → k.whole ≡ whole → ComesTo sides (Heard k)
        → client.HearsWhole (record s.client { link = k }) whole (client.Resets cause) → ClientHearsBadly s (transcript_in shape events) cause
    by_whole one k None is comes hears = absurd (cc hears)
    by_whole one k (Some message) is comes hears =
        record { up = may.0; session = one.0; is = one.1; message = message; next = comes message is; link = k; hears = hears }

    by_link : (session : ClientSession) × (s.client.session ≡ Some session) → (link : LinkTake) → ComesTo sides link → client.HearsLink s.client link (client.Resets cause)
        → IsOwnReset s.wire cause ⊎ ClientHearsBadly s (transcript_in shape events) cause
    by_link one (Heard k) comes hears = inr (by_whole one k k.whole refl comes hears)
    by_link one (Unheard other) comes hears =
        let same : other ≡ cause = cc hears in inl (own_gap s.wire s.wire.lossy cause refl (subst (IsGapBehindLoss s.wire.lossy) same comes))

-- THE SERVER
pub server_packet : (shape : Shape) (events : List DiskEvent) (s : LaneState) (packet : List ℕ) (cause : Cause) → IsShape shape → Run LaneStep (fresh shape) events s → s.wire.forged ≡ false
    → server_rules.server_rule s.server (seen B s.shape.entries s.wire.wire) ≡ server_rules.Takes packet → server.ServerTakes s.server packet (server.Resets cause)
    → IsOwnReset s.wire cause ⊎ ServerHearsBadly s (transcript_in shape events) cause
server_packet shape events s packet cause sound run clean rule takes =
    elim (side_fails (asks_of shape) (answers_of shape) Responder sides packet cause (lane_matches shape sound) on.stand on.meets on.parts_theirs may.0 may.1
    (server_refuses s.server (seen B s.shape.entries s.wire.wire) packet cause rule takes)) [
      | inl gap ↦ inl (own_gap s.wire s.wire.lossy cause refl gap)
      | inr lies ↦
          by_link (open_one ServerSession s.server.session lies.opened) takes.link
          (comes_to (asks_of shape) (answers_of shape) Responder sides packet takes.link on.stand on.meets on.parts_theirs may.0 may.1 takes.takes) takes.hears
    ]
  where
    sides : Sides
    sides = swapped (sides_of (core_of s) (transcript_in shape events))

    on : OnLane shape Responder sides
    on = lane_meets_other shape events s sound run clean

    may : ServerMay s.server (seen B s.shape.entries s.wire.wire) (server_rules.Takes packet)
    may = subst (ServerMay s.server (seen B s.shape.entries s.wire.wire)) rule (server_may s.server (seen B s.shape.entries s.wire.wire))

    by_whole : (one : (session : ServerSession) × (s.server.session ≡ Some session)) (k : LinkState) (whole : Option (List ℕ)) → k.whole ≡ whole → ComesTo sides (Heard k)
        → server.HearsWhole (record s.server { link = k; handshake = handshake_risen s.server.link k s.server.handshake }) whole (server.Resets cause) → ServerHearsBadly s (transcript_in shape events) cause
    by_whole one k None is comes hears = absurd (cc hears)
    by_whole one k (Some message) is comes hears =
        record { up = may.0; session = one.0; is = one.1; message = message; next = comes message is; link = k; hears = hears }

    by_link : (session : ServerSession) × (s.server.session ≡ Some session) → (link : LinkTake) → ComesTo sides link → server.HearsLink s.server link (server.Resets cause)
        → IsOwnReset s.wire cause ⊎ ServerHearsBadly s (transcript_in shape events) cause
    by_link one (Heard k) comes hears = inr (by_whole one k k.whole refl comes hears)
    by_link one (Unheard other) comes hears =
        let same : other ≡ cause = cc hears in inl (own_gap s.wire s.wire.lossy cause refl (subst (IsGapBehindLoss s.wire.lossy) same comes))
