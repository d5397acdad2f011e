-- What is known of the two ends of a port that nobody forged: where their handshakes stand, and that open sessions are one.
use Rattle.std.proofs.Common.{◌≡◌, ◌≤◌, true, false, length, refl, sym, ap, ◌∙◌, subst, arith}
use Rattle.runs.specs.Lawful.{log_of}
use Rattle.ldc_link.specs.declared.phase.Role.TheVariants.{Initiator, Responder}
use Rattle.ldc_queue.specs.declared.end.End.{End}
use Rattle.ldc_queue.specs.declared.end.End.TheVariants.{A, B}
use Rattle.ldc_queue.specs.OneStream.{IsFront}
use Rattle.ldc_queue.specs.Wire.{peer_of}
use Rattle.vio_handshake.specs.declared.session.Offer.{Offer}
use Rattle.lane_models.specs.Sayings.{heard, said}
use Rattle.lane_models.specs.TranscriptLog.{TranscriptLog, transcript_of}
use Rattle.lane_models.specs.WireAt.{IsUp}
use Rattle.lane_models.proofs.ConversingRuns.{messages_of}
use Rattle.lane_models.proofs.HandshakesPlaced.{Meets, meets_keep}
use Rattle.lane_models.proofs.Sessions.{meets_knows, one_session}
use Rattle.lane_models.specs.CoreLog as core
use Rattle.lane_models.specs.LaneCore.{LaneCore, end_of}
use Rattle.lane_models.specs.OneSession.{AreOneSession}
use Rattle.lane_models.specs.Sides.{Sides, sides_of, swapped}
use Rattle.lane_models.specs.NetLaneState.{IsNetShape, NetShape, role_at}
use Rattle.lane_models.specs.Offers.{port_offer}
use Rattle.lane_models.specs.PortLog.{PortLog}
use Rattle.lane_models.specs.PortState.{PortState}
use Rattle.port_laws.specs.PortCore.{port_core, port_events}
use Rattle.port_laws.proofs.CoreLaws.{offers_match, sizes_fit}
use Rattle.port_laws.proofs.PeerOpens.{InAll, TwoEnds, closed_short, least_heard, least_seven, open_long, peer_is_up, peer_open, row}
use Rattle.port_laws.proofs.PortCounts.{PortCounts}
use Rattle.port_laws.proofs.PortRuns.{fresh_port_core, logs_same}

abbrev pub asks_of : NetShape → Offer
asks_of shape = port_offer Initiator shape.address shape.slots

abbrev pub answers_of : NetShape → Offer
answers_of shape = port_offer Responder shape.address shape.slots

-- the lane from the side of an end
abbrev pub sides_from : End → LaneCore → TranscriptLog → Sides
sides_from A c transcript = sides_of c transcript
sides_from B c transcript = swapped (sides_of c transcript)

pub record PortTwoEnds (shape : NetShape) (c : LaneCore) (l : PortLog) : Type 0 where
  pub two_ends : (e : End) → TwoEnds (asks_of shape) (answers_of shape) (role_at e) (sides_from e c l.transcript)
  pub one : c.a.is_open ≡ true → c.b.is_open ≡ true → AreOneSession c.a.handshake c.b.handshake
  pub front_a : IsUp A c.wire.wire → IsFront (heard l.transcript.a) (said l.transcript.b)
  pub front : IsUp B c.wire.wire → IsFront (heard l.transcript.b) (said l.transcript.a)

pub port_two_ends : (shape : NetShape) (s : PortState) (l : PortLog) → IsNetShape shape → PortCounts shape s l → s.lane.wire.forged ≡ false → PortTwoEnds shape (port_core s) l
port_two_ends shape s l is counts clean =
    let asks = asks_of shape in
    let answers = answers_of shape in
    let fits = sizes_fit shape is in
    let now : core.CoreLog = log_of core.after (core.nothing_yet shape.entries) (port_events counts.events) in
    let knows = meets_knows shape.entries asks answers (port_events counts.events) (port_core s) fits (offers_match shape is) (fresh_port_core shape counts.events s counts.run) in
    let same : now.transcript ≡ l.transcript = (logs_same shape counts.events).transcript ∙ sym (ap (λ (x : PortLog). x.transcript) counts.log) in
    let meets : Meets asks answers Initiator (sides_of (port_core s) now.transcript) = knows.holds.holds clean in
    let keeps = meets_keep asks answers (record { asks_fit = fits.asks_fit; answers_fit = fits.answers_fit; matched = offers_match shape is }) in
    record {
      two_ends = λ e. by_end e now.transcript same
          (record { both = refl; mine = knows.holds.ends.a; theirs = knows.holds.ends.b; meets = meets })
          (record { both = refl; mine = knows.holds.ends.b; theirs = knows.holds.ends.a; meets = keeps.swaps Initiator (sides_of (port_core s) now.transcript) meets });
      one = λ guest hub. one_session asks answers (port_core s) now knows clean guest hub;
      front_a = λ up. subst (λ (x : TranscriptLog). IsFront (heard x.a) (said x.b)) same (messages_of (port_core s) now.transcript A meets.converse up);
      front = λ up. subst (λ (x : TranscriptLog). IsFront (heard x.b) (said x.a)) same (messages_of (port_core s) now.transcript B meets.converse up);
    }
  where
    by_end : (e : End) (transcript : TranscriptLog) → transcript ≡ l.transcript → TwoEnds (asks_of shape) (answers_of shape) Initiator (sides_of (port_core s) transcript)
        → TwoEnds (asks_of shape) (answers_of shape) Responder (swapped (sides_of (port_core s) transcript))
        → TwoEnds (asks_of shape) (answers_of shape) (role_at e) (sides_from e (port_core s) l.transcript)
    by_end e transcript same one other = grind arith

-- THE SAME of an end of the port
pub open_turns : (shape : NetShape) (c : LaneCore) (l : PortLog) (e : End) → PortTwoEnds shape c l → IsUp e c.wire.wire → (end_of e c).is_open ≡ true → InAll (role_at e) (transcript_of e l.transcript)
open_turns shape c l A two_ends up opened = open_long (asks_of shape) (answers_of shape) Initiator (sides_of c l.transcript) (two_ends.two_ends A) up opened
open_turns shape c l B two_ends up opened = open_long (asks_of shape) (answers_of shape) Responder (swapped (sides_of c l.transcript)) (two_ends.two_ends B) up opened

pub shut_turns : (shape : NetShape) (c : LaneCore) (l : PortLog) (e : End) → PortTwoEnds shape c l → IsUp e c.wire.wire → (end_of e c).is_open ≡ false
    → length (row (role_at e) (transcript_of e l.transcript)) ≤ 5
shut_turns shape c l A two_ends up shut = closed_short (asks_of shape) (answers_of shape) Initiator (sides_of c l.transcript) (two_ends.two_ends A) up shut
shut_turns shape c l B two_ends up shut = closed_short (asks_of shape) (answers_of shape) Responder (swapped (sides_of c l.transcript)) (two_ends.two_ends B) up shut

-- the peer of an end that heard a message of its session
pub record PeerOpen (e : End) (c : LaneCore) : Type 0 where
  pub up : IsUp (peer_of e) c.wire.wire
  pub opened : (end_of (peer_of e) c).is_open ≡ true

pub many_open : (shape : NetShape) (c : LaneCore) (l : PortLog) (e : End) → PortTwoEnds shape c l → IsUp e c.wire.wire → 7 ≤ length (heard (transcript_of e l.transcript)) → PeerOpen e c
many_open shape c l A two_ends up many =
    let there = peer_open _ _ Initiator (sides_of c l.transcript) (two_ends.two_ends A) up (omega (arith, many, least_seven Initiator)) in
    record { up = there.up; opened = there.opened }
many_open shape c l B two_ends up many =
    let there = peer_open _ _ Responder (swapped (sides_of c l.transcript)) (two_ends.two_ends B) up (omega (arith, many, least_seven Responder)) in
    record { up = there.up; opened = there.opened }

-- the guest of a switch's end in session is in session, and the peer of a guest in session is up
pub six_open : (shape : NetShape) (c : LaneCore) (l : PortLog) → PortTwoEnds shape c l → IsUp B c.wire.wire → c.b.is_open ≡ true → c.a.is_open ≡ true
six_open shape c l two_ends up opened =
    let all = open_turns shape c l B two_ends up opened in
    (peer_open (asks_of shape) (answers_of shape) Responder (swapped (sides_of c l.transcript)) (two_ends.two_ends B) up (least_heard all.heard_long)).opened

pub up_open : (shape : NetShape) (c : LaneCore) (l : PortLog) → PortTwoEnds shape c l → IsUp A c.wire.wire → c.a.is_open ≡ true → IsUp B c.wire.wire
up_open shape c l two_ends up opened =
    let six = (open_turns shape c l A two_ends up opened).heard_long in
    peer_is_up (asks_of shape) (answers_of shape) Initiator (sides_of c l.transcript) (two_ends.two_ends A) up (omega (arith, six))
