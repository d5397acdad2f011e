-- What the handshake of an end that began it keeps: its role and its session's number. Once it is through it stays so.
use Rattle.std.proofs.Common.{◌≡◌, ◌≢◌, ℕ, Bool, true, false, Option, Some, None, List, sym, refl, subst}
use Rattle.std.specs.Prelude.{◌==◌, ◌&&◌, nat_le, if◌then◌else◌, ⊤}
use Rattle.ldc_link.specs.declared.phase.Role.{Role}
use Rattle.ldc_link.specs.declared.phase.Role.TheVariants.{Initiator, Responder}
use Rattle.ldc_packet.specs.declared.packet.Subtype.{Subtype}
use Rattle.ldc_packet.specs.declared.packet.Subtype.TheVariants.{Info, Ack, Nack}
use Rattle.map_table.specs.declared.cookie.Cookie.{Cookie}
use Rattle.vio_tag.specs.declared.cause.Cause.{Cause}
use Rattle.vio_tag.specs.declared.cause.Cause.TheVariants.{Refused}
use Rattle.vio_tag.specs.declared.message.Message.{Message}
use Rattle.vio_tag.specs.declared.message.MsgBody.{MsgBody}
use Rattle.vio_tag.specs.declared.message.MsgBody.TheVariants.{Ver, Attr, DringReg, Rdx}
use Rattle.vio_handshake.specs.Acceptance.{accepts_ring}
use Rattle.vio_handshake.specs.Attributes.{accepts_answered, said_attributes}
use Rattle.vio_handshake.specs.Messages.{ack, info, nack, own_ring}
use Rattle.vio_handshake.specs.Rules.{HandshakeTake, Goes, GoesOpen, Faults, agrees_minor, answered, asked, attributes_answered, behind_ring, fault_or, is_declined, owes, own_named, peer_named, put_in, ring_answered, ring_asked, row, handshake_hear, handshake_sent, handshake_take, sid_fault, version_answered}
use Rattle.vio_handshake.specs.State.{begun, joined_handshake, handshake_up}
use Rattle.vio_handshake.specs.declared.handshake.Handshake.{Handshake}
use Rattle.vio_handshake.specs.declared.handshake.Phase.{Phase}
use Rattle.vio_handshake.specs.declared.handshake.Phase.TheVariants.{Down, Version, Attributes, OwnRing, PeerRing, PeerRingTaken, OwnReady, PeerReady, PeerReadyTaken, Open}
use Rattle.vdisk_client.specs.Standing.{IsBegun}

pub record HandshakeKeeps (s t : Handshake) : Type 0 where
  pub role : t.role ≡ s.role
  pub sid : t.sid ≡ s.sid
  pub draft : t.draft.sid ≡ s.draft.sid
  pub begun : s.phase ≢ Down → t.phase ≢ Down
  pub opened : s.phase ≡ Open → t.phase ≡ Open

-- whatever comes of a message
abbrev pub TakeKeeps : Handshake → HandshakeTake → Type 0
TakeKeeps s (Goes t) = HandshakeKeeps s t
TakeKeeps s (GoesOpen t) = HandshakeKeeps s t
TakeKeeps s (Faults cause) = ⊤

-- a phase between the link's coming up and the session
abbrev IsBetween : Phase → Type 0
IsBetween Down = ⊥
IsBetween Open = ⊥
IsBetween _ = ⊤

not_down : (p : Phase) → IsBetween p → p ≡ Down → ⊥
not_down p between is = absurd (subst IsBetween is between)

not_open : (p : Phase) → IsBetween p → p ≡ Open → ⊥
not_open p between is = absurd (subst IsBetween is between)

module _ (s : Handshake) where
  same_phase : (owed : Option Message) → HandshakeKeeps s (record s { owed = owed })
  same_phase owed = record { role = refl; sid = refl; draft = refl; begun = λ up. up; opened = λ is. is }

  if_keeps : (b : Bool) (x y : HandshakeTake) → TakeKeeps s x → TakeKeeps s y → TakeKeeps s (if b then x else y)
  if_keeps true x y first second = first
  if_keeps false x y first second = second

  if_handshake : (b : Bool) (x y : Handshake) → HandshakeKeeps s x → HandshakeKeeps s y → HandshakeKeeps s (if b then x else y)
  if_handshake true x y first second = first
  if_handshake false x y first second = second

  answered_keeps : (subtype : Subtype) (judged : HandshakeTake) → TakeKeeps s judged → TakeKeeps s (answered subtype judged)
  answered_keeps Info judged keeps = tt
  answered_keeps Ack judged keeps = keeps
  answered_keeps Nack judged keeps = tt

  asked_keeps : (subtype : Subtype) (judged : HandshakeTake) → TakeKeeps s judged → TakeKeeps s (asked subtype judged)
  asked_keeps Info judged keeps = keeps
  asked_keeps Ack judged keeps = tt
  asked_keeps Nack judged keeps = tt

  -- the handshake goes on, from one such phase to another
  goes_on : (p : Phase) → s.phase ≡ p → IsBetween p → (t : Handshake) → IsBetween t.phase → t.role ≡ s.role → t.sid ≡ s.sid → t.draft.sid ≡ s.draft.sid → HandshakeKeeps s t
  goes_on p is between t next role sid draft = record {
    role = role;
    sid = sid;
    draft = draft;
    begun = λ _ down. not_down t.phase next down;
    opened = λ through. absurd (not_open s.phase (subst IsBetween (sym is) between) through);
  }

  version_keeps : (sid major minor : ℕ) → s.phase ≡ Version → TakeKeeps s (version_answered s sid major minor)
  version_keeps sid major minor is =
      if_keeps (major == 1 && nat_le minor s.offer.minor) (Goes (owes Attributes (info sid (Attr (said_attributes s.offer minor))) (agrees_minor minor s))) (Faults Refused)
      (goes_on Version is tt (owes Attributes (info sid (Attr (said_attributes s.offer minor))) (agrees_minor minor s)) tt refl refl refl) tt

  attributes_keeps : (sid : ℕ) (bytes : List ℕ) → s.phase ≡ Attributes → TakeKeeps s (attributes_answered s sid bytes)
  attributes_keeps sid bytes is =
      if_keeps (accepts_answered s.offer s.draft.minor bytes) (Goes (owes OwnRing (info sid (own_ring s.offer)) s)) (Faults Refused)
      (goes_on Attributes is tt (owes OwnRing (info sid (own_ring s.offer)) s) tt refl refl refl) tt

  ring_keeps : (sid ident : ℕ) → s.phase ≡ OwnRing → HandshakeKeeps s (ring_answered Initiator s sid ident)
  ring_keeps sid ident is =
      if_handshake s.offer.both_rings (record (own_named s ident) { phase = PeerRing }) (owes OwnReady (info sid Rdx) (own_named s ident))
      (goes_on OwnRing is tt (record (own_named s ident) { phase = PeerRing }) tt refl refl refl)
      (goes_on OwnRing is tt (owes OwnReady (info sid Rdx) (own_named s ident)) tt refl refl refl)

  after_ring : (b : Bool) → IsBetween (behind_ring b)
  after_ring true = tt
  after_ring false = tt

  asked_ring_keeps : (sid ident slots slot_size options count : ℕ) (cookies : List Cookie) → s.phase ≡ PeerRing
      → HandshakeKeeps s (ring_asked s sid ident slots slot_size options count cookies)
  asked_ring_keeps sid ident slots slot_size options count cookies is =
      if_handshake (accepts_ring s.offer slots slot_size options count cookies)
      (owes (behind_ring s.offer.both_rings) (ack sid (DringReg sid slots slot_size options count cookies)) (peer_named s sid slots count cookies))
      (owes PeerRing (nack sid (DringReg ident slots slot_size options count cookies)) s)
      (goes_on PeerRing is tt (owes (behind_ring s.offer.both_rings) (ack sid (DringReg sid slots slot_size options count cookies)) (peer_named s sid slots count cookies)) (after_ring s.offer.both_rings) refl refl refl)
      (goes_on PeerRing is tt (owes PeerRing (nack sid (DringReg ident slots slot_size options count cookies)) s) tt refl refl refl)

  row_keeps : (p : Phase) (subtype : Subtype) (sid : ℕ) (body : MsgBody) → s.phase ≡ p → TakeKeeps s (row Initiator p s subtype sid body)
  row_keeps Version subtype sid (Ver major minor class) is = answered_keeps subtype (version_answered s sid major minor) (version_keeps sid major minor is)
  row_keeps Attributes subtype sid (Attr bytes) is = answered_keeps subtype (attributes_answered s sid bytes) (attributes_keeps sid bytes is)
  row_keeps OwnRing subtype sid (DringReg ident slots slot_size options count cookies) is =
      answered_keeps subtype (Goes (ring_answered Initiator s sid ident)) (ring_keeps sid ident is)
  row_keeps PeerRing subtype sid (DringReg ident slots slot_size options count cookies) is =
      asked_keeps subtype (Goes (ring_asked s sid ident slots slot_size options count cookies)) (asked_ring_keeps sid ident slots slot_size options count cookies is)
  row_keeps OwnReady subtype sid Rdx is = answered_keeps subtype (Goes (record s { phase = PeerReady })) (goes_on OwnReady is tt (record s { phase = PeerReady }) tt refl refl refl)
  row_keeps PeerReady subtype sid Rdx is =
      asked_keeps subtype (Goes (owes PeerReadyTaken (ack sid Rdx) s)) (goes_on PeerReady is tt (owes PeerReadyTaken (ack sid Rdx) s) tt refl refl refl)
  row_keeps p subtype sid body is = tt

  hear_keeps : (role : Role) (subtype : Subtype) (sid : ℕ) (body : MsgBody) → role ≡ Initiator → TakeKeeps s (row role s.phase s subtype sid body)
  hear_keeps Initiator subtype sid body is = row_keeps s.phase subtype sid body refl
  hear_keeps Responder subtype sid body is = absurd (cc is)

  fault_keeps : (fault : Option Cause) (rest : HandshakeTake) → TakeKeeps s rest → TakeKeeps s (fault_or fault rest)
  fault_keeps None rest keeps = keeps
  fault_keeps (Some cause) rest keeps = tt

pub take_keeps : (s : Handshake) (message : Message) → s.role ≡ Initiator → TakeKeeps s (handshake_take s message)
take_keeps s message role =
    fault_keeps s (sid_fault s.sid message.sid) (handshake_hear s message.subtype message.sid message.body)
    (if_keeps s (is_declined message.subtype message.body) (Goes (record s { owed = Some (nack message.sid message.body) })) (row s.role s.phase s message.subtype message.sid message.body)
    (same_phase s (Some (nack message.sid message.body))) (hear_keeps s s.role message.subtype message.sid message.body role))

put_keeps : (role : Role) (p : Phase) (s : Handshake) → s.phase ≡ p → role ≡ Initiator → HandshakeKeeps s (put_in role p s)
put_keeps Responder p s is role = absurd (cc role)
put_keeps Initiator PeerRingTaken s is role = goes_on s PeerRingTaken is tt (owes OwnReady (info s.draft.sid Rdx) s) tt refl refl refl
put_keeps Initiator PeerReadyTaken s is role = record { role = refl; sid = refl; draft = refl; begun = λ _ down. absurd (cc down); opened = λ _. refl }
put_keeps Initiator p s is role = same_phase s None

pub sent_keeps : (s : Handshake) → s.role ≡ Initiator → HandshakeKeeps s (handshake_sent s)
sent_keeps s role = put_keeps s.role s.phase s refl role

pub begun_keeps : (s t : Handshake) → HandshakeKeeps s t → IsBegun s → IsBegun t
begun_keeps s t keeps begun = record {
  phase = keeps.begun begun.phase;
  known = cc (keeps.sid, keeps.draft, begun.known);
}

begins_in : (role : Role) (s : Handshake) → role ≡ Initiator → IsBegun (begun role (joined_handshake s)) × ((begun role (joined_handshake s)).role ≡ s.role)
begins_in Initiator s is = (record { phase = λ down. absurd (cc down); known = refl }, refl)
begins_in Responder s is = absurd (cc is)

pub up_begins : (s : Handshake) → s.role ≡ Initiator → IsBegun (handshake_up s) × ((handshake_up s).role ≡ s.role)
up_begins s role = begins_in s.role s role
