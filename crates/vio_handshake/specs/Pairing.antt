-- Two handshakes that are given each other's messages, in any interleaving of their steps.
use Rattle.std.specs.Prelude.{◌≡◌, ℕ, Bool, true, false, min, List, [], ◌∷◌, ◌++◌, Option, Some, None, IfSome, ⊤}
use Rattle.ldc_link.specs.declared.phase.Role.{Role}
use Rattle.ldc_link.specs.declared.phase.Role.TheVariants.{Initiator, Responder}
use Rattle.vio_tag.specs.declared.message.Message.{Message}
use Rattle.vio_tag.specs.declared.message.MsgBody.{MsgBody}
use Rattle.vio_tag.specs.declared.message.MsgBody.TheVariants.{Attr}
use Rattle.vio_handshake.specs.Attributes.{answered_attributes, said_attributes}
use Rattle.vio_handshake.specs.Rules.{handshake_sent, handshake_take, taken}
use Rattle.vio_handshake.specs.State.{IsFault, session_of, handshake_up}
use Rattle.vio_handshake.specs.declared.session.HsOut.{HsOut}
use Rattle.vio_handshake.specs.declared.session.HsOut.TheVariants.{Nothing, Opens, Fault}
use Rattle.vio_handshake.specs.declared.session.Offer.{Offer}
use Rattle.vio_handshake.specs.declared.session.Session.{Session}
use Rattle.vio_handshake.specs.declared.handshake.Handshake.{Handshake}

-- the two ends, and the messages on the way to each, the oldest first
pub record Pair : Type 0 where
  pub initiator : Handshake
  pub responder : Handshake
  pub to_initiator : List Message
  pub to_responder : List Message

-- their links just came up
abbrev pub met : Handshake → Handshake → Pair
met initiator responder = record {
  initiator = handshake_up initiator;
  responder = handshake_up responder;
  to_initiator = [];
  to_responder = [];
}

abbrev pub other : Role → Role
other Initiator = Responder
other Responder = Initiator

abbrev pub end_of : Role → Pair → Handshake
end_of Initiator pair = pair.initiator
end_of Responder pair = pair.responder

-- the messages on the way to an end
abbrev pub waiting : Role → Pair → List Message
waiting Initiator pair = pair.to_initiator
waiting Responder pair = pair.to_responder

-- the message that an end owes is put whole
pub record PutsOwed (s : Handshake) (queue : List Message) (t : Handshake) (after : List Message) : Type 0 where
  pub message : Message
  pub owed : s.owed ≡ Some message
  pub sent : t ≡ handshake_sent s
  pub put : after ≡ queue ++ message ∷ []

-- an end that owes nothing takes the first message that waits for it
pub record TakesFirst (s : Handshake) (queue : List Message) (answer : HsOut) (t : Handshake) (after : List Message) : Type 0 where
  pub free : s.owed ≡ None
  pub message : Message
  pub first : queue ≡ message ∷ after
  pub exact : taken answer t ≡ handshake_take s message
  pub unchanged : IsFault answer → t ≡ s

pub data Act : Type 0 where
  Puts : (role : Role) → Act
  Takes : (role : Role) (answer : HsOut) → Act

-- one end acts; the other, and what waits for the one that puts or was put by the one that takes, stay
abbrev pub PairStep : Pair → Act → Pair → Type 0
PairStep s (Puts role) t =
    PutsOwed (end_of role s) (waiting (other role) s) (end_of role t) (waiting (other role) t)
    × (end_of (other role) t ≡ end_of (other role) s) × (waiting role t ≡ waiting role s)
PairStep s (Takes role answer) t =
    TakesFirst (end_of role s) (waiting role s) answer (end_of role t) (waiting role t)
    × (end_of (other role) t ≡ end_of (other role) s) × (waiting (other role) t ≡ waiting (other role) s)

-- no act is a fault
abbrev pub IsHeard : Act → Type 0
IsHeard (Puts role) = ⊤
IsHeard (Takes role Nothing) = ⊤
IsHeard (Takes role Opens) = ⊤
IsHeard (Takes role (Fault cause)) = IsFault Nothing

abbrev pub AreHeard : List Act → Type 0
AreHeard [] = ⊤
AreHeard (act ∷ acts) = IsHeard act × AreHeard acts

-- neither end owes a message, and none is on the way
pub record AtRest (s : Pair) : Type 0 where
  pub initiator : s.initiator.owed ≡ None
  pub responder : s.responder.owed ≡ None
  pub to_initiator : s.to_initiator ≡ []
  pub to_responder : s.to_responder ≡ []

-- in its session an end knows the peer's ring as it was offered, by the number that the peer has for it too
pub record KnowsRing (session peer_session : Session) (offer : Offer) : Type 0 where
  pub ident : session.ident_peer ≡ session.sid
  pub ident_own : peer_session.ident_own ≡ session.sid
  pub slots : session.peer_slots ≡ offer.slots
  pub count : session.peer_count ≡ offer.count
  pub cookies : session.peer_cookies ≡ offer.cookies

abbrev pub KnowsBoth : Bool → Session → Session → Offer → Type 0
KnowsBoth false initiator responder offer = ⊤
KnowsBoth true initiator responder offer = KnowsRing initiator responder offer

-- both ends are open in one session of this sid, with the smaller minor; the responder knows the initiator's ring, and
-- where both ends have one, the initiator the responder's
pub record Agreed (sid : ℕ) (a b : Offer) (s : Pair) : Type 0 where
  pub initiator : Session
  pub responder : Session
  pub initiator_open : session_of s.initiator ≡ Some initiator
  pub responder_open : session_of s.responder ≡ Some responder
  pub initiator_sid : initiator.sid ≡ sid
  pub responder_sid : responder.sid ≡ sid
  pub initiator_minor : initiator.minor ≡ min a.minor b.minor
  pub responder_minor : responder.minor ≡ min a.minor b.minor
  pub ring : KnowsRing responder initiator a
  pub peer_ring : KnowsBoth a.both_rings initiator responder b

-- the attributes in the message that an end owes
abbrev pub attributes_in : MsgBody → Option (List ℕ)
attributes_in (Attr bytes) = Some bytes
attributes_in body = None

abbrev pub owed_attributes : Option Message → Option (List ℕ)
owed_attributes None = None
owed_attributes (Some message) = attributes_in message.body

-- the attributes that either end says are those of a session of this minor, also where its own is higher
pub record SayOfMinor (minor : ℕ) (a b : Offer) (s : Pair) : Type 0 where
  pub asked : IfSome (owed_attributes s.initiator.owed) (λ (bytes : List ℕ). bytes ≡ said_attributes a minor)
  pub answered : IfSome (owed_attributes s.responder.owed) (λ (bytes : List ℕ). bytes ≡ answered_attributes b minor (said_attributes a minor))
