-- What a move does to an end, by its role and whatever its kind of lane. What its session holds besides is left open.
use Rattle.std.specs.Prelude.{◌≡◌, ℕ, ◌+◌, ◌≤◌, ◌⊎◌, Bool, true, false, ◌||◌, List, length, Option, Some, None, Result, Ok, Err, ⊤}
use Rattle.ldc_link.specs.declared.phase.Role.{Role}
use Rattle.ldc_link.specs.declared.phase.Role.TheVariants.{Initiator, Responder}
use Rattle.ldc_link.specs.Calls.{Puts}
use Rattle.ldc_link.specs.LinkState.{LinkState, cleared, fresh_link, is_up, joined_link, offered}
use Rattle.ldc_link.specs.Putting.{owes}
use Rattle.ldc_link.specs.Taking.{Heard, LinkTake, TakesBytes, Unheard}
use Rattle.vio_handshake.specs.declared.handshake.Handshake.{Handshake}
use Rattle.vio_handshake.specs.Rules.{Faults, Goes, GoesOpen, HandshakeTake, handshake_take, sid_fault}
use Rattle.vio_handshake.specs.State.{fresh_handshake, joined_handshake}
use Rattle.vio_tag.specs.declared.cause.Cause.{Cause}
use Rattle.vio_tag.specs.declared.cause.Cause.TheVariants as the_cause
use Rattle.vio_tag.specs.declared.message.Message.{Message}
use Rattle.vio_tag.specs.declared.message.MsgBody.{MsgBody}
use Rattle.vio_tag.specs.declared.message.MsgBody.TheVariants.{DringData, Mcast}
use Rattle.vio_tag.specs.declared.message.TagFault.{TagFault}
use Rattle.vio_tag.specs.Decoding.{Decodes}
use Rattle.vio_tag.specs.Spelling.{canonical}
use Rattle.lane_models.specs.EndPuts.{PutKind, put_kind, put_opens, handshake_behind, handshake_risen}
use Rattle.lane_models.specs.EndCore.{Begins, EndCore, EndMove, Fails, Hears, Renews, Says, Stays, Waits, holds}

-- IT BEGINS ANEW, or its values are made new. An initiator's count of sids goes on both times: who asks for sessions never counts anew.
pub record EndBegins (c t : EndCore) : Type 0 where
  pub link : t.link ≡ joined_link c.link
  pub handshake : t.handshake ≡ joined_handshake c.handshake
  pub offer : t.offer ≡ c.offer
  pub closed : t.is_open ≡ false
  pub more : t.more ≡ 0

abbrev pub renewed : Role → EndCore → Handshake
renewed Initiator c = joined_handshake c.handshake
renewed Responder c = fresh_handshake Responder c.offer

pub record EndRenews (role : Role) (c t : EndCore) : Type 0 where
  pub link : t.link ≡ fresh_link role
  pub handshake : t.handshake ≡ renewed role c
  pub offer : t.offer ≡ c.offer
  pub closed : t.is_open ≡ false
  pub more : t.more ≡ 0

-- what both come to
pub record EndAnew (role : Role) (c t : EndCore) : Type 0 where
  pub link : t.link ≡ fresh_link role
  pub handshake : (t.handshake ≡ joined_handshake c.handshake) ⊎ (t.handshake ≡ fresh_handshake role c.offer)
  pub offer : t.offer ≡ c.offer
  pub closed : t.is_open ≡ false

-- WHOSE A MESSAGE IS doesn't change while the link holds one
abbrev pub KeepsOwn : EndCore → EndCore → Type 0
KeepsOwn c t = holds c.link ≡ true → holds t.link ≡ true → t.own ≡ c.own

-- messages of a session speak of rings or of groups
abbrev pub IsOfSession : MsgBody → Type 0
IsOfSession (DringData seq ident start end state) = ⊤
IsOfSession (Mcast set count addresses) = ⊤
IsOfSession _ = ⊥

-- IT HOLDS what is left of a message, or one that its handshake owes, or one of its session, which takes one packet
pub data Holding : Type 0 where
  HoldsOn : Holding
  HoldsOwed : Message → Holding
  HoldsOwn : Message → Holding

pub record OffersOwed (c : EndCore) (message : Message) (held : EndCore) : Type 0 where
  pub quiet : owes c.link ≡ false
  pub owed : c.handshake.owed ≡ Some message
  pub link : held.link ≡ offered (canonical message) c.link
  pub handshake : held.handshake ≡ c.handshake
  pub offer : held.offer ≡ c.offer
  pub is_open : held.is_open ≡ c.is_open
  pub own : holds held.link ≡ true → held.own ≡ false
  pub more : held.more ≤ c.more

pub record OffersOwn (c : EndCore) (message : Message) (held : EndCore) : Type 0 where
  pub quiet : owes c.link ≡ false
  pub owed : c.handshake.owed ≡ None
  pub opened : c.is_open ≡ true
  pub body : IsOfSession message.body
  pub sid : message.sid ≡ c.handshake.draft.sid
  pub short : length (canonical message) ≤ 56
  pub link : held.link ≡ offered (canonical message) c.link
  pub handshake : held.handshake ≡ c.handshake
  pub offer : held.offer ≡ c.offer
  pub is_open : held.is_open ≡ c.is_open
  pub own : held.own ≡ true
  pub most : held.more ≤ c.more
  pub more : is_up c.link ≡ true → held.more + 1 ≤ c.more

-- it has something to put already
pub record HoldsStill (c held : EndCore) : Type 0 where
  pub is : held ≡ c
  pub owing : owes c.link ≡ true

abbrev pub Holds : EndCore → Holding → EndCore → Type 0
Holds c HoldsOn held = HoldsStill c held
Holds c (HoldsOwed message) held = OffersOwed c message held
Holds c (HoldsOwn message) held = OffersOwn c message held

pub record EndWaits (c t : EndCore) : Type 0 where
  pub what : Holding
  pub holds : Holds c what t

-- IT PUTS a packet of what it holds. An initiator's session may open by a message that it put, a responder's never does.
abbrev pub kind_of : EndCore → PutKind
kind_of held = put_kind held.link held.own

abbrev pub opened_by : Role → Bool → Bool → Bool
opened_by Initiator opens before = opens || before
opened_by Responder opens before = before

pub record EndSays (role : Role) (c : EndCore) (packet : List ℕ) (opens : Bool) (t : EndCore) : Type 0 where
  pub held : EndCore
  pub what : Holding
  pub holds : Holds c what held
  pub puts : Puts held.link packet t.link
  pub handshake : t.handshake ≡ handshake_behind (kind_of held) held.handshake
  pub opens_is : opens ≡ put_opens (kind_of held) held.handshake
  pub is_open : t.is_open ≡ opened_by role opens held.is_open
  pub offer : t.offer ≡ held.offer
  pub own : KeepsOwn held t
  pub most : t.more ≤ 256
  pub more : opens ≡ false → t.more ≤ held.more

-- IT TAKES a packet where its handshake owes nothing, and where moreover its link owes none unless its session is open. A responder's
-- handshake begins as its link comes up by the packet.
pub record MayTake (c : EndCore) : Type 0 where
  pub owed : c.handshake.owed ≡ None
  pub quiet : c.is_open ≡ false → owes c.link ≡ false

abbrev pub risen_at : Role → LinkState → LinkState → Handshake → Handshake
risen_at Initiator before behind h = h
risen_at Responder before behind h = handshake_risen before behind h

-- a message of its handshake, which may open a responder's session, never an initiator's
abbrev pub HandshakeTakes : Role → Bool → HandshakeTake → Bool → EndCore → Type 0
HandshakeTakes role was (Goes h) opens t = (opens ≡ false) × (t.handshake ≡ h) × (t.is_open ≡ was)
HandshakeTakes Initiator was (GoesOpen h) opens t = (opens ≡ false) × (t.handshake ≡ h) × (t.is_open ≡ was)
HandshakeTakes Responder was (GoesOpen h) opens t = (opens ≡ true) × (t.handshake ≡ h) × (t.is_open ≡ true)
HandshakeTakes role was (Faults cause) opens t = ⊥

-- a message of its session, which its handshake doesn't see
pub record IsOwnMessage (h : Handshake) (was : Bool) (message : Message) : Type 0 where
  pub opened : was ≡ true
  pub sid : sid_fault h.sid message.sid ≡ None
  pub body : IsOfSession message.body

abbrev pub HearsOwn : Handshake → Bool → Message → Bool → EndCore → Type 0
HearsOwn h was message opens t = IsOwnMessage h was message × (opens ≡ false) × (t.handshake ≡ h) × (t.is_open ≡ was)

abbrev pub HearsDecoded : Role → Handshake → Bool → Result Message TagFault → Bool → EndCore → Type 0
HearsDecoded role h was (Ok message) opens t = HandshakeTakes role was (handshake_take h message) opens t ⊎ HearsOwn h was message opens t
HearsDecoded role h was (Err fault) opens t = ⊥

-- the message that became whole by the packet, if one did
abbrev pub HearsWhole : Role → Handshake → Bool → Option (List ℕ) → Bool → EndCore → Type 0
HearsWhole role h was None opens t = (opens ≡ false) × (t.handshake ≡ h) × (t.is_open ≡ was)
HearsWhole role h was (Some bytes) opens t =
    (decoded : Result Message TagFault) × Decodes bytes decoded × HearsDecoded role h was decoded opens t

pub record EndHears (role : Role) (c : EndCore) (packet : List ℕ) (opens : Bool) (t : EndCore) : Type 0 where
  pub may : MayTake c
  pub heard : LinkState
  pub takes : TakesBytes c.link packet (Heard heard)
  pub link : t.link ≡ cleared heard
  pub hears : HearsWhole role (risen_at role c.link heard c.handshake) c.is_open heard.whole opens t
  pub offer : t.offer ≡ c.offer
  pub own : KeepsOwn c t
  pub most : t.more ≤ 256

-- IT RESETS ITSELF for what its link, the message's codec or its handshake refuses of a packet; or where its session is open for a cause of
-- that, which may lie in a message of it or in none
abbrev pub DecodedFails : Handshake → Bool → Result Message TagFault → Cause → Type 0
DecodedFails h was (Ok message) cause = (handshake_take h message ≡ Faults cause) ⊎ IsOwnMessage h was message
DecodedFails h was (Err fault) cause = cause ≡ the_cause.Tag fault

abbrev pub WholeFails : Handshake → Bool → Option (List ℕ) → Cause → Type 0
WholeFails h was None cause = ⊥
WholeFails h was (Some bytes) cause = (decoded : Result Message TagFault) × Decodes bytes decoded × DecodedFails h was decoded cause

abbrev pub LinkFails : Role → EndCore → LinkTake → Cause → Type 0
LinkFails role c (Heard heard) cause = WholeFails (risen_at role c.link heard c.handshake) c.is_open heard.whole cause
LinkFails role c (Unheard why) cause = cause ≡ why

pub record PacketFails (role : Role) (c : EndCore) (packet : List ℕ) (cause : Cause) : Type 0 where
  pub may : MayTake c
  pub take : LinkTake
  pub takes : TakesBytes c.link packet take
  pub fails : LinkFails role c take cause

abbrev pub EndFails : Role → EndCore → Cause → Option (List ℕ) → Type 0
EndFails role c cause (Some packet) = PacketFails role c packet cause
EndFails role c cause None = c.is_open ≡ true

-- IT WORKS, or does nothing
pub record EndStays (c t : EndCore) : Type 0 where
  pub link : t.link ≡ c.link
  pub handshake : t.handshake ≡ c.handshake
  pub offer : t.offer ≡ c.offer
  pub is_open : t.is_open ≡ c.is_open
  pub own : t.own ≡ c.own
  pub more : t.more ≤ c.more

-- THE STEP, by its move
abbrev pub EndStep : Role → EndCore → EndMove → EndCore → Type 0
EndStep role c Begins t = EndBegins c t
EndStep role c Renews t = EndRenews role c t
EndStep role c (Fails cause packet) t = EndFails role c cause packet × EndBegins c t
EndStep role c (Hears packet opens) t = EndHears role c packet opens t
EndStep role c (Says packet opens) t = EndSays role c packet opens t
EndStep role c Waits t = EndWaits c t
EndStep role c Stays t = EndStays c t
