-- What a handshake made of a message that it took, row by row, and what it does once its message was put.
use Rattle.std.proofs.Common.{◌≡◌, ℕ, ◌≤◌, Bool, true, false, Option, Some, None, List, min, inl, refl, sym, ap, ◌∙◌, subst, arith}
use Rattle.std.specs.Prelude.{◌==◌, ◌&&◌, nat_le, if◌then◌else◌, ⊤}
use Rattle.std.proofs.lemmas.Bool.{and_parts, eqb-true, leb-true}
use Rattle.ldc_link.specs.declared.phase.Role.{Role}
use Rattle.ldc_link.specs.declared.phase.Role.TheVariants.{Initiator, Responder}
use Rattle.ldc_packet.specs.declared.packet.Subtype.{Subtype}
use Rattle.map_table.specs.declared.cookie.Cookie.{Cookie}
use Rattle.vio_tag.specs.declared.cause.Cause.{Cause}
use Rattle.vio_tag.specs.declared.message.Message.{Message}
use Rattle.vio_tag.specs.declared.message.MsgBody.{MsgBody}
use Rattle.vio_tag.specs.declared.message.MsgBody.TheVariants.{Attr, DringReg, Rdx, Ver}
use Rattle.vio_handshake.proofs.PlaceRows.{GoesTo}
use Rattle.vio_handshake.specs.Acceptance.{accepts_ring}
use Rattle.vio_handshake.specs.Attributes.{accepts_answered, accepts_said, answered_attributes, said_attributes}
use Rattle.vio_handshake.specs.declared.handshake.Handshake.{Handshake}
use Rattle.vio_handshake.specs.declared.handshake.Phase.{Phase}
use Rattle.vio_handshake.specs.declared.handshake.Phase.TheVariants.{Attributes, Open, OwnReady, OwnRing, PeerReady, PeerReadyTaken, PeerRing, PeerRingTaken, Version}
use Rattle.vio_handshake.specs.Messages.{ack, info, nack, own_ring}
use Rattle.vio_handshake.specs.Rules.{Faults, Goes, GoesOpen, HandshakeTake, agrees_minor, answered, asked, behind_ring, fault_or, is_declined, knows, opens_by_put, own_named, owes, peer_named, put_in, refuses_version, ring_asked, row, handshake_hear, handshake_sent, handshake_take, sid_fault}
use Rattle.lane_models.proofs.Apart.{roles_differ}
use Rattle.lane_models.specs.EndStep.{IsOfSession}

-- A MESSAGE THAT WAS TAKEN: what the handshake is after it, and whether its session opens by it
pub data RowTaken (h : Handshake) (message : Message) (t : Handshake) (opens : Bool) : Type 0 where
  Declined : is_declined message.subtype message.body ≡ true → t ≡ record h { owed = Some (nack message.sid message.body) } → opens ≡ false
      → RowTaken h message t opens
  VersionAgreed : (minor class : ℕ) → h.role ≡ Initiator → h.phase ≡ Version → message ≡ ack message.sid (Ver 1 minor class) → minor ≤ h.offer.minor
      → t ≡ owes Attributes (info message.sid (Attr (said_attributes h.offer minor))) (agrees_minor minor h) → opens ≡ false → RowTaken h message t opens
  VersionAsked : (minor class : ℕ) → h.role ≡ Responder → h.phase ≡ Version → message ≡ info message.sid (Ver 1 minor class)
      → t ≡ owes Attributes (ack message.sid (Ver 1 (min minor h.offer.minor) h.offer.class)) (agrees_minor (min minor h.offer.minor) (knows message.sid h))
      → opens ≡ false → RowTaken h message t opens
  VersionRefused : (major minor class other low : ℕ) → h.role ≡ Responder → h.phase ≡ Version → message ≡ info message.sid (Ver major minor class)
      → t ≡ refuses_version message.sid other low class (knows message.sid h) → opens ≡ false → RowTaken h message t opens
  AttributesAgreed : (bytes : List ℕ) → h.role ≡ Initiator → h.phase ≡ Attributes → message ≡ ack message.sid (Attr bytes)
      → accepts_answered h.offer h.draft.minor bytes ≡ true → t ≡ owes OwnRing (info message.sid (own_ring h.offer)) h → opens ≡ false → RowTaken h message t opens
  AttributesAsked : (bytes : List ℕ) → h.role ≡ Responder → h.phase ≡ Attributes → message ≡ info message.sid (Attr bytes) → accepts_said h.offer h.draft.minor bytes ≡ true
      → t ≡ owes PeerRing (ack message.sid (Attr (answered_attributes h.offer h.draft.minor bytes))) h → opens ≡ false → RowTaken h message t opens
  AttributesRefused : (bytes : List ℕ) → h.role ≡ Responder → h.phase ≡ Attributes → message ≡ info message.sid (Attr bytes)
      → t ≡ owes Attributes (nack message.sid (Attr bytes)) h → opens ≡ false → RowTaken h message t opens
  -- of its own ring: an initiator then waits for the responder's, or goes on, and a responder waits
  RingAgreed : (ident slots slot_size options count : ℕ) (cookies : List Cookie) → h.role ≡ Initiator → h.phase ≡ OwnRing → h.offer.both_rings ≡ true
      → message ≡ ack message.sid (DringReg ident slots slot_size options count cookies) → t ≡ record (own_named h ident) { phase = PeerRing } → opens ≡ false
      → RowTaken h message t opens
  OneRingAgreed : (ident slots slot_size options count : ℕ) (cookies : List Cookie) → h.role ≡ Initiator → h.phase ≡ OwnRing → h.offer.both_rings ≡ false
      → message ≡ ack message.sid (DringReg ident slots slot_size options count cookies) → t ≡ owes OwnReady (info message.sid Rdx) (own_named h ident) → opens ≡ false
      → RowTaken h message t opens
  PeerAgreed : (ident slots slot_size options count : ℕ) (cookies : List Cookie) → h.role ≡ Responder → h.phase ≡ OwnRing
      → message ≡ ack message.sid (DringReg ident slots slot_size options count cookies) → t ≡ record (own_named h ident) { phase = PeerReady } → opens ≡ false
      → RowTaken h message t opens
  RingAsked : (ident slots slot_size options count : ℕ) (cookies : List Cookie) → h.phase ≡ PeerRing
      → message ≡ info message.sid (DringReg ident slots slot_size options count cookies) → accepts_ring h.offer slots slot_size options count cookies ≡ true
      → t ≡ owes (behind_ring h.offer.both_rings) (ack message.sid (DringReg message.sid slots slot_size options count cookies)) (peer_named h message.sid slots count cookies)
      → opens ≡ false → RowTaken h message t opens
  RingRefused : (ident slots slot_size options count : ℕ) (cookies : List Cookie) → h.phase ≡ PeerRing
      → message ≡ info message.sid (DringReg ident slots slot_size options count cookies)
      → t ≡ owes PeerRing (nack message.sid (DringReg ident slots slot_size options count cookies)) h → opens ≡ false → RowTaken h message t opens
  ReadyAgreed : h.role ≡ Initiator → h.phase ≡ OwnReady → message ≡ ack message.sid Rdx → t ≡ record h { phase = PeerReady } → opens ≡ false → RowTaken h message t opens
  ReadyAsked : h.phase ≡ PeerReady → message ≡ info message.sid Rdx → t ≡ owes PeerReadyTaken (ack message.sid Rdx) h → opens ≡ false → RowTaken h message t opens
  Opened : h.role ≡ Responder → h.phase ≡ OwnReady → message ≡ ack message.sid Rdx → t ≡ record h { phase = Open } → opens ≡ true → RowTaken h message t opens

record TookRow (h : Handshake) (message : Message) (t : Handshake) (opens : Bool) : Type 0 where
  sid : sid_fault h.sid message.sid ≡ None
  row : RowTaken h message t opens

pub record HandshakeTook (h : Handshake) (message : Message) (t : Handshake) (opens : Bool) : Type 0 where
  pub sid : sid_fault h.sid message.sid ≡ None
  pub row : RowTaken h message t opens
  pub takes : GoesTo (handshake_take h message) t

abbrev RowIs : Handshake → Message → HandshakeTake → Type 0
RowIs h message (Goes t) = RowTaken h message t false
RowIs h message (GoesOpen t) = RowTaken h message t true
RowIs h message (Faults cause) = ⊤

abbrev made : Subtype → ℕ → MsgBody → Message
made subtype sid body = record { subtype = subtype; sid = sid; body = body }

answered_is : (h : Handshake) (subtype : Subtype) (sid : ℕ) (body : MsgBody) (judged : HandshakeTake) → (made subtype sid body ≡ ack sid body → RowIs h (made subtype sid body) judged)
    → RowIs h (made subtype sid body) (answered subtype judged)
answered_is h subtype sid body judged is = grind arith

asked_is : (h : Handshake) (subtype : Subtype) (sid : ℕ) (body : MsgBody) (judged : HandshakeTake) → (made subtype sid body ≡ info sid body → RowIs h (made subtype sid body) judged)
    → RowIs h (made subtype sid body) (asked subtype judged)
asked_is h subtype sid body judged is = grind arith

either_is : (h : Handshake) (message : Message) (test : Bool) (x y : HandshakeTake) → (test ≡ true → RowIs h message x) → (test ≡ false → RowIs h message y)
    → RowIs h message (if test then x else y)
either_is h message true x y one other = one refl
either_is h message false x y one other = other refl

goes_is : (h : Handshake) (message : Message) (test : Bool) (x y : Handshake) → (test ≡ true → RowTaken h message x false) → (test ≡ false → RowTaken h message y false)
    → RowTaken h message (if test then x else y) false
goes_is h message true x y one other = one refl
goes_is h message false x y one other = other refl

-- a version by its major
version_is : (h : Handshake) (subtype : Subtype) (sid major minor class : ℕ) → h.role ≡ Responder → h.phase ≡ Version
    → made subtype sid (Ver major minor class) ≡ info sid (Ver major minor class)
    → RowTaken h (made subtype sid (Ver major minor class))
    (if major == 1 then (owes Attributes (ack sid (Ver 1 (min minor h.offer.minor) h.offer.class)) (agrees_minor (min minor h.offer.minor) (knows sid h)))
    else if major == 0 then (refuses_version sid 0 0 class (knows sid h)) else (refuses_version sid 1 h.offer.minor class (knows sid h))) false
version_is h subtype sid major minor class role at is =
    goes_is h (made subtype sid (Ver major minor class)) (major == 1) _ _
    (λ one. VersionAsked minor class role at (is ∙ ap (λ n. info sid (Ver n minor class)) (eqb-true major 1 one)) refl refl)
    (λ not. goes_is h (made subtype sid (Ver major minor class)) (major == 0) _ _
    (λ none. VersionRefused major minor class 0 0 role at is refl refl)
    (λ more. VersionRefused major minor class 1 h.offer.minor role at is refl refl))

-- the other end's ring
ring_is : (h : Handshake) (subtype : Subtype) (sid ident slots slot_size options count : ℕ) (cookies : List Cookie) → h.phase ≡ PeerRing
    → RowIs h (made subtype sid (DringReg ident slots slot_size options count cookies)) (asked subtype (Goes (ring_asked h sid ident slots slot_size options count cookies)))
ring_is h subtype sid ident slots slot_size options count cookies at =
    asked_is h subtype sid (DringReg ident slots slot_size options count cookies) _
    (λ is. goes_is h (made subtype sid (DringReg ident slots slot_size options count cookies)) (accepts_ring h.offer slots slot_size options count cookies) _ _
    (λ test. RingAsked ident slots slot_size options count cookies at is test refl refl)
    (λ test. RingRefused ident slots slot_size options count cookies at is refl refl))

row_is : (role : Role) (phase : Phase) (h : Handshake) (subtype : Subtype) (sid : ℕ) (body : MsgBody) → h.role ≡ role → h.phase ≡ phase
    → RowIs h (made subtype sid body) (row role phase h subtype sid body)
row_is Initiator Version h subtype sid (Ver major minor class) role at =
    answered_is h subtype sid (Ver major minor class) _
    (λ is. either_is h (made subtype sid (Ver major minor class)) (major == 1 && nat_le minor h.offer.minor) _ _
    (λ test. let tests = and_parts (major == 1) (nat_le minor h.offer.minor) test in
    VersionAgreed minor class role at (is ∙ ap (λ n. ack sid (Ver n minor class)) (eqb-true major 1 tests.0)) (leb-true minor h.offer.minor tests.1) refl refl)
    (λ test. tt))
row_is Responder Version h subtype sid (Ver major minor class) role at =
    asked_is h subtype sid (Ver major minor class) _ (λ is. version_is h subtype sid major minor class role at is)
row_is Initiator Attributes h subtype sid (Attr bytes) role at =
    answered_is h subtype sid (Attr bytes) _
    (λ is. either_is h (made subtype sid (Attr bytes)) (accepts_answered h.offer h.draft.minor bytes) _ _ (λ test. AttributesAgreed bytes role at is test refl refl) (λ test. tt))
row_is Responder Attributes h subtype sid (Attr bytes) role at =
    asked_is h subtype sid (Attr bytes) _
    (λ is. goes_is h (made subtype sid (Attr bytes)) (accepts_said h.offer h.draft.minor bytes) _ _
    (λ test. AttributesAsked bytes role at is test refl refl) (λ test. AttributesRefused bytes role at is refl refl))
row_is Initiator OwnRing h subtype sid (DringReg ident slots slot_size options count cookies) role at =
    answered_is h subtype sid (DringReg ident slots slot_size options count cookies) _
    (λ is. goes_is h (made subtype sid (DringReg ident slots slot_size options count cookies)) h.offer.both_rings _ _
    (λ both. RingAgreed ident slots slot_size options count cookies role at both is refl refl)
    (λ one. OneRingAgreed ident slots slot_size options count cookies role at one is refl refl))
row_is Responder OwnRing h subtype sid (DringReg ident slots slot_size options count cookies) role at =
    answered_is h subtype sid (DringReg ident slots slot_size options count cookies) _
    (λ is. PeerAgreed ident slots slot_size options count cookies role at is refl refl)
row_is Initiator PeerRing h subtype sid (DringReg ident slots slot_size options count cookies) role at =
    ring_is h subtype sid ident slots slot_size options count cookies at
row_is Responder PeerRing h subtype sid (DringReg ident slots slot_size options count cookies) role at =
    ring_is h subtype sid ident slots slot_size options count cookies at
row_is Initiator OwnReady h subtype sid Rdx role at = answered_is h subtype sid Rdx _ (λ is. ReadyAgreed role at is refl refl)
row_is Responder OwnReady h subtype sid Rdx role at = answered_is h subtype sid Rdx _ (λ is. Opened role at is refl refl)
row_is Initiator PeerReady h subtype sid Rdx role at = asked_is h subtype sid Rdx _ (λ is. ReadyAsked at is refl refl)
row_is Responder PeerReady h subtype sid Rdx role at = asked_is h subtype sid Rdx _ (λ is. ReadyAsked at is refl refl)
row_is Initiator phase h subtype sid body role at = tt
row_is Responder phase h subtype sid body role at = tt

abbrev TookIs : Handshake → Message → HandshakeTake → Type 0
TookIs h message (Goes t) = TookRow h message t false
TookIs h message (GoesOpen t) = TookRow h message t true
TookIs h message (Faults cause) = ⊤

with_sid : (h : Handshake) (message : Message) (take : HandshakeTake) → sid_fault h.sid message.sid ≡ None → RowIs h message take → TookIs h message take
with_sid h message (Goes t) fine is = record { sid = fine; row = is }
with_sid h message (GoesOpen t) fine is = record { sid = fine; row = is }
with_sid h message (Faults cause) fine is = tt

fine_is : (h : Handshake) (message : Message) (fault : Option Cause) (rest : HandshakeTake) → sid_fault h.sid message.sid ≡ fault → RowIs h message rest
    → TookIs h message (fault_or fault rest)
fine_is h message None rest fine is = with_sid h message rest fine is
fine_is h message (Some cause) rest fine is = tt

took_is : (h : Handshake) (message : Message) → TookIs h message (handshake_take h message)
took_is h message =
    fine_is h message (sid_fault h.sid message.sid) (handshake_hear h message.subtype message.sid message.body) refl
    (either_is h message (is_declined message.subtype message.body) (Goes (record h { owed = Some (nack message.sid message.body) }))
    (row h.role h.phase h message.subtype message.sid message.body)
    (λ test. Declined test refl refl) (λ test. row_is h.role h.phase h message.subtype message.sid message.body refl refl))

pub goes_took : (h t : Handshake) (message : Message) → handshake_take h message ≡ Goes t → HandshakeTook h message t false
goes_took h t message is =
    let took : TookIs h message (Goes t) = subst (TookIs h message) is (took_is h message) in
    record { sid = took.sid; row = took.row; takes = inl is }

pub opens_took : (h t : Handshake) (message : Message) → handshake_take h message ≡ GoesOpen t → HandshakeTook h message t true
opens_took h t message is = grind (arith, took_is)

-- only a responder's session opens by one: by the agreement to RDX
pub opens_row : (h t : Handshake) (message : Message) → RowTaken h message t true → (h.role ≡ Responder) × (message ≡ ack message.sid Rdx)
opens_row h t message taken = grind arith

pub never_opens : (h t : Handshake) (message : Message) → h.role ≡ Initiator → HandshakeTook h message t true → ⊥
never_opens h t message role took = roles_differ (sym role ∙ (opens_row h t message took.row).0)

-- it takes none of its session's
pub row_apart : (h t : Handshake) (message : Message) (opens : Bool) → RowTaken h message t opens → IsOfSession message.body → ⊥
row_apart h t message opened taken of = grind arith

-- ONCE ITS MESSAGE WAS PUT: the next is owed, or an initiator's session opens, or nothing is owed
abbrev pub NothingFollows : Phase → Type 0
NothingFollows PeerRingTaken = ⊥
NothingFollows PeerReadyTaken = ⊥
NothingFollows _ = ⊤

pub data RowSent (h t : Handshake) (opens : Bool) : Type 0 where
  ReadyFollows : h.role ≡ Initiator → h.phase ≡ PeerRingTaken → t ≡ owes OwnReady (info h.draft.sid Rdx) h → opens ≡ false → RowSent h t opens
  RingFollows : h.role ≡ Responder → h.phase ≡ PeerRingTaken → t ≡ owes OwnRing (info h.draft.sid (own_ring h.offer)) h → opens ≡ false → RowSent h t opens
  OwnReadyFollows : h.role ≡ Responder → h.phase ≡ PeerReadyTaken → t ≡ owes OwnReady (info h.draft.sid Rdx) h → opens ≡ false → RowSent h t opens
  Opens : h.role ≡ Initiator → h.phase ≡ PeerReadyTaken → t ≡ record h { phase = Open; owed = None } → opens ≡ true → RowSent h t opens
  Owes : NothingFollows h.phase → t ≡ record h { owed = None } → opens ≡ false → RowSent h t opens

sent_in : (role : Role) (phase : Phase) (h : Handshake) → h.role ≡ role → h.phase ≡ phase → RowSent h (put_in role phase h) (opens_by_put role phase)
sent_in role phase h is at = grind arith

pub row_sent : (h : Handshake) → RowSent h (handshake_sent h) (opens_by_put h.role h.phase)
row_sent h = sent_in h.role h.phase h refl refl
