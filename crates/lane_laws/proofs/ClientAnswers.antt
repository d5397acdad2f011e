-- What a client makes of a packet that it takes: what holds of each answer that it may come to, holds of the one that it comes to.
use Rattle.std.proofs.Common.{◌≡◌, ℕ, ◌+◌, ◌<◌, ◌≤◌, Bool, true, false, Option, Some, None, List, refl, sym, subst, arith}
use Rattle.std.specs.Prelude.{◌&&◌, nat_le, nat_lt, if◌then◌else◌, is_some, Result, Ok, Err, ⊤}
use Rattle.std.proofs.lemmas.Bool.{and_parts, leb-true, ltb-true}
use Rattle.ldc_link.specs.LinkState.{LinkState, cleared}
use Rattle.ldc_link.specs.Taking.{Heard, LinkTake, TakesBytes, Unheard}
use Rattle.ldc_packet.specs.declared.packet.Subtype.{Subtype}
use Rattle.ldc_packet.specs.declared.packet.Subtype.TheVariants.{Ack}
use Rattle.vio_tag.specs.declared.cause.Cause.{Cause}
use Rattle.vio_tag.specs.declared.cause.Cause.TheVariants as the_cause
use Rattle.vio_tag.specs.declared.message.Message.{Message}
use Rattle.vio_tag.specs.declared.message.MsgBody.{MsgBody}
use Rattle.vio_tag.specs.declared.message.MsgBody.TheVariants.{DringData}
use Rattle.vio_tag.specs.declared.message.TagFault.{TagFault}
use Rattle.vio_tag.specs.Decoding.{Decodes}
use Rattle.vio_handshake.specs.declared.handshake.Handshake.{Handshake}
use Rattle.vio_handshake.specs.Rules.{Faults, Goes, GoesOpen, HandshakeTake, handshake_take, sid_fault}
use Rattle.lane_models.specs.EndStep.{IsOwnMessage}
use Rattle.lane_models.specs.Ranges.{is_other}
use Rattle.dring.specs.Slots.{range_length}
use Rattle.lane_models.specs.ClientState.{ClientSession, ClientState, slot_in}
use Rattle.lane_models.specs.ClientTaking.{ClientTake, ClientTakes, GoesOn, HearsLink, HearsWhole, Resets, acknowledged, by_handshake, hears_message, in_session, reads, takes_ack}

-- a handshake after a message, whether its session opens by it or not
abbrev pub HandshakesTo : Handshake → HandshakeTake → Bool → Handshake → Type 0
HandshakesTo h answer false g = answer ≡ Goes g
HandshakesTo h answer true g = answer ≡ GoesOpen g

-- an acknowledgement of its ranges
pub record Acks (s : ClientState) (message : Message) : Type 0 where
  pub session : ClientSession
  pub seq : ℕ
  pub ident : ℕ
  pub start : ℕ
  pub end : ℕ
  pub state : ℕ
  pub session_is : s.session ≡ Some session
  pub subtype_is : message.subtype ≡ Ack
  pub body_is : message.body ≡ DringData seq ident start end state
  pub sid_is : sid_fault s.handshake.sid message.sid ≡ None
  pub ident_is : ident ≡ s.handshake.draft.ident_own
  pub begins : start ≡ slot_in s session.acked
  pub ends : end < s.slots
  pub within : session.acked + range_length s.slots start end ≤ session.announced

-- or what is wrong with one, by the cause for which the client resets itself
abbrev pub AckFails : (ident start end : ℕ) → Cause → Type 0
AckFails ident start end (the_cause.Ident expected found) = (is_other expected found ≡ true) × (found ≡ ident)
AckFails ident start end (the_cause.Slot expected found) = (is_other expected found ≡ true) × (found ≡ start)
AckFails ident start end (the_cause.RangeEnd found) = found ≡ end
AckFails ident start end the_cause.Refused = ⊤
AckFails ident start end cause = ⊥

pub record Refuses (s : ClientState) (message : Message) (cause : Cause) : Type 0 where
  pub own : IsOwnMessage s.handshake (is_some s.session) message
  pub seq : ℕ
  pub ident : ℕ
  pub start : ℕ
  pub end : ℕ
  pub state : ℕ
  pub body_is : message.body ≡ DringData seq ident start end state
  pub fails : AckFails ident start end cause

-- EACH ANSWER to a message, with this link behind it: its handshake goes on or refuses it, or it is of its session
pub record Answers (s : ClientState) (k : LinkState) (message : Message) (T : ClientTake → Type 0) : Type 0 where
  pub goes : (opens : Bool) (h : Handshake) → HandshakesTo s.handshake (handshake_take s.handshake message) opens h → T (GoesOn (record s { link = k; handshake = h }))
  pub faults : (cause : Cause) → handshake_take s.handshake message ≡ Faults cause → T (Resets cause)
  pub acks : (a : Acks s message) → T (GoesOn (acknowledged (record s { link = k }) a.session (range_length s.slots a.start a.end)))
  pub refuses : (cause : Cause) → Refuses s message cause → T (Resets cause)

-- to a packet that its link heard so
pub record Hearings (s : ClientState) (k : LinkState) (T : ClientTake → Type 0) : Type 0 where
  pub none : k.whole ≡ None → T (GoesOn (record s { link = k }))
  pub some : (bytes : List ℕ) (message : Message) → k.whole ≡ Some bytes → Decodes bytes (Ok message) → Answers s (cleared k) message T
  pub tags : (bytes : List ℕ) (fault : TagFault) → k.whole ≡ Some bytes → Decodes bytes (Err fault) → T (Resets (the_cause.Tag fault))

-- A MESSAGE
by_take : (s : ClientState) (k : LinkState) (message : Message) (T : ClientTake → Type 0) (take : HandshakeTake) → Answers s k message T → handshake_take s.handshake message ≡ take
    → T (by_handshake (record s { link = k }) take)
by_take s k message T (Goes h) answers is = answers.goes false h is
by_take s k message T (GoesOpen h) answers is = answers.goes true h is
by_take s k message T (Faults cause) answers is = answers.faults cause is

pub is_the : (one other : ℕ) → is_other one other ≡ false → other ≡ one
is_the one other is = grind arith

either : (T : ClientTake → Type 0) (b : Bool) (x y : ClientTake) → (b ≡ true → T x) → (b ≡ false → T y) → T (if b then x else y)
either T true x y one other = one refl
either T false x y one other = other refl

refused : (s : ClientState) (message : Message) (session : ClientSession) (seq ident start end state : ℕ) (cause : Cause) → s.session ≡ Some session
    → sid_fault s.handshake.sid message.sid ≡ None → message.body ≡ DringData seq ident start end state → AckFails ident start end cause → Refuses s message cause
refused s message session seq ident start end state cause is sid body fails = grind arith

by_ack : (s : ClientState) (k : LinkState) (message : Message) (T : ClientTake → Type 0) (session : ClientSession) (seq ident start end state : ℕ) → Answers s k message T
    → s.session ≡ Some session → sid_fault s.handshake.sid message.sid ≡ None → message.subtype ≡ Ack → message.body ≡ DringData seq ident start end state
    → T (takes_ack (record s { link = k }) session ident start end)
by_ack s k message T session seq ident start end state answers is sid kind body =
    let resets : (cause : Cause) → AckFails ident start end cause → T (Resets cause) =
    λ cause fails. answers.refuses cause (refused s message session seq ident start end state cause is sid body fails) in
    either T (is_other s.handshake.draft.ident_own ident) (Resets (the_cause.Ident s.handshake.draft.ident_own ident)) _
    (λ test. resets (the_cause.Ident s.handshake.draft.ident_own ident) (test, refl))
    (λ known.
    either T (is_other (slot_in s session.acked) start) (Resets (the_cause.Slot (slot_in s session.acked) start)) _
    (λ test. resets (the_cause.Slot (slot_in s session.acked) start) (test, refl))
    (λ next.
    either T (nat_lt end s.slots && nat_le (session.acked + range_length s.slots start end) session.announced)
    (GoesOn (acknowledged (record s { link = k }) session (range_length s.slots start end))) (Resets (the_cause.RangeEnd end))
    (λ test.
    let fits = and_parts (nat_lt end s.slots) (nat_le (session.acked + range_length s.slots start end) session.announced) test in
    answers.acks (record {
      session = session;
      seq = seq;
      ident = ident;
      start = start;
      end = end;
      state = state;
      session_is = is;
      subtype_is = kind;
      body_is = body;
      sid_is = sid;
      ident_is = is_the s.handshake.draft.ident_own ident known;
      begins = is_the (slot_in s session.acked) start next;
      ends = ltb-true end s.slots fits.0;
      within = leb-true (session.acked + range_length s.slots start end) session.announced fits.1;
    }))
    (λ test. resets (the_cause.RangeEnd end) refl)))

by_session : (s : ClientState) (k : LinkState) (message : Message) (T : ClientTake → Type 0) (session : ClientSession) (subtype : Subtype) (body : MsgBody) → Answers s k message T
    → s.session ≡ Some session → sid_fault s.handshake.sid message.sid ≡ None → message.subtype ≡ subtype → message.body ≡ body
    → T (in_session (record s { link = k }) session message subtype body)
by_session s k message T session subtype body answers is sid kind is_holds = grind (arith, by_ack, by_take)

by_message : (s : ClientState) (k : LinkState) (message : Message) (T : ClientTake → Type 0) (open_one : Option ClientSession) → Answers s k message T → s.session ≡ open_one
    → T (hears_message (record s { link = k }) open_one message)
by_message s k message T open_one answers is = grind (arith, by_take, by_session)

-- A PACKET
by_decoded : (s : ClientState) (k : LinkState) (T : ClientTake → Type 0) (bytes : List ℕ) (d : Result Message TagFault) → Hearings s k T → k.whole ≡ Some bytes → Decodes bytes d
    → T (reads (record s { link = cleared k }) d)
by_decoded s k T bytes (Ok message) hearings whole decodes = by_message s (cleared k) message T s.session (hearings.some bytes message whole decodes) refl
by_decoded s k T bytes (Err fault) hearings whole decodes = hearings.tags bytes fault whole decodes

by_whole : (s : ClientState) (k : LinkState) (T : ClientTake → Type 0) (whole : Option (List ℕ)) (answer : ClientTake) → Hearings s k T → k.whole ≡ whole
    → HearsWhole (record s { link = k }) whole answer → T answer
by_whole s k T None answer hearings whole is = subst T (sym is) (hearings.none whole)
by_whole s k T (Some bytes) answer hearings whole is = subst T (sym is.2) (by_decoded s k T bytes is.0 hearings whole is.1)

pub comes_to : (s : ClientState) (k : LinkState) (T : ClientTake → Type 0) (answer : ClientTake) → Hearings s k T → HearsLink s (Heard k) answer → T answer
comes_to s k T answer hearings hears = by_whole s k T k.whole answer hearings refl hears

-- it goes on only where its link heard the packet
pub record GoesBy (s : ClientState) (packet : List ℕ) (t : ClientState) : Type 0 where
  pub link : LinkState
  pub takes : TakesBytes s.link packet (Heard link)
  pub hears : HearsLink s (Heard link) (GoesOn t)

by_link : (s : ClientState) (packet : List ℕ) (link : LinkTake) (t : ClientState) → TakesBytes s.link packet link → HearsLink s link (GoesOn t) → GoesBy s packet t
by_link s packet (Heard k) t takes hears = record { link = k; takes = takes; hears = hears }
by_link s packet (Unheard cause) t takes hears = absurd (cc hears)

pub goes_by : (s : ClientState) (packet : List ℕ) (t : ClientState) → ClientTakes s packet (GoesOn t) → GoesBy s packet t
goes_by s packet t takes = by_link s packet takes.link t takes.takes takes.hears
