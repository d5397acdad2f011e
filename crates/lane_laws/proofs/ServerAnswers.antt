-- What a server makes of a packet that it takes: what holds of each answer that it may come to, holds of the one that it comes to.
use Rattle.std.proofs.Common.{◌≡◌, ℕ, ◌<◌, Bool, true, false, Option, Some, None, List, refl, sym, ap, subst, arith}
use Rattle.std.specs.Prelude.{nat_le, if◌then◌else◌, is_some, Result, Ok, Err}
use Rattle.std.proofs.lemmas.Bool.{leb-false}
use Rattle.ldc_link.specs.LinkState.{LinkState, cleared}
use Rattle.ldc_link.specs.Taking.{Heard, LinkTake, TakesBytes, Unheard}
use Rattle.ldc_packet.specs.declared.packet.Subtype.{Subtype}
use Rattle.ldc_packet.specs.declared.packet.Subtype.TheVariants.{Info}
use Rattle.vio_tag.specs.declared.cause.Cause.{Cause}
use Rattle.vio_tag.specs.declared.cause.Cause.TheVariants as the_cause
use Rattle.vio_tag.specs.declared.message.Message.{Message}
use Rattle.vio_tag.specs.declared.message.MsgBody.{MsgBody}
use Rattle.vio_tag.specs.declared.message.MsgBody.TheVariants.{DringData}
use Rattle.vio_tag.specs.declared.message.TagFault.{TagFault}
use Rattle.vio_tag.specs.Decoding.{Decodes}
use Rattle.vio_handshake.specs.declared.handshake.Handshake.{Handshake}
use Rattle.vio_handshake.specs.Rules.{Faults, Goes, GoesOpen, HandshakeTake, handshake_take, sid_fault}
use Rattle.lane_models.specs.EndStep.{IsOfSession, IsOwnMessage}
use Rattle.lane_models.specs.EndPuts.{handshake_risen}
use Rattle.lane_models.specs.Ranges.{is_other}
use Rattle.lane_models.specs.ServerState.{ServerSession, ServerState, SlotRange, opened_server}
use Rattle.lane_models.specs.ServerTaking.{GoesOn, HearsLink, HearsWhole, Resets, ServerTake, ServerTakes, asked, by_handshake, hears_message, in_session, place_of, reads, takes_info}
use Rattle.lane_laws.proofs.ClientAnswers.{HandshakesTo, is_the}

abbrev pub opened_or : Bool → Option ServerSession → Option ServerSession
opened_or true session = Some opened_server
opened_or false session = session

-- a range of slots that it is asked for
pub record Asks (s : ServerState) (message : Message) : Type 0 where
  pub session : ServerSession
  pub ident : ℕ
  pub range : SlotRange
  pub session_is : s.session ≡ Some session
  pub subtype_is : message.subtype ≡ Info
  pub body_is : message.body ≡ DringData range.seq ident range.start range.end range.state
  pub sid_is : sid_fault s.handshake.sid message.sid ≡ None
  pub ident_is : ident ≡ s.handshake.draft.ident_peer
  pub next : range.seq ≡ session.seq
  pub begins : range.start ≡ place_of s session
  pub ends : range.end < s.handshake.draft.peer_slots

-- or what is wrong with one, by the cause for which the server resets itself
abbrev pub InfoFails : (ident : ℕ) → SlotRange → Cause → Type 0
InfoFails ident range (the_cause.Ident expected found) = (is_other expected found ≡ true) × (found ≡ ident)
InfoFails ident range (the_cause.Seq expected found) = (is_other expected found ≡ true) × (found ≡ range.seq)
InfoFails ident range (the_cause.Slot expected found) = (is_other expected found ≡ true) × (found ≡ range.start)
InfoFails ident range (the_cause.RangeEnd found) = found ≡ range.end
InfoFails ident range cause = ⊥

pub record Refuses (s : ServerState) (message : Message) (cause : Cause) : Type 0 where
  pub own : IsOwnMessage s.handshake (is_some s.session) message
  pub ident : ℕ
  pub range : SlotRange
  pub body_is : message.body ≡ DringData range.seq ident range.start range.end range.state
  pub fails : InfoFails ident range cause

-- EACH ANSWER to a message: its handshake goes on or refuses it, or it is of its session
pub record Answers (s : ServerState) (message : Message) (T : ServerTake → Type 0) : Type 0 where
  pub goes : (opens : Bool) (h : Handshake) → HandshakesTo s.handshake (handshake_take s.handshake message) opens h
      → T (GoesOn (record s { handshake = h; session = opened_or opens s.session }) opens)
  pub faults : (cause : Cause) → handshake_take s.handshake message ≡ Faults cause → T (Resets cause)
  pub asks : (a : Asks s message) → T (GoesOn (asked s a.session a.range) false)
  pub refuses : (cause : Cause) → Refuses s message cause → T (Resets cause)

-- to a packet that its link heard so, and by which it may have come up
abbrev pub heard_on : ServerState → LinkState → LinkState → ServerState
heard_on s k link = record s { link = link; handshake = handshake_risen s.link k s.handshake }

pub record Hearings (s : ServerState) (k : LinkState) (T : ServerTake → Type 0) : Type 0 where
  pub none : k.whole ≡ None → T (GoesOn (heard_on s k k) false)
  pub some : (bytes : List ℕ) (message : Message) → k.whole ≡ Some bytes → Decodes bytes (Ok message) → Answers (heard_on s k (cleared k)) message T
  pub tags : (bytes : List ℕ) (fault : TagFault) → k.whole ≡ Some bytes → Decodes bytes (Err fault) → T (Resets (the_cause.Tag fault))

-- A MESSAGE
by_take : (s : ServerState) (message : Message) (T : ServerTake → Type 0) (take : HandshakeTake) → Answers s message T → handshake_take s.handshake message ≡ take → T (by_handshake s take)
by_take s message T (Goes h) answers is = answers.goes false h is
by_take s message T (GoesOpen h) answers is = answers.goes true h is
by_take s message T (Faults cause) answers is = answers.faults cause is

either : (T : ServerTake → Type 0) (b : Bool) (x y : ServerTake) → (b ≡ true → T x) → (b ≡ false → T y) → T (if b then x else y)
either T true x y one other = one refl
either T false x y one other = other refl

by_info : (s : ServerState) (message : Message) (T : ServerTake → Type 0) (session : ServerSession) (ident : ℕ) (range : SlotRange) → Answers s message T → s.session ≡ Some session
    → sid_fault s.handshake.sid message.sid ≡ None → message.subtype ≡ Info → message.body ≡ DringData range.seq ident range.start range.end range.state
    → T (takes_info s session ident range)
by_info s message T session ident range answers is sid kind body =
    let own : IsOwnMessage s.handshake (is_some s.session) message = record { opened = ap is_some is; sid = sid; body = subst IsOfSession (sym body) tt } in
    let resets : (cause : Cause) → InfoFails ident range cause → T (Resets cause) =
    λ cause fails. answers.refuses cause (record { own = own; ident = ident; range = range; body_is = body; fails = fails }) in
    either T (is_other s.handshake.draft.ident_peer ident) (Resets (the_cause.Ident s.handshake.draft.ident_peer ident)) _
    (λ test. resets (the_cause.Ident s.handshake.draft.ident_peer ident) (test, refl))
    (λ known.
    either T (is_other session.seq range.seq) (Resets (the_cause.Seq session.seq range.seq)) _ (λ test. resets (the_cause.Seq session.seq range.seq) (test, refl))
    (λ next.
    either T (is_other (place_of s session) range.start) (Resets (the_cause.Slot (place_of s session) range.start)) _
    (λ test. resets (the_cause.Slot (place_of s session) range.start) (test, refl))
    (λ begins.
    either T (nat_le s.handshake.draft.peer_slots range.end) (Resets (the_cause.RangeEnd range.end)) (GoesOn (asked s session range) false)
    (λ test. resets (the_cause.RangeEnd range.end) refl)
    (λ ends. answers.asks (record {
      session = session;
      ident = ident;
      range = range;
      session_is = is;
      subtype_is = kind;
      body_is = body;
      sid_is = sid;
      ident_is = is_the s.handshake.draft.ident_peer ident known;
      next = is_the session.seq range.seq next;
      begins = is_the (place_of s session) range.start begins;
      ends = omega (arith, leb-false s.handshake.draft.peer_slots range.end ends);
    })))))

by_session : (s : ServerState) (message : Message) (T : ServerTake → Type 0) (session : ServerSession) (subtype : Subtype) (body : MsgBody) → Answers s message T
    → s.session ≡ Some session → sid_fault s.handshake.sid message.sid ≡ None → message.subtype ≡ subtype → message.body ≡ body
    → T (in_session s session message subtype body)
by_session s message T session Info (DringData seq ident start end state) answers is sid kind body =
    by_info s message T session ident (record { seq = seq; start = start; end = end; state = state }) answers is sid kind body
by_session s message T session _ _ answers is sid kind body = by_take s message T (handshake_take s.handshake message) answers refl

by_message : (s : ServerState) (message : Message) (T : ServerTake → Type 0) (open_one : Option ServerSession) → Answers s message T → s.session ≡ open_one
    → T (hears_message s open_one message)
by_message s message T open_one answers is = grind (arith, by_take, by_session)

-- A PACKET
by_decoded : (s : ServerState) (k : LinkState) (T : ServerTake → Type 0) (bytes : List ℕ) (d : Result Message TagFault) → Hearings s k T → k.whole ≡ Some bytes → Decodes bytes d
    → T (reads (heard_on s k (cleared k)) d)
by_decoded s k T bytes (Ok message) hearings whole decodes = by_message (heard_on s k (cleared k)) message T s.session (hearings.some bytes message whole decodes) refl
by_decoded s k T bytes (Err fault) hearings whole decodes = hearings.tags bytes fault whole decodes

by_whole : (s : ServerState) (k : LinkState) (T : ServerTake → Type 0) (whole : Option (List ℕ)) (answer : ServerTake) → Hearings s k T → k.whole ≡ whole
    → HearsWhole (heard_on s k k) whole answer → T answer
by_whole s k T None answer hearings whole is = subst T (sym is) (hearings.none whole)
by_whole s k T (Some bytes) answer hearings whole is = subst T (sym is.2) (by_decoded s k T bytes is.0 hearings whole is.1)

pub comes_to : (s : ServerState) (k : LinkState) (T : ServerTake → Type 0) (answer : ServerTake) → Hearings s k T → HearsLink s (Heard k) answer → T answer
comes_to s k T answer hearings hears = by_whole s k T k.whole answer hearings refl hears

-- it goes on only where its link heard the packet
pub record GoesBy (s : ServerState) (packet : List ℕ) (t : ServerState) (opens : Bool) : Type 0 where
  pub link : LinkState
  pub takes : TakesBytes s.link packet (Heard link)
  pub hears : HearsLink s (Heard link) (GoesOn t opens)

by_link : (s : ServerState) (packet : List ℕ) (link : LinkTake) (t : ServerState) (opens : Bool) → TakesBytes s.link packet link → HearsLink s link (GoesOn t opens) → GoesBy s packet t opens
by_link s packet (Heard k) t opens takes hears = record { link = k; takes = takes; hears = hears }
by_link s packet (Unheard cause) t opens takes hears = absurd (cc hears)

pub goes_by : (s : ServerState) (packet : List ℕ) (t : ServerState) (opens : Bool) → ServerTakes s packet (GoesOn t opens) → GoesBy s packet t opens
goes_by s packet t opens takes = by_link s packet takes.link t opens takes.takes takes.hears
