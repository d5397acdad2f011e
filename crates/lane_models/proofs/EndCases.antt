-- What a packet that an end hears or says comes to, case by case.
use Rattle.std.proofs.Common.{◌≡◌, ℕ, ◌≤◌, Bool, true, false, ◌||◌, ◌⊎◌, inl, inr, Option, Some, None, List, [], ◌∷◌, ◌++◌, length, refl, sym, ap, ◌∙◌, subst, arith}
use Rattle.std.specs.Prelude.{◌&&◌, if◌then◌else◌, nat_le, not, Result, Ok, Err}
use Rattle.std.proofs.lemmas.Bool.{leb-true}
use Rattle.ldc_packet.specs.declared.packet.Body.TheVariants.{Rdx}
use Rattle.ldc_packet.specs.declared.packet.Subtype.TheVariants.{Info}
use Rattle.ldc_packet.specs.Spelling.{canonical as packet_bytes}
use Rattle.ldc_queue.specs.Transcript.{Heard as Heard_, Utterance}
use Rattle.ldc_link.specs.declared.phase.LinkPhase.{LinkPhase}
use Rattle.ldc_link.specs.declared.phase.LinkPhase.TheVariants as phase
use Rattle.ldc_link.specs.declared.phase.Role.{Role}
use Rattle.ldc_link.specs.declared.phase.Role.TheVariants.{Initiator, Responder}
use Rattle.ldc_link.specs.Following.{Follows}
use Rattle.ldc_link.specs.LinkState.{LinkState, cleared, is_established, is_up}
use Rattle.ldc_link.specs.Putting.{control}
use Rattle.ldc_link.specs.Taking.{Heard, TakesBytes, counted}
use Rattle.vio_handshake.specs.declared.handshake.Handshake.{Handshake}
use Rattle.vio_handshake.specs.Rules.{Faults, Goes, GoesOpen, HandshakeTake, opens_by_put, handshake_sent, handshake_take}
use Rattle.vio_handshake.specs.State.{handshake_up}
use Rattle.vio_tag.specs.declared.message.Message.{Message}
use Rattle.vio_tag.specs.declared.message.TagFault.{TagFault}
use Rattle.vio_tag.specs.Decoding.{Decodes}
use Rattle.vio_tag.specs.Form.{IsWellFormed}
use Rattle.vio_tag.specs.Spelling.{SpellsMessage}
use Rattle.lane_models.specs.EndPuts.{ComesUp, EndsOwn, EndsHandshake, Goes as GoesOn, PutKind, ending, kind_in, put_opens, handshake_behind}
use Rattle.lane_models.specs.Sayings.{heard}
use Rattle.lane_models.proofs.Apart.{true_is_false}
use Rattle.lane_models.proofs.HandshakeCases.{HandshakeTook, goes_took, never_opens, opens_took}
use Rattle.lane_models.proofs.LinkCases.{ControlGone, ControlHeard, ControlPut, ControlTaken, LinkHeard, LinkPut, PartGone, PartHeard, ReadyGone, ReadyHeard, behind_part, behind_ready, canonical_is, link_heard, link_put, put_quiet, ready_loud}
use Rattle.lane_models.proofs.PutSayings.{control_kind}
use Rattle.lane_models.proofs.UtteranceCases.{EndsBy, HearsOn, SaysLast, SaysMore, SaysNothing, SaysPart, hears_on, says_last, says_more, says_nothing, says_part}
use Rattle.lane_models.specs.EndCore.{EndCore}
use Rattle.lane_models.specs.EndStep.{EndHears, EndSays, HandshakeTakes, HearsDecoded, HearsWhole, IsOwnMessage, kind_of, opened_by, risen_at}
use Rattle.lane_models.specs.Standing.{EndStands, IsPhaseOf}

-- A MESSAGE that became whole by the packet
pub record TookMessage (c : EndCore) (turns : List Utterance) (packet : List ℕ) (now : LinkState) (message : Message) : Type 0 where
  pub up : is_up c.link ≡ true
  pub stays : is_up now ≡ true
  pub bytes : List ℕ
  pub whole : now.whole ≡ Some bytes
  pub messages : heard (Heard_ packet ∷ turns) ≡ heard turns ++ bytes ∷ []
  pub ends : EndsBy turns packet bytes
  pub form : IsWellFormed message
  pub spells : SpellsMessage bytes message

-- WHAT WAS HEARD: no message became whole; or a responder's link came up; or a message of the session did; or one of its handshake
pub data TookWhat (role : Role) (c : EndCore) (turns : List Utterance) (packet : List ℕ) (opens : Bool) (t : EndCore) (now : LinkState) : Type 0 where
  NoMessage : is_up now ≡ is_up c.link → heard (Heard_ packet ∷ turns) ≡ heard turns → t.handshake ≡ c.handshake → opens ≡ false → t.is_open ≡ c.is_open
      → TookWhat role c turns packet opens t now
  Rises : role ≡ Responder → is_up c.link ≡ false → is_up now ≡ true → heard (Heard_ packet ∷ turns) ≡ heard turns → t.handshake ≡ handshake_up c.handshake → opens ≡ false
      → t.is_open ≡ c.is_open → TookWhat role c turns packet opens t now
  TookOwn : (message : Message) → TookMessage c turns packet now message → IsOwnMessage c.handshake c.is_open message → t.handshake ≡ c.handshake → opens ≡ false
      → t.is_open ≡ c.is_open → TookWhat role c turns packet opens t now
  TookHandshake : (message : Message) → TookMessage c turns packet now message → HandshakeTook c.handshake message t.handshake opens → t.is_open ≡ (opens || c.is_open)
      → TookWhat role c turns packet opens t now

pub record EndTook (role : Role) (c : EndCore) (turns : List Utterance) (packet : List ℕ) (opens : Bool) (t : EndCore) : Type 0 where
  pub now : LinkState
  pub takes : TakesBytes c.link packet (Heard now)
  pub how : LinkHeard c.link packet now
  pub link : t.link ≡ cleared now
  pub what : TookWhat role c turns packet opens t now

-- phases of the link's handshake
pub taken_down : (before : LinkPhase) (bytes : List ℕ) (next : LinkPhase) → ControlTaken before bytes next → (is_established before ≡ false) × (is_established next ≡ false)
taken_down before bytes next taken = grind arith

pub put_down : (before : LinkPhase) (bytes : List ℕ) (next : LinkPhase) → ControlPut before bytes next → (is_established before ≡ false) × (is_established next ≡ false)
put_down before bytes next put = grind arith

-- A LINK that heard a packet stays up where it was, and nothing is whole by it where it wasn't
pub record HearsUp (k m : LinkState) (turns : List Utterance) (bytes : List ℕ) : Type 0 where
  pub on : HearsOn turns bytes m.whole
  pub quiet : is_up k ≡ false → m.whole ≡ None
  pub up : is_up k ≡ true → is_up m ≡ true

pub link_hears : (k m : LinkState) (turns : List Utterance) (bytes : List ℕ) → k.whole ≡ None → Follows k turns → TakesBytes k bytes (Heard m) → HearsUp k m turns bytes
link_hears k m turns bytes none follows takes = by_how (link_heard k m bytes takes)
  where
    on : HearsOn turns bytes m.whole
    on = hears_on k m turns bytes none follows (link_heard k m bytes takes)

    by_how : LinkHeard k bytes m → HearsUp k m turns bytes
    by_how (ControlHeard next taken is) = record {
      on = on;
      quiet = λ down. ap (λ (x : LinkState). x.whole) is ∙ none;
      up = λ up. true_is_false (sym up ∙ (taken_down k.phase bytes next taken).0);
    }
    by_how (ReadyHeard at packet number is) = record { on = on; quiet = λ down. ap (λ (x : LinkState). x.whole) is ∙ none; up = λ up. ap is_up is }
    by_how (PartHeard at part may number is) = record {
      on = on;
      quiet = λ down. true_is_false (sym (ap is_established at) ∙ down);
      up = λ up. ap is_up is ∙ up;
    }

-- a handshake begins only as a responder's link comes up
risen_not : (role : Role) (b a : Bool) (h g : Handshake) → (b ≡ false) ⊎ (a ≡ true) → (if b && not a then g else h) ≡ h
risen_not role true true h g is = refl
risen_not role true false h g (inl is) = absurd (cc is)
risen_not role true false h g (inr is) = absurd (cc is)
risen_not role false a h g is = refl

pub stays_risen : (role : Role) (k m : LinkState) (h : Handshake) → (is_up m ≡ false) ⊎ (is_up k ≡ true) → risen_at role k m h ≡ h
stays_risen Initiator k m h is = refl
stays_risen Responder k m h is = risen_not Responder (is_up m) (is_up k) h (handshake_up h) is

up_risen : (b a : Bool) (h g : Handshake) → b ≡ true → a ≡ false → (if b && not a then g else h) ≡ g
up_risen true false h g up down = refl
up_risen true true h g up down = absurd (cc down)
up_risen false a h g up down = absurd (cc up)

-- a message that the handshake takes
handshake_takes : (role : Role) (h : Handshake) (was opens : Bool) (message : Message) (take : HandshakeTake) (t : EndCore) → h.role ≡ role → handshake_take h message ≡ take
    → HandshakeTakes role was take opens t → HandshakeTook h message t.handshake opens × (t.is_open ≡ (opens || was))
handshake_takes role h was opens message (Goes g) t role_is is takes = (
  subst (λ (b : Bool). HandshakeTook h message t.handshake b) (sym takes.0)
      (subst (λ (x : Handshake). HandshakeTook h message x false) (sym takes.1) (goes_took h g message is)),
  takes.2 ∙ ap (λ (b : Bool). b || was) (sym takes.0),
)
handshake_takes Initiator h was opens message (GoesOpen g) t role_is is takes = absurd (never_opens h g message role_is (opens_took h g message is))
handshake_takes Responder h was opens message (GoesOpen g) t role_is is takes = (
  subst (λ (b : Bool). HandshakeTook h message t.handshake b) (sym takes.0)
      (subst (λ (x : Handshake). HandshakeTook h message x true) (sym takes.1) (opens_took h g message is)),
  takes.2 ∙ ap (λ (b : Bool). b || was) (sym takes.0),
)
handshake_takes role h was opens message (Faults cause) t role_is is takes = absurd takes

by_decoded : (role : Role) (c : EndCore) (turns : List Utterance) (packet bytes : List ℕ) (opens : Bool) (t : EndCore) (now : LinkState) (d : Result Message TagFault) → EndStands role c turns
    → is_up c.link ≡ true → is_up now ≡ true → now.whole ≡ Some bytes → HearsOn turns packet (Some bytes) → Decodes bytes d
    → HearsDecoded role c.handshake c.is_open d opens t → TookWhat role c turns packet opens t now
by_decoded role c turns packet bytes opens t now (Ok message) stands up stays whole on decodes hears =
    let took : TookMessage c turns packet now message = record {
      up = up;
      stays = stays;
      bytes = bytes;
      whole = whole;
      messages = on.messages;
      ends = on.ends;
      form = decodes.message.0;
      spells = decodes.message.1;
    } in
    elim hears [
      | inl takes ↦
          let both = handshake_takes role c.handshake c.is_open opens message (handshake_take c.handshake message) t stands.handshake.role_is refl takes in
          TookHandshake message took both.0 both.1
      | inr own ↦ TookOwn message took own.0 own.2 own.1 own.3
    ]
by_decoded role c turns packet bytes opens t now (Err fault) stands up stays whole on decodes hears = absurd hears

by_whole : (role : Role) (c : EndCore) (turns : List Utterance) (packet : List ℕ) (opens : Bool) (t : EndCore) (now : LinkState) (whole : Option (List ℕ)) → EndStands role c turns
    → is_up c.link ≡ true → is_up now ≡ true → now.whole ≡ whole → HearsOn turns packet whole → HearsWhole role c.handshake c.is_open whole opens t
    → TookWhat role c turns packet opens t now
by_whole role c turns packet opens t now None stands up stays whole on hears = NoMessage (stays ∙ sym up) on.messages hears.1 hears.0 hears.2
by_whole role c turns packet opens t now (Some bytes) stands up stays whole on hears =
    by_decoded role c turns packet bytes opens t now hears.0 stands up stays whole on hears.1 hears.2

pub end_took : (role : Role) (c t : EndCore) (turns : List Utterance) (packet : List ℕ) (opens : Bool) → EndStands role c turns → EndHears role c packet opens t
    → EndTook role c turns packet opens t
end_took role c t turns packet opens stands hears =
    record { now = hears.heard; takes = hears.takes; how = how; link = hears.link; what = by_how how }
  where
    how : LinkHeard c.link packet hears.heard
    how = link_heard c.link hears.heard packet hears.takes

    on : HearsOn turns packet hears.heard.whole
    on = hears_on c.link hears.heard turns packet stands.link.seen stands.link.follows how

    none_on : hears.heard.whole ≡ None → HearsOn turns packet None
    none_on none = subst (HearsOn turns packet) none on

    quietly : hears.heard.whole ≡ None → (h : Handshake) → risen_at role c.link hears.heard c.handshake ≡ h → HearsWhole role h c.is_open None opens t
    quietly none h risen =
        subst (λ (x : Handshake). HearsWhole role x c.is_open None opens t) risen
        (subst (λ (w : Option (List ℕ)). HearsWhole role (risen_at role c.link hears.heard c.handshake) c.is_open w opens t) none hears.hears)

    by_ready : (r : Role) → role ≡ r → IsPhaseOf r phase.AwaitsRdx → c.link.phase ≡ phase.AwaitsRdx → hears.heard ≡ counted (record c.link { phase = phase.Established })
        → TookWhat role c turns packet opens t hears.heard
    by_ready Initiator role_is of at is = absurd of
    by_ready Responder role_is of at is =
        let none : hears.heard.whole ≡ None = ap (λ (x : LinkState). x.whole) is ∙ stands.link.seen in
        let up : is_up hears.heard ≡ true = ap is_up is in
        let down : is_up c.link ≡ false = ap is_established at in
        let risen : risen_at role c.link hears.heard c.handshake ≡ handshake_up c.handshake =
        ap (λ (x : Role). risen_at x c.link hears.heard c.handshake) role_is ∙ up_risen (is_up hears.heard) (is_up c.link) c.handshake (handshake_up c.handshake) up down in
        let goes = quietly none (handshake_up c.handshake) risen in
        Rises role_is down up (none_on none).messages goes.1 goes.0 goes.2

    by_how : LinkHeard c.link packet hears.heard → TookWhat role c turns packet opens t hears.heard
    by_how (ControlHeard next taken is) =
        let downs = taken_down c.link.phase packet next taken in
        let none : hears.heard.whole ≡ None = ap (λ (x : LinkState). x.whole) is ∙ stands.link.seen in
        let below : is_up hears.heard ≡ false = ap is_up is ∙ downs.1 in
        let goes = quietly none c.handshake (stays_risen role c.link hears.heard c.handshake (inl below)) in
        NoMessage (below ∙ sym downs.0) (none_on none).messages goes.1 goes.0 goes.2
    by_how (ReadyHeard at ready number is) = by_ready role refl (subst (IsPhaseOf role) at stands.link.of_role) at is
    by_how (PartHeard at part may number is) =
        let up : is_up c.link ≡ true = ap is_established at in
        let stays : is_up hears.heard ≡ true = ap is_up is ∙ up in
        by_whole role c turns packet opens t hears.heard hears.heard.whole stands up stays refl on
        (subst (λ (x : Handshake). HearsWhole role x c.is_open hears.heard.whole opens t) (stays_risen role c.link hears.heard c.handshake (inr up)) hears.hears)

-- WHAT WAS SAID: a packet of the link's handshake; RDX, with which an initiator's link is up; a part that goes on; or the last of a message of
-- the end's session or of its handshake
pub data PutWhat (role : Role) (held : EndCore) (turns : List Utterance) (packet : List ℕ) (opens : Bool) (t : EndCore) : Type 0 where
  PutControl : (next : LinkPhase) → ControlPut held.link.phase packet next → t.link ≡ record held.link { phase = next } → SaysNothing turns packet
      → t.handshake ≡ held.handshake → opens ≡ false → t.is_open ≡ held.is_open → PutWhat role held turns packet opens t
  PutReady : role ≡ Initiator → held.link.phase ≡ phase.OwesRdx → packet ≡ packet_bytes (control Info held.link.put_next Rdx) → t.link ≡ behind_ready held.link → SaysNothing turns packet
      → t.handshake ≡ handshake_up held.handshake → opens ≡ false → t.is_open ≡ held.is_open → PutWhat role held turns packet opens t
  PutMore : held.link.phase ≡ phase.Established → t.link ≡ behind_part held.link → SaysMore held.link turns packet → t.handshake ≡ held.handshake → opens ≡ false
      → t.is_open ≡ held.is_open → PutWhat role held turns packet opens t
  PutOwn : held.own ≡ true → held.link.phase ≡ phase.Established → t.link ≡ behind_part held.link → SaysLast held.link turns packet → t.handshake ≡ held.handshake
      → opens ≡ false → t.is_open ≡ held.is_open → PutWhat role held turns packet opens t
  PutHandshake : held.own ≡ false → held.link.phase ≡ phase.Established → t.link ≡ behind_part held.link → SaysLast held.link turns packet → t.handshake ≡ handshake_sent held.handshake
      → opens ≡ opens_by_put held.handshake.role held.handshake.phase → t.is_open ≡ (opens || held.is_open) → PutWhat role held turns packet opens t

opened_not : (role : Role) (opens was : Bool) → opens ≡ false → opened_by role opens was ≡ was
opened_not Initiator opens was not = ap (λ (b : Bool). b || was) not
opened_not Responder opens was not = refl

opened_or : (role : Role) (h : Handshake) (was : Bool) → h.role ≡ role → opened_by role (opens_by_put h.role h.phase) was ≡ (opens_by_put h.role h.phase || was)
opened_or Initiator h was is = refl
opened_or Responder h was is = sym (ap (λ (r : Role). opens_by_put r h.phase || was) is)

pub end_put : (role : Role) (c t : EndCore) (turns : List Utterance) (packet : List ℕ) (opens : Bool) → (says : EndSays role c packet opens t) → EndStands role says.held turns
    → PutWhat role says.held turns packet opens t
end_put role c t turns packet opens says stands = by_how (link_put held.link t.link packet says.puts)
  where
    held : EndCore
    held = says.held

    goes : (kind : PutKind) → kind_of held ≡ kind → (t.handshake ≡ handshake_behind kind held.handshake) × (opens ≡ put_opens kind held.handshake)
    goes kind is = (
      says.handshake ∙ ap (λ (x : PutKind). handshake_behind x held.handshake) is,
      says.opens_is ∙ ap (λ (x : PutKind). put_opens x held.handshake) is,
    )

    stays : opens ≡ false → t.is_open ≡ held.is_open
    stays not = says.is_open ∙ opened_not role opens held.is_open not

    by_role : (r : Role) → role ≡ r → IsPhaseOf r phase.OwesRdx → role ≡ Initiator
    by_role Initiator is of = is
    by_role Responder is of = absurd of

    by_end : (last own : Bool) → nat_le (length held.link.to_send) 56 ≡ last → held.own ≡ own → held.link.phase ≡ phase.Established → 1 ≤ length held.link.to_send
        → t.link ≡ behind_part held.link → SaysPart held.link packet → PutWhat role held turns packet opens t
    by_end false own long is at some link part =
        let kind = goes GoesOn (ap (λ (p : LinkPhase). kind_in p held.link held.own) at ∙ ap (λ (b : Bool). ending b held.own) long) in
        PutMore at link (says_more held.link turns packet part long) kind.0 kind.1 (stays kind.1)
    by_end true true short is at some link part =
        let kind = goes EndsOwn (ap (λ (p : LinkPhase). kind_in p held.link held.own) at ∙ ap (λ (b : Bool). ending b held.own) short ∙ ap (ending true) is) in
        PutOwn is at link (says_last held.link turns packet part some (leb-true (length held.link.to_send) 56 short) short) kind.0 kind.1 (stays kind.1)
    by_end true false short is at some link part =
        let kind = goes EndsHandshake (ap (λ (p : LinkPhase). kind_in p held.link held.own) at ∙ ap (λ (b : Bool). ending b held.own) short ∙ ap (ending true) is) in
        PutHandshake is at link (says_last held.link turns packet part some (leb-true (length held.link.to_send) 56 short) short) kind.0 kind.1
        (says.is_open ∙ ap (λ (b : Bool). opened_by role b held.is_open) kind.1 ∙ opened_or role held.handshake held.is_open stands.handshake.role_is
        ∙ ap (λ (b : Bool). b || held.is_open) (sym kind.1))

    by_how : LinkPut held.link packet t.link → PutWhat role held turns packet opens t
    by_how (ControlGone next gone is) =
        let kind = goes GoesOn (control_kind held.link.phase packet next held.link held.own gone) in
        let quiet = put_quiet held.link.phase packet next stands.link.follows.offers gone in
        PutControl next gone is (says_nothing turns packet quiet.1) kind.0 kind.1 (stays kind.1)
    by_how (ReadyGone at spelled is) =
        let kind = goes ComesUp (ap (λ (p : LinkPhase). kind_in p held.link held.own) at) in
        let quiet = ready_loud packet Info (canonical_is packet Info held.link.put_next Rdx tt (omega (arith, stands.link.follows.puts), tt) spelled) in
        PutReady (by_role role refl (subst (IsPhaseOf role) at stands.link.of_role)) at spelled is (says_nothing turns packet quiet.1) kind.0 kind.1 (stays kind.1)
    by_how (PartGone at some spelled is) =
        by_end (nat_le (length held.link.to_send) 56) held.own refl refl at some is (says_part held.link turns packet stands.link.follows some spelled)
