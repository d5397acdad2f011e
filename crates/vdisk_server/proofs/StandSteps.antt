-- What holds of a server where it is to take, to put or to work.
use Rattle.std.proofs.Common.{◌≡◌, ℕ, ◌≤◌, Bool, true, false, List, Option, Some, None, ◌⊎◌, inl, inr, refl, sym, ap, ◌∙◌, subst, arith}
use Rattle.std.specs.Prelude.{◌==◌, if◌then◌else◌}
use Rattle.ldc_link.specs.LinkState.{LinkState, is_up}
use Rattle.ldc_link.specs.Taking.{Heard, TakesBytes}
use Rattle.vio_handshake.specs.declared.handshake.Handshake.{Handshake}
use Rattle.vio_handshake.specs.declared.handshake.Phase.{Phase}
use Rattle.vio_handshake.specs.declared.handshake.Phase.TheVariants as handshake
use Rattle.vio_handshake.specs.declared.session.Offer.{Offer}
use Rattle.vio_handshake.specs.State.{OwedHasForm, joined_handshake, handshake_up}
use Rattle.vio_tag.specs.declared.message.Message.{Message}
use Rattle.vio_tag.specs.Form.{IsWellFormed}
use Rattle.lane_models.specs.ServerRule.{answer}
use Rattle.lane_models.specs.ServerState.{ServerSession, ServerState, SlotRange}
use Rattle.vdisk_server.specs.Hearing.{CanHear, CanHearWhole, SessionKnows, risen}
use Rattle.vdisk_server.specs.Putting.{PutsRightly}
use Rattle.vdisk_server.specs.Rules.{answer_owed, first_owed, owed_message, session_owes}
use Rattle.vdisk_server.specs.Standing.{IsOpen, IsQuiet, Knows, KnowsRing, HandshakeStands, Stands}
use Rattle.vdisk_server.proofs.LinkSteps.{LinkTook, link_took}
use Rattle.vdisk_server.proofs.HandshakeSteps.{up_is}

pub either : (b : Bool) → (b ≡ true) ⊎ (b ≡ false)
either true = inl refl
either false = inr refl

-- THE RING of an open session
pub record OpenRing (slots : ℕ) (h : Handshake) : Type 0 where
  pub phase : h.phase ≡ handshake.Open
  pub sid : h.sid ≡ Some h.draft.sid
  pub ring : h.draft.peer_slots ≡ slots
  pub most : h.draft.peer_count ≤ 14

pub open_ring : (blocks slots : ℕ) (h : Handshake) → HandshakeStands blocks slots h → h.phase ≡ handshake.Open → OpenRing slots h
open_ring blocks slots h stands opened =
    let known : KnowsRing h.sid h.draft h.offer.peer_slots = subst (λ (p : Phase). Knows p h.sid h.draft h.offer.peer_slots) opened stands.knows in
    record { phase = opened; sid = known.sid; ring = known.slots ∙ ap (λ (o : Offer). o.peer_slots) stands.offer; most = known.most }

session_open : (session : Option ServerSession) (held : ServerSession) (phase : Phase) → IsOpen session phase → session ≡ Some held → phase ≡ handshake.Open
session_open (Some session) held phase opened is = opened
session_open None held phase opened is = absurd (cc)

pub open_of : (s : ServerState) (session : ServerSession) → Stands s → s.session ≡ Some session → OpenRing s.slots s.handshake
open_of s session stands is = open_ring s.blocks s.slots s.handshake stands.handshake (session_open s.session session s.handshake.phase stands.session is)

knows_session : (session : Option ServerSession) (s : ServerState) → Stands s → s.session ≡ session → SessionKnows session s.handshake
knows_session None s stands is = tt
knows_session (Some session) s stands is =
    let ring : OpenRing s.slots s.handshake = open_of s session stands is in
    let some : 2 ≤ s.slots = stands.disk.some_slots in
    (ring.phase, ring.sid, omega (arith, ring.ring))

-- HEARING: a message became whole by a packet only where the link is up
version_up : (phase : Phase) → phase ≡ handshake.Version → phase ≡ handshake.Down → ⊥
version_up phase is down = cc

whole_only_up : (whole : Option (List ℕ)) (bytes : List ℕ) → whole ≡ Some bytes → whole ≡ None → ⊥
whole_only_up whole bytes is none = cc

risen_false : (s : ServerState) (k : LinkState) → is_up k ≡ true → is_up s.link ≡ true → risen (is_up s.link) (record s { link = k }) ≡ record s { link = k }
risen_false s k up was = rw (up, was) refl

risen_true : (s : ServerState) (k : LinkState) → is_up k ≡ true → is_up s.link ≡ false
    → risen (is_up s.link) (record s { link = k }) ≡ record s { link = k; handshake = handshake_up s.handshake }
risen_true s k up was = rw (up, was) refl

hears_up : (s : ServerState) (k : LinkState) → Stands s → s.handshake.owed ≡ None → is_up k ≡ true → CanHear (risen (is_up s.link) (record s { link = k }))
hears_up s k stands free up =
    elim (either (is_up s.link)) [
      | inl was ↦
          subst (λ (r : ServerState). CanHear r) (sym (risen_false s k up was))
          (record { began = stands.began.up was; free = free; session = knows_session s.session s stands refl })
      | inr was ↦
          let quiet : IsQuiet s = stands.began.down was in
          let rose : handshake_up s.handshake ≡ record (joined_handshake s.handshake) { phase = handshake.Version } = up_is s.handshake stands.handshake.role in
          subst (λ (r : ServerState). CanHear r) (sym (risen_true s k up was))
          (record {
            began = λ down. version_up (handshake_up s.handshake).phase (ap (λ (h : Handshake). h.phase) rose) down;
            free = ap (λ (h : Handshake). h.owed) rose;
            session = subst (λ (x : Option ServerSession). SessionKnows x (handshake_up s.handshake)) (sym quiet.session) tt;
          })
    ]

hears_whole : (s : ServerState) (k : LinkState) (whole : Option (List ℕ)) → Stands s → s.handshake.owed ≡ None → LinkTook s.link k → k.whole ≡ whole
    → CanHearWhole whole (risen (is_up s.link) (record s { link = k }))
hears_whole s k None stands free took is = tt
hears_whole s k (Some bytes) stands free took is =
    elim (either (is_up k)) [
      | inl up ↦ hears_up s k stands free up
      | inr down ↦ absurd (whole_only_up k.whole bytes is (took.whole down ∙ stands.link.seen))
    ]

pub can_hear : (s : ServerState) (k : LinkState) (bytes : List ℕ) (was_up : Bool) → Stands s → s.handshake.owed ≡ None → was_up ≡ is_up s.link → TakesBytes s.link bytes (Heard k)
    → CanHearWhole k.whole (risen was_up (record s { link = k }))
can_hear s k bytes was_up stands free was takes =
    subst (λ (b : Bool). CanHearWhole k.whole (risen b (record s { link = k }))) (sym was)
    (hears_whole s k k.whole stands free (link_took s.link k bytes takes) refl)

-- SAYING: what is owed is well formed, and owed only where the link is up and no descriptor is in work
answer_form : (s : ServerState) (session : ServerSession) (range : SlotRange) (test : Bool) (message : Message)
    → (if test then Some (answer s range) else None) ≡ Some message → IsWellFormed message
answer_form s session range true message is = subst (λ (o : Option Message). OwedHasForm o) is tt
answer_form s session range false message is = absurd (cc)

range_form : (s : ServerState) (session : ServerSession) (range : Option SlotRange) (message : Message) → answer_owed s session range ≡ Some message → IsWellFormed message
range_form s session None message is = absurd (cc)
range_form s session (Some range) message is = answer_form s session range (session.finished == session.asked) message is

session_form : (s : ServerState) (session : Option ServerSession) (message : Message) → session_owes s session ≡ Some message → IsWellFormed message
session_form s None message is = absurd (cc)
session_form s (Some session) message is = range_form s session session.range message is

first_form : (s : ServerState) (owed : Option Message) (message : Message) → OwedHasForm owed → first_owed owed (session_owes s s.session) ≡ Some message → IsWellFormed message
first_form s None message form is = session_form s s.session message is
first_form s (Some owed) message form is = subst (λ (o : Option Message). OwedHasForm o) is form

pub message_form : (s : ServerState) (message : Message) → Stands s → owed_message s ≡ Some message → IsWellFormed message
message_form s message stands is = first_form s s.handshake.owed message stands.handshake.form.owed is

pub none_some : (owed : Option Message) (message : Message) → owed ≡ None → owed ≡ Some message → ⊥
none_some owed message none is = cc

quiet_owes : (s : ServerState) (message : Message) → IsQuiet s → owed_message s ≡ Some message → ⊥
quiet_owes s message quiet is =
    let none : owed_message s ≡ None =
    ap (λ (o : Option Message). first_owed o (session_owes s s.session)) quiet.owed ∙ ap (session_owes s) quiet.session in
    none_some (owed_message s) message none is

pub says_up : (s : ServerState) (message : Message) → Stands s → owed_message s ≡ Some message → is_up s.link ≡ true
says_up s message stands is =
    elim (either (is_up s.link)) [
      | inl up ↦ up
      | inr down ↦ absurd (quiet_owes s message (stands.began.down down) is)
    ]

-- WORKING: a range is in work only where the link is up
pub puts_rightly : (s : ServerState) → Stands s → PutsRightly s
puts_rightly s stands = record { phase = stands.link.phase; role = stands.handshake.role }
