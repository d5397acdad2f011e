-- Along every run each session opens in the handshake's order, with one ring and with rings both ways.
use Rattle.std.proofs.Common.{◌≡◌, ℕ, Bool, true, false, ◌⊎◌, inl, inr, Some, None, List, [], ◌∷◌, ◌++◌, drop, length, refl, sym, ap, ◌∙◌, subst, arith}
use Rattle.std.specs.Prelude.{if◌then◌else◌, nat_eq}
use Rattle.std.proofs.lemmas.Bool.{eqb-true, leb-true}
use Rattle.std.proofs.lemmas.List.{take_all}
use Rattle.runs.specs.Run.{Run}
use Rattle.ldc_packet.specs.declared.packet.Body.TheVariants.{Rdx, Rtr, Rts, Vers}
use Rattle.ldc_packet.specs.declared.packet.Packet.{Packet}
use Rattle.ldc_packet.specs.declared.packet.Subtype.TheVariants.{Ack, Info, Nack}
use Rattle.ldc_packet.specs.Spelling.{canonical}
use Rattle.ldc_link.specs.declared.phase.LinkPhase.{LinkPhase}
use Rattle.ldc_link.specs.declared.phase.LinkPhase.TheVariants as phase
use Rattle.ldc_link.specs.declared.phase.Role.{Role}
use Rattle.ldc_link.specs.declared.phase.Role.TheVariants.{Initiator, Responder}
use Rattle.ldc_link.specs.LinkState.{LinkState, fresh_link, is_established, is_up}
use Rattle.ldc_link.specs.Putting.{control}
use Rattle.ldc_queue.specs.declared.end.End.{End}
use Rattle.ldc_queue.specs.declared.end.End.TheVariants.{A, B}
use Rattle.ldc_queue.specs.Fragments.{fragment_at, is_part}
use Rattle.ldc_queue.specs.Transcript.{Heard, Said, Utterance}
use Rattle.vio_tag.specs.declared.message.Message.{Message}
use Rattle.vio_tag.specs.Spelling as message_at
use Rattle.vio_handshake.specs.declared.handshake.Handshake.{Handshake}
use Rattle.vio_handshake.specs.declared.handshake.Phase.{Phase}
use Rattle.vio_handshake.specs.declared.handshake.Phase.TheVariants.{Open}
use Rattle.vio_handshake.specs.declared.session.Offer.{Offer}
use Rattle.vio_handshake.specs.Rules.{opens_by_put, put_in, handshake_sent, sid_fault}
use Rattle.vio_handshake.specs.State.{handshake_up}
use Rattle.lane_models.specs.HandshakeOrder.{ComesUpBelow, Control, FollowsRow, HandshakeOrder, IsControlOf, IsVersNack, RowLine, MayEnd, RdxGiven, RtrAnswered, RtsAsked, Says as Says_, VersAgreed, VersOffer}
use Rattle.lane_models.specs.Sayings.{half_said}
use Rattle.lane_models.specs.TranscriptLog.{transcript_of}
use Rattle.lane_models.specs.WireEvent.{Sent as Sent_, Took as Took_}
use Rattle.lane_models.proofs.Apart.{false_is_true}
use Rattle.lane_models.proofs.EndCases.{EndTook, NoMessage, PutControl, PutMore, PutOwn, PutReady, PutHandshake, PutWhat, Rises, TookMessage, TookOwn, TookHandshake, TookWhat, end_put, end_took, put_down, taken_down}
use Rattle.lane_models.proofs.EndResting.{StandsResting, held_handshake, of_sid, resting_step}
use Rattle.lane_models.proofs.EndStanding.{held_stands, holds_some, open_declines, opened_phase, stands_step}
use Rattle.lane_models.proofs.EndUttering.{fresh_speaks}
use Rattle.lane_models.proofs.HandshakePlaces.{offer_in}
use Rattle.lane_models.proofs.HandshakesPlaced.{held_offer}
use Rattle.lane_models.proofs.HandshakeCases.{RowTaken, row_sent}
use Rattle.lane_models.proofs.Conversations.{held_phase}
use Rattle.lane_models.proofs.Lifting.{EndsAll, ends_run}
use Rattle.lane_models.proofs.LinkCases.{behind_part, ControlHeard, ControlPut, ControlTaken, IsPacket, LinkHeard, ModeAgreed, ModeAsked, PartHeard, ReadyHeard, VersionAgreed, VersionAsked, taken_quiet}
use Rattle.lane_models.proofs.Opening.{EndCame, HandshakeComes, IsComing, IsNext, Owing, SaysWhole, Waiting, comes_up, hears_aside, hears_control, link_met, met, says_aside, sid_of}
use Rattle.lane_models.proofs.OpeningRows.{Comes_, GoesOn, Opens_, initiator_row, responder_row, sent_row}
use Rattle.lane_models.proofs.UtteranceCases.{SaysLast}
use Rattle.lane_models.specs.Cuts.{CarriesEither, CarriesOwed, CarriesOwn}
use Rattle.lane_models.specs.EndCore.{Begins, EndCore, EndMove, Fails, Hears, Renews, Says, Stays, Waits, fresh_end}
use Rattle.lane_models.specs.EndStep.{EndHears, EndSays, EndStep}
use Rattle.lane_models.specs.Grounds.{When, knows_sid}
use Rattle.lane_models.specs.LaneCore.{CoreEvent, CoreFits, CoreStep, LaneCore, OnChannel, end_of, fresh_core, role_of, transcript_behind, utterances_after}
use Rattle.lane_models.specs.Standing.{EndStands, IsPhaseOf}

-- A CONTROL PACKET that is heard
wrong_role : (role : Role) (ph before : LinkPhase) (X : Type 0) → IsPhaseOf role ph → ph ≡ before → (IsPhaseOf role before → ⊥) → X
wrong_role role ph before X of is never = absurd (never (subst (IsPhaseOf role) is of))

control_heard : (role : Role) (k m : LinkState) (turns : List Utterance) (packet : List ℕ) (next : LinkPhase) → IsPhaseOf role k.phase → FollowsRow role 0 (link_met role k.phase) turns
    → ControlTaken k.phase packet next → FollowsRow role 0 (link_met role next) (Heard packet ∷ turns)
control_heard Responder k m turns packet next of follows (VersionAsked major minor at is goes) =
    subst (λ (p : LinkPhase). FollowsRow Responder 0 (link_met Responder p) (Heard packet ∷ turns)) (sym goes) (by_major (nat_eq major 1) (nat_eq major 0) refl)
  where
    was : FollowsRow Responder 0 [] turns
    was = subst (λ (p : LinkPhase). FollowsRow Responder 0 (link_met Responder p) turns) at follows

    quiet : is_part packet ≡ false
    quiet = (taken_quiet k.phase packet next (VersionAsked major minor at is goes)).1

    by_major : (one none : Bool) → nat_eq major 1 ≡ one
        → FollowsRow Responder 0 (link_met Responder (if one then phase.OwesVersAck else if none then phase.OwesVersNack 0 else phase.OwesVersNack 1)) (Heard packet ∷ turns)
    by_major true none test =
        inl ((record { control = is.spells.kind; of_subtype = is.spells.subtype; of_ctrl = is.spells.body.0 }, is.spells.body.1 ∙ eqb-true major 1 test), was)
    by_major false true test = hears_control Responder 0 [] turns packet quiet was
    by_major false false test = hears_control Responder 0 [] turns packet quiet was
control_heard Responder k m turns packet next of follows (ModeAsked at is goes) =
    subst (λ (p : LinkPhase). FollowsRow Responder 0 (link_met Responder p) (Heard packet ∷ turns)) (sym goes)
    (inl (
      (record { control = is.spells.kind; of_subtype = is.spells.subtype; of_ctrl = is.spells.body.0 }, is.spells.body.1),
      subst (λ (p : LinkPhase). FollowsRow Responder 0 (link_met Responder p) turns) at follows,
    ))
control_heard Initiator k m turns packet next of follows (VersionAgreed at is goes) =
    subst (λ (p : LinkPhase). FollowsRow Initiator 0 (link_met Initiator p) (Heard packet ∷ turns)) (sym goes)
    (inl (
      (record { control = is.spells.kind; of_subtype = is.spells.subtype; of_ctrl = is.spells.body.0 }, is.spells.body.1, is.spells.body.2),
      subst (λ (p : LinkPhase). FollowsRow Initiator 0 (link_met Initiator p) turns) at follows,
    ))
control_heard Initiator k m turns packet next of follows (ModeAgreed at is goes) =
    subst (λ (p : LinkPhase). FollowsRow Initiator 0 (link_met Initiator p) (Heard packet ∷ turns)) (sym goes)
    (inl (
      (record { control = is.spells.kind; of_subtype = is.spells.subtype; of_ctrl = is.spells.body.0 }, is.spells.body.1),
      subst (λ (p : LinkPhase). FollowsRow Initiator 0 (link_met Initiator p) turns) at follows,
    ))
control_heard Initiator k m turns packet next of follows (VersionAsked major minor at is goes) = wrong_role Initiator k.phase phase.AwaitsVersInfo _ of at (λ never. never)
control_heard Initiator k m turns packet next of follows (ModeAsked at is goes) = wrong_role Initiator k.phase phase.AwaitsRts _ of at (λ never. never)
control_heard Responder k m turns packet next of follows (VersionAgreed at is goes) = wrong_role Responder k.phase phase.AwaitsVersAck _ of at (λ never. never)
control_heard Responder k m turns packet next of follows (ModeAgreed at is goes) = wrong_role Responder k.phase phase.AwaitsRtr _ of at (λ never. never)

-- and RDX, with which a responder's link is up
ready_heard : (k : LinkState) (turns : List Utterance) (packet : List ℕ) → k.phase ≡ phase.AwaitsRdx → IsPacket packet Info Rdx → FollowsRow Responder 0 (link_met Responder k.phase) turns
    → FollowsRow Responder 0 (link_met Responder phase.Established) (Heard packet ∷ turns)
ready_heard k turns packet at is follows = grind arith

-- A CONTROL PACKET that is put
spelled_control : (bytes : List ℕ) (p : Packet) (one : Control) → bytes ≡ canonical p → IsControlOf one (canonical p) → IsControlOf one bytes
spelled_control bytes p one is control_so = subst (IsControlOf one) (sym is) control_so

offers : IsControlOf VersOffer (canonical (control Info 0 (Vers 1 0)))
unfolding canonical
offers = (record { control = refl; of_subtype = refl; of_ctrl = refl }, refl, refl)

agrees : IsControlOf VersAgreed (canonical (control Ack 0 (Vers 1 0)))
unfolding canonical
agrees = (record { control = refl; of_subtype = refl; of_ctrl = refl }, refl, refl)

asks_rts : IsControlOf RtsAsked (canonical (control Info 0 (Rts 1)))
unfolding canonical
asks_rts = (record { control = refl; of_subtype = refl; of_ctrl = refl }, refl)

answers_rtr : IsControlOf RtrAnswered (canonical (control Info 0 (Rtr 1)))
unfolding canonical
answers_rtr = (record { control = refl; of_subtype = refl; of_ctrl = refl }, refl)

gives_rdx : (n : ℕ) → IsControlOf RdxGiven (canonical (control Info n Rdx))
unfolding canonical
gives_rdx n = record { control = refl; of_subtype = refl; of_ctrl = refl }

refuses : (major : ℕ) → IsVersNack (canonical (control Nack 0 (Vers major 0)))
unfolding canonical
refuses major = record { control = refl; of_subtype = refl; of_ctrl = refl }

control_put : (role : Role) (k : LinkState) (turns : List Utterance) (packet : List ℕ) (next : LinkPhase) → IsPhaseOf role k.phase → FollowsRow role 0 (link_met role k.phase) turns
    → ControlPut k.phase packet next → FollowsRow role 0 (link_met role next) (Said packet ∷ turns)
control_put role k turns packet next of follows put = grind (arith, offers, asks_rts, agrees, refuses, answers_rtr)

-- THE LINK COMES UP
up_comes : (role : Role) (h : Handshake) (turns : List Utterance) → h.role ≡ role → FollowsRow role 0 (link_met role phase.Established) turns → HandshakeComes role (handshake_up h) turns
up_comes role h turns is follows = grind arith

-- an initiator knows its sid
initiator_sid : (both : Bool) (p : Phase) → IsComing both Initiator p → knows_sid p Initiator ≡ true
initiator_sid both p coming = grind arith

-- ITS ORDER, and that a session opens in it
pub record OrderStands (role : Role) (c : EndCore) (turns : List Utterance) : Type 0 where
  pub knows : StandsResting role c turns
  pub came : EndCame role c turns

abbrev pub InOrder : Role → Bool → EndCore → List Utterance → Type 0
InOrder role opens t now = opens ≡ true → HandshakeOrder t.handshake.offer.both_rings role now

record OnIn (role : Role) (opens : Bool) (t : EndCore) (now : List Utterance) : Type 0 where
  came : EndCame role t now
  order : InOrder role opens t now

never_now : {X : Type 0} (b : Bool) → b ≡ false → b ≡ true → X
never_now {X} b not is = false_is_true (sym not ∙ is)

-- the link isn't up; it is up with the same handshake; and with another
stays_down : (role : Role) (t : EndCore) (opens : Bool) (now : List Utterance) → is_up t.link ≡ false → opens ≡ false → FollowsRow role 0 (link_met role t.link.phase) now → OnIn role opens t now
stays_down role t opens now down not follows = search (never_now)

goes_up : (role : Role) (t : EndCore) (opens : Bool) (now : List Utterance) → is_up t.link ≡ true → opens ≡ false → (t.handshake.phase ≡ Open) ⊎ HandshakeComes role t.handshake now → OnIn role opens t now
goes_up role t opens now up not comes = grind arith

by_on : (role : Role) (t : EndCore) (opens : Bool) (now : List Utterance) → is_up t.link ≡ true → GoesOn role t.handshake opens now → OnIn role opens t now
by_on role t opens now up (Comes_ not comes) = goes_up role t opens now up not (inr comes)
by_on role t opens now up (Opens_ is at order) =
    record { came = record { below = λ down. never_now (is_up t.link) down up; above = λ still. inl at }; order = λ now_open. order }

same_comes : (role : Role) (h g : Handshake) (turns now : List Utterance) → g ≡ h
    → (HandshakeComes role h turns → HandshakeComes role h now) → (h.phase ≡ Open) ⊎ HandshakeComes role h turns → (g.phase ≡ Open) ⊎ HandshakeComes role g now
same_comes role h g turns now is goes (inl at) = inl (ap (λ (x : Handshake). x.phase) is ∙ at)
same_comes role h g turns now is goes (inr comes) = inr (subst (λ (x : Handshake). HandshakeComes role x now) (sym is) (goes comes))

-- with a packet that stands aside
heard_comes : (role : Role) (h : Handshake) (turns : List Utterance) (packet : List ℕ) → h.owed ≡ None → HandshakeComes role h turns → HandshakeComes role h (Heard packet ∷ turns)
heard_comes role h turns packet none comes = grind (arith, hears_aside)

up_behind : (lines : List RowLine) (sid : ℕ) (message : Message) → IsNext lines sid message → ComesUpBelow lines → ComesUpBelow (drop 1 lines)
up_behind (Says_ subtype envelope ∷ lines) sid message next up = up
up_behind _ sid message next up = absurd next

-- a part that goes on stands aside, also of the message that is owed
part_comes : (role : Role) (h : Handshake) (turns : List Utterance) (packet : List ℕ) → is_part packet ≡ true → (fragment_at packet).stop ≡ false → HandshakeComes role h turns
    → HandshakeComes role h (Said packet ∷ turns)
part_comes role h turns packet part stop comes = record { coming = comes.coming; stage = by_stage comes.stage }
  where
    aside : (lines : List RowLine) → ComesUpBelow lines → FollowsRow role (sid_of h) lines turns → FollowsRow role (sid_of h) lines (Said packet ∷ turns)
    aside lines up follows =
        says_aside role (sid_of h) lines turns packet up part (subst (λ (b : Bool). MayEnd b (half_said turns ++ (fragment_at packet).bytes)) (sym stop) tt) follows

    by_stage : Owing h.offer.both_rings role h.phase (sid_of h) h.owed turns ⊎ Waiting h.offer.both_rings role h.phase (sid_of h) h.owed turns
        → Owing h.offer.both_rings role h.phase (sid_of h) h.owed (Said packet ∷ turns) ⊎ Waiting h.offer.both_rings role h.phase (sid_of h) h.owed (Said packet ∷ turns)
    by_stage (inl owing) = inl (record {
      message = owing.message;
      owed_is = owing.owed_is;
      next = owing.next;
      follows = aside (drop 1 (met h.offer.both_rings role h.phase)) (up_behind (met h.offer.both_rings role h.phase) (sid_of h) owing.message owing.next (comes_up h.offer.both_rings role h.phase comes.coming)) owing.follows;
    })
    by_stage (inr waiting) =
        inr (record { waits = waiting.waits; refusal = waiting.refusal; follows = aside (met h.offer.both_rings role h.phase) (comes_up h.offer.both_rings role h.phase comes.coming) waiting.follows })

-- an open session's handshake stays open, whatever is said
open_in : (r : Role) (h : Handshake) → put_in r Open h ≡ record h { owed = None }
open_in Initiator h = refl
open_in Responder h = refl

never_opens : (r : Role) → opens_by_put r Open ≡ false
never_opens Initiator = refl
never_opens Responder = refl

open_sent : (h : Handshake) → h.phase ≡ Open → (handshake_sent h ≡ record h { owed = None }) × (opens_by_put h.role h.phase ≡ false)
open_sent h at = (ap (λ (p : Phase). put_in h.role p h) at ∙ open_in h.role h, ap (opens_by_put h.role) at ∙ never_opens h.role)

-- IT HEARS a packet
hears_order : (role : Role) (c t : EndCore) (turns : List Utterance) (packet : List ℕ) (opens : Bool) → OrderStands role c turns → EndHears role c packet opens t → OnIn role opens t (Heard packet ∷ turns)
hears_order role c t turns packet opens all hears = by_what took.what
  where
    stands : EndStands role c turns
    stands = all.knows.stands

    took : EndTook role c turns packet opens t
    took = end_took role c t turns packet opens stands hears

    now : List Utterance
    now = Heard packet ∷ turns

    link_up : is_up t.link ≡ is_up took.now
    link_up = ap is_up took.link

    below_how : is_up c.link ≡ false → is_up took.now ≡ false → LinkHeard c.link packet took.now → FollowsRow role 0 (link_met role took.now.phase) now
    below_how down still (ControlHeard next taken is) =
        subst (λ (p : LinkPhase). FollowsRow role 0 (link_met role p) now) (sym (ap (λ (k : LinkState). k.phase) is))
        (control_heard role c.link took.now turns packet next stands.link.of_role (all.came.below down) taken)
    below_how down still (ReadyHeard at ready number is) = never_now (is_up took.now) still (ap is_up is)
    below_how down still (PartHeard at part may number is) = never_now (is_up c.link) down (ap is_established at)

    same_link : (b : Bool) → is_up c.link ≡ b → is_up took.now ≡ is_up c.link → t.handshake ≡ c.handshake → opens ≡ false → OnIn role opens t now
    same_link true up same handshake not =
        goes_up role t opens now (link_up ∙ same ∙ up) not
        (same_comes role c.handshake t.handshake turns now handshake (heard_comes role c.handshake turns packet hears.may.owed) (all.came.above up))
    same_link false down same handshake not =
        stays_down role t opens now (link_up ∙ same ∙ down) not
        (subst (λ (k : LinkState). FollowsRow role 0 (link_met role k.phase) now) (sym took.link) (below_how down (same ∙ down) took.how))

    rises_how : role ≡ Responder → is_up c.link ≡ false → is_up took.now ≡ true → LinkHeard c.link packet took.now → FollowsRow role 0 (link_met role phase.Established) now
    rises_how is down up (ReadyHeard at ready number how) =
        subst (λ (r : Role). FollowsRow r 0 (link_met r phase.Established) now) (sym is)
        (ready_heard c.link turns packet at ready (subst (λ (r : Role). FollowsRow r 0 (link_met r c.link.phase) turns) is (all.came.below down)))
    rises_how is down up (ControlHeard next taken how) = never_now (is_up took.now) (ap is_up how ∙ (taken_down c.link.phase packet next taken).1) up
    rises_how is down up (PartHeard at part may number how) = never_now (is_up c.link) down (ap is_established at)

    by_role : (r : Role) → role ≡ r → (message : Message) → (took_message : TookMessage c turns packet took.now message) → RowTaken c.handshake message t.handshake opens
        → sid_fault c.handshake.sid message.sid ≡ None → HandshakeComes role c.handshake turns → GoesOn role t.handshake opens now
    by_role Initiator is message took_message handshake_row fine comes =
        subst (λ (x : Role). GoesOn x t.handshake opens now) (sym is)
        (initiator_row c.handshake t.handshake message opens turns packet (record {
          role_is = stands.handshake.role_is ∙ is;
          none = hears.may.owed;
          comes = subst (λ (x : Role). HandshakeComes x c.handshake turns) is comes;
          bytes = took_message.bytes;
          ends = took_message.ends;
          spells = took_message.spells;
        }) (of_sid c.handshake message.sid fine
        (subst (λ (b : Bool). When b (c.handshake.sid ≡ Some c.handshake.draft.sid))
        (ap (knows_sid c.handshake.phase) is
        ∙ initiator_sid c.handshake.offer.both_rings c.handshake.phase (subst (λ (x : Role). IsComing c.handshake.offer.both_rings x c.handshake.phase) is comes.coming)) all.knows.rests.sid)) handshake_row)
    by_role Responder is message took_message handshake_row fine comes =
        subst (λ (x : Role). GoesOn x t.handshake opens now) (sym is)
        (responder_row c.handshake t.handshake message opens turns packet (record {
          role_is = stands.handshake.role_is ∙ is;
          none = hears.may.owed;
          comes = subst (λ (x : Role). HandshakeComes x c.handshake turns) is comes;
          bytes = took_message.bytes;
          ends = took_message.ends;
          spells = took_message.spells;
        }) (λ p at known. of_sid c.handshake message.sid fine
        (subst (λ (b : Bool). When b (c.handshake.sid ≡ Some c.handshake.draft.sid)) (ap (λ (x : Phase). knows_sid x role) at ∙ ap (knows_sid p) is ∙ known) all.knows.rests.sid)) handshake_row)

    by_what : TookWhat role c turns packet opens t took.now → OnIn role opens t now
    by_what (NoMessage same quiet handshake not is_open) = same_link (is_up c.link) refl same handshake not
    by_what (Rises role_is down up quiet handshake not is_open) =
        goes_up role t opens now (link_up ∙ up) not
        (inr (subst (λ (h : Handshake). HandshakeComes role h now) (sym handshake)
        (up_comes role c.handshake now stands.handshake.role_is (rises_how role_is down up took.how))))
    by_what (TookOwn message took_message own handshake not is_open) =
        goes_up role t opens now (link_up ∙ took_message.stays) not
        (inl (ap (λ (h : Handshake). h.phase) handshake ∙ opened_phase c.handshake.phase (sym stands.opened ∙ own.opened)))
    by_what (TookHandshake message took_message handshake is_open) = by_came (all.came.above took_message.up)
      where
        by_came : (c.handshake.phase ≡ Open) ⊎ HandshakeComes role c.handshake turns → OnIn role opens t now
        by_came (inl at) =
            let declined = open_declines c.handshake t.handshake message opens at handshake.row in
            goes_up role t opens now (link_up ∙ took_message.stays) declined.1 (inl (ap (λ (h : Handshake). h.phase) declined.0 ∙ at))
        by_came (inr comes) = by_on role t opens now (link_up ∙ took_message.stays) (by_role role refl message took_message handshake.row handshake.sid comes)

-- IT SAYS a packet
carried_owed : (own : Bool) (h : Handshake) (bytes : List ℕ) → own ≡ false → CarriesEither own h bytes → CarriesOwed h.owed bytes
carried_owed false h bytes is carries = carries
carried_owed true h bytes is carries = absurd (cc is)

carried_own : (own : Bool) (h : Handshake) (bytes : List ℕ) → own ≡ true → CarriesEither own h bytes → CarriesOwn h bytes
carried_own true h bytes is carries = carries
carried_own false h bytes is carries = absurd (cc is)

says_order : (role : Role) (c t : EndCore) (turns : List Utterance) (packet : List ℕ) (opens : Bool) → OrderStands role c turns → EndSays role c packet opens t → OnIn role opens t (Said packet ∷ turns)
says_order role c t turns packet opens all says = by_what (end_put role c t turns packet opens says stands)
  where
    held : EndCore
    held = says.held

    now : List Utterance
    now = Said packet ∷ turns

    stands : EndStands role held turns
    stands = held_stands role c held turns says.what all.knows.stands says.holds

    phase_is : held.link.phase ≡ c.link.phase
    phase_is = held_phase c held says.what says.holds

    below : is_up held.link ≡ false → FollowsRow role 0 (link_met role held.link.phase) turns
    below down = subst (λ (p : LinkPhase). FollowsRow role 0 (link_met role p) turns) (sym phase_is) (all.came.below (ap is_established (sym phase_is) ∙ down))

    above : held.link.phase ≡ phase.Established → (held.handshake.phase ≡ Open) ⊎ HandshakeComes role held.handshake turns
    above at = same_comes role c.handshake held.handshake turns turns (held_handshake c held says.what says.holds) (λ comes. comes) (all.came.above (ap is_established (sym phase_is ∙ at)))

    link_up : t.link ≡ behind_part held.link → held.link.phase ≡ phase.Established → is_up t.link ≡ true
    link_up link at = ap is_up link ∙ ap is_established at

    carried : SaysLast held.link turns packet → held.link.phase ≡ phase.Established → CarriesEither held.own held.handshake (half_said turns ++ held.link.to_send)
    carried last at = stands.carries (holds_some held.link (ap is_established at) last.some)

    whole : (last : SaysLast held.link turns packet) → (message : Message) → half_said turns ++ held.link.to_send ≡ message_at.canonical message → SaysWhole turns packet message
    whole last message is =
        let short = leb-true (length held.link.to_send) 56 last.short in
        record {
          part = last.part.part;
          stop = last.part.stops ∙ last.short;
          whole = ap (λ (xs : List ℕ). half_said turns ++ xs) (last.part.carries ∙ take_all 56 held.link.to_send short) ∙ is;
        }

    put_handshake : held.own ≡ false → held.link.phase ≡ phase.Established → t.link ≡ behind_part held.link → SaysLast held.link turns packet → t.handshake ≡ handshake_sent held.handshake
        → opens ≡ opens_by_put held.handshake.role held.handshake.phase → (held.handshake.phase ≡ Open) ⊎ HandshakeComes role held.handshake turns → OnIn role opens t now
    put_handshake not at link last handshake flag (inl open_now) =
        let sent = open_sent held.handshake open_now in
        goes_up role t opens now (link_up link at) (flag ∙ sent.1) (inl (ap (λ (h : Handshake). h.phase) (handshake ∙ sent.0) ∙ open_now))
    put_handshake not at link last handshake flag (inr comes) =
        let carries = carried_owed held.own held.handshake (half_said turns ++ held.link.to_send) not (carried last at) in
        by_on role t opens now (link_up link at)
        (subst (λ (b : Bool). GoesOn role t.handshake b now) (sym flag)
        (subst (λ (h : Handshake). GoesOn role h (opens_by_put held.handshake.role held.handshake.phase) now) (sym handshake)
        (sent_row role held.handshake (handshake_sent held.handshake) (opens_by_put held.handshake.role held.handshake.phase) turns packet (record {
          role_is = stands.handshake.role_is;
          message = carries.message;
          owed = carries.owed;
          says = whole last carries.message carries.is;
          comes = comes;
        }) (row_sent held.handshake))))

    by_what : PutWhat role held turns packet opens t → OnIn role opens t now
    by_what (PutControl next gone link quiet handshake not is_open) =
        let downs = put_down held.link.phase packet next gone in
        stays_down role t opens now (ap is_up link ∙ downs.1) not
        (subst (λ (k : LinkState). FollowsRow role 0 (link_met role k.phase) now) (sym link)
        (control_put role held.link turns packet next stands.link.of_role (below downs.0) gone))
    by_what (PutReady role_is at spelled link quiet handshake not is_open) =
        goes_up role t opens now (ap is_up link) not
        (inr (subst (λ (h : Handshake). HandshakeComes role h now) (sym handshake)
        (up_comes role held.handshake now stands.handshake.role_is (subst (λ (r : Role). FollowsRow r 0 (link_met r phase.Established) now) (sym role_is)
        (inl (
          spelled_control packet (control Info held.link.put_next Rdx) RdxGiven spelled (gives_rdx held.link.put_next),
          subst (λ (p : LinkPhase). FollowsRow Initiator 0 (link_met Initiator p) turns) at
              (subst (λ (r : Role). FollowsRow r 0 (link_met r held.link.phase) turns) role_is (below (ap is_established at))),
        ))))))
    by_what (PutMore at link more handshake not is_open) =
        goes_up role t opens now (link_up link at) not
        (same_comes role held.handshake t.handshake turns now handshake (part_comes role held.handshake turns packet more.part.part (more.part.stops ∙ more.long)) (above at))
    by_what (PutOwn own at link last handshake not is_open) =
        let carries = carried_own held.own held.handshake (half_said turns ++ held.link.to_send) own (carried last at) in
        goes_up role t opens now (link_up link at) not (inl (ap (λ (h : Handshake). h.phase) handshake ∙ carries.opened))
    by_what (PutHandshake not at link last handshake flag is_open) = put_handshake not at link last handshake flag (above at)

-- EACH MOVE
anew_came : (role : Role) (t : EndCore) → t.link ≡ fresh_link role → EndCame role t []
anew_came role t is = grind arith

same_came : (role : Role) (c t : EndCore) (turns : List Utterance) → t.link.phase ≡ c.link.phase → t.handshake ≡ c.handshake → EndCame role c turns → EndCame role t turns
same_came role c t turns link handshake came = grind arith

came_step : (role : Role) (c : EndCore) (move : EndMove) (t : EndCore) (turns : List Utterance) → OrderStands role c turns → EndStep role c move t → EndCame role t (utterances_after turns move)
came_step role c Begins t turns all step = anew_came role t (step.link ∙ ap fresh_link all.knows.stands.link.role_is)
came_step role c Renews t turns all step = anew_came role t step.link
came_step role c (Fails cause packet) t turns all step = anew_came role t (step.1.link ∙ ap fresh_link all.knows.stands.link.role_is)
came_step role c (Hears packet opens) t turns all step = (hears_order role c t turns packet opens all step).came
came_step role c (Says packet opens) t turns all step = (says_order role c t turns packet opens all step).came
came_step role c Waits t turns all step = same_came role c t turns (held_phase c t step.what step.holds) (held_handshake c t step.what step.holds) all.came
came_step role c Stays t turns all step = same_came role c t turns (ap (λ (k : LinkState). k.phase) step.link) step.handshake all.came

pub order_step : (role : Role) (c : EndCore) (move : EndMove) (t : EndCore) (turns : List Utterance) → OrderStands role c turns → EndStep role c move t
    → OrderStands role t (utterances_after turns move)
order_step role c move t turns all step = record { knows = resting_step role c move t turns all.knows step; came = came_step role c move t turns all step }

-- ALONG EVERY RUN
pub order_run : (entries : ℕ) (asks answers : Offer) (events : List CoreEvent) (s : LaneCore) → CoreFits entries asks answers
    → Run CoreStep (fresh_core entries asks answers) events s → EndsAll OrderStands s (transcript_behind events)
order_run entries asks answers events s fits run =
    ends_run OrderStands (λ role c move t turns all step. order_step role c move t turns all step) entries asks answers events s
    (record { knows = (fresh_speaks Initiator asks fits.asks_fit.form.most).knows; came = anew_came Initiator (fresh_end Initiator asks) refl })
    (record { knows = (fresh_speaks Responder answers fits.answers_fit.form.most).knows; came = anew_came Responder (fresh_end Responder answers) refl }) run

-- the order is that of the end's offer
of_offer : (role : Role) (c t : EndCore) (turns now : List Utterance) (opens : Bool) → t.handshake.offer ≡ t.offer → t.offer ≡ c.offer → InOrder role opens t now → opens ≡ true
    → HandshakeOrder c.offer.both_rings role now
of_offer role c t turns now opens own same order is = subst (λ (o : Offer). HandshakeOrder o.both_rings role now) (own ∙ same) (order is)

said_offer : (role : Role) (c t : EndCore) (packet : List ℕ) (opens : Bool) → EndSays role c packet opens t → t.offer ≡ c.offer
said_offer role c t packet opens says = says.offer ∙ held_offer c says.held says.what says.holds

end_opens : (role : Role) (c t : EndCore) (turns : List Utterance) (packet : List ℕ) → OrderStands role c turns → EndSays role c packet true t → HandshakeOrder c.offer.both_rings role (Said packet ∷ turns)
end_opens role c t turns packet all says =
    of_offer role c t turns (Said packet ∷ turns) true (stands_step role c (Says packet true) t turns all.knows.stands says).handshake.offer_is (said_offer role c t packet true says)
    (says_order role c t turns packet true all says).order refl

end_took_open : (role : Role) (c t : EndCore) (turns : List Utterance) (packet : List ℕ) → OrderStands role c turns → EndHears role c packet true t
    → HandshakeOrder c.offer.both_rings role (Heard packet ∷ turns)
end_took_open role c t turns packet all hears =
    of_offer role c t turns (Heard packet ∷ turns) true (stands_step role c (Hears packet true) t turns all.knows.stands hears).handshake.offer_is hears.offer
    (hears_order role c t turns packet true all hears).order refl

pub opens_saying : (entries : ℕ) (asks answers : Offer) (events : List CoreEvent) (s : LaneCore) (e : End) (packet : List ℕ) (t : LaneCore) → CoreFits entries asks answers
    → Run CoreStep (fresh_core entries asks answers) events s → CoreStep s (OnChannel (Sent_ e packet true)) t
    → HandshakeOrder (end_of e s).offer.both_rings (role_of e) (Said packet ∷ transcript_of e (transcript_behind events))
opens_saying entries asks answers events s A packet t fits run step = end_opens Initiator s.a t.a (transcript_behind events).a packet (order_run entries asks answers events s fits run).a step.a
opens_saying entries asks answers events s B packet t fits run step = end_opens Responder s.b t.b (transcript_behind events).b packet (order_run entries asks answers events s fits run).b step.b

pub opens_hearing : (entries : ℕ) (asks answers : Offer) (events : List CoreEvent) (s : LaneCore) (e : End) (packet : List ℕ) (t : LaneCore) → CoreFits entries asks answers
    → Run CoreStep (fresh_core entries asks answers) events s → CoreStep s (OnChannel (Took_ e packet true)) t
    → HandshakeOrder (end_of e s).offer.both_rings (role_of e) (Heard packet ∷ transcript_of e (transcript_behind events))
opens_hearing entries asks answers events s A packet t fits run step = end_took_open Initiator s.a t.a (transcript_behind events).a packet (order_run entries asks answers events s fits run).a step.a
opens_hearing entries asks answers events s B packet t fits run step = end_took_open Responder s.b t.b (transcript_behind events).b packet (order_run entries asks answers events s fits run).b step.b

-- THE OFFERS stay as they were
offer_step : (asks answers : Offer) (role : Role) (c : EndCore) (move : EndMove) (t : EndCore) (turns : List Utterance) → c.offer ≡ offer_in asks answers role → EndStep role c move t
    → t.offer ≡ offer_in asks answers role
offer_step asks answers role c move t turns is step = grind arith

pub offers_stay : (entries : ℕ) (asks answers : Offer) (events : List CoreEvent) (s : LaneCore) → Run CoreStep (fresh_core entries asks answers) events s
    → (s.a.offer ≡ asks) × (s.b.offer ≡ answers)
offers_stay entries asks answers events s run =
    let both = ends_run (λ (role : Role) (c : EndCore) (turns : List Utterance). c.offer ≡ offer_in asks answers role)
    (λ role c move t turns is step. offer_step asks answers role c move t turns is step) entries asks answers events s refl refl run in
    (both.a, both.b)
