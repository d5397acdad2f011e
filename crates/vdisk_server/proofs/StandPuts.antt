-- What always holds of a server stays so where it puts.
use Rattle.std.proofs.Common.{◌≡◌, ◌≢◌, ℕ, Bool, true, false, List, [], Option, Some, None, inl, inr, refl, sym, ap, ◌∙◌, subst, arith}
use Rattle.std.proofs.lemmas.Bool.Decides.{nat_tests}
use Rattle.std.specs.Prelude.{◌==◌, ◌&&◌, not, is_none, is_some, if◌then◌else◌}
use Rattle.ldc_link.specs.declared.phase.LinkPhase.{LinkPhase}
use Rattle.ldc_link.specs.declared.phase.LinkPhase.TheVariants as link
use Rattle.ldc_link.specs.declared.phase.Role.TheVariants.{Responder}
use Rattle.ldc_link.specs.LinkState.{LinkState, is_established, is_up, offered}
use Rattle.ldc_link.specs.Putting.{behind_put, left_behind_put, owed_in, owes, part_owed, phase_behind_put}
use Rattle.vio_handshake.specs.declared.handshake.Handshake.{Handshake}
use Rattle.vio_handshake.specs.declared.handshake.Phase.{Phase}
use Rattle.vio_handshake.specs.Rules.{handshake_sent}
use Rattle.vio_tag.specs.declared.message.Message.{Message}
use Rattle.lane_models.specs.EndPuts.{EndsOwn, EndsHandshake, Goes, PutKind, ending, handshake_behind}
use Rattle.lane_models.specs.ServerPutting.{answered, server_put, session_behind}
use Rattle.lane_models.specs.ServerRule.{answer}
use Rattle.lane_models.specs.ServerState.{ServerSession, ServerState, SlotRange, Work}
use Rattle.vdisk_server.specs.Rules.{answer_owed, first_owed, owed_message, session_owes}
use Rattle.vdisk_server.specs.Standing.{AnswersLink, HasRange, IsOpen, IsQuiet, IsUnfinished, Stands, WorkIn}
use Rattle.vdisk_server.proofs.HandshakeSteps.{sent_keeps, sent_open, handshake_sends}
use Rattle.vdisk_server.proofs.PutSteps.{kind_noted}
use Rattle.vdisk_server.proofs.StandSteps.{either, none_some, says_up}

both_ways : (b : Bool) → b ≡ true → b ≡ false → ⊥
both_ways b yes_it_is no_it_is = cc

-- THE LINK after a packet that it put
put_link : (p : LinkPhase) → AnswersLink p → AnswersLink (phase_behind_put p) × (is_established (phase_behind_put p) ≡ is_established p)
put_link link.OwesVersInfo answers = absurd answers
put_link link.AwaitsVersAck answers = absurd answers
put_link link.OwesRts answers = absurd answers
put_link link.AwaitsRtr answers = absurd answers
put_link link.OwesRdx answers = absurd answers
put_link link.Established answers = (tt, refl)
put_link p answers = (tt, refl)

put_left : (p : LinkPhase) (left : List ℕ) → is_established p ≡ false → left_behind_put p left ≡ left
put_left link.Established left down = absurd (cc)
put_left p left down = refl

-- where no descriptor is in work
work_none : (s : ServerState) (work : Option Work) → work ≡ None → WorkIn s work
work_none s work is = subst (λ (w : Option Work). WorkIn s w) (sym is) tt

answered_open : (session : Option ServerSession) (phase : Phase) → IsOpen session phase → IsOpen (answered session) phase
answered_open None phase opened = tt
answered_open (Some session) phase opened = opened

sent_opened : (session : Option ServerSession) (h : Handshake) → h.role ≡ Responder → IsOpen session h.phase → IsOpen session (handshake_sent h).phase
sent_opened None h role opened = tt
sent_opened (Some session) h role opened = sent_open h role opened

abbrev pub put_by : ServerState → PutKind → ServerState
put_by s kind = record s { link = behind_put s.link; handshake = handshake_behind kind s.handshake; session = session_behind kind s.session }

put_goes : (s : ServerState) → Stands s → s.work ≡ None → Stands (put_by s Goes)
put_goes s stands none = record {
  disk = stands.disk;
  link = record { role = stands.link.role; phase = (put_link s.link.phase stands.link.phase).0; seen = stands.link.seen };
  handshake = stands.handshake;
  began = record {
    down = λ down.
        let was : is_up s.link ≡ false = sym ((put_link s.link.phase stands.link.phase).1) ∙ down in
        let quiet : IsQuiet s = stands.began.down was in
        record { phase = quiet.phase; owed = quiet.owed; to_send = put_left s.link.phase s.link.to_send was ∙ quiet.to_send; session = quiet.session };
    up = λ up. stands.began.up (sym ((put_link s.link.phase stands.link.phase).1) ∙ up);
  };
  session = stands.session;
  work = work_none (put_by s Goes) s.work none;
}

put_own : (s : ServerState) → Stands s → s.work ≡ None → is_up s.link ≡ true → Stands (put_by s EndsOwn)
put_own s stands none up = record {
  disk = stands.disk;
  link = record { role = stands.link.role; phase = (put_link s.link.phase stands.link.phase).0; seen = stands.link.seen };
  handshake = stands.handshake;
  began = record {
    down = λ down. absurd (both_ways (is_up s.link) up (sym ((put_link s.link.phase stands.link.phase).1) ∙ down));
    up = λ _. stands.began.up up;
  };
  session = answered_open s.session s.handshake.phase stands.session;
  work = work_none (put_by s EndsOwn) s.work none;
}

put_handshake : (s : ServerState) → Stands s → s.work ≡ None → is_up s.link ≡ true → Stands (put_by s EndsHandshake)
put_handshake s stands none up = record {
  disk = stands.disk;
  link = record { role = stands.link.role; phase = (put_link s.link.phase stands.link.phase).0; seen = stands.link.seen };
  handshake = handshake_sends s.blocks s.slots s.handshake stands.handshake;
  began = record {
    down = λ down. absurd (both_ways (is_up s.link) up (sym ((put_link s.link.phase stands.link.phase).1) ∙ down));
    up = λ _. (sent_keeps s.handshake stands.handshake.role stands.handshake.knows).began (stands.began.up up);
  };
  session = sent_opened s.session s.handshake stands.handshake.role stands.session;
  work = work_none (put_by s EndsHandshake) s.work none;
}

put_ending : (s : ServerState) (up more own : Bool) → Stands s → s.work ≡ None → is_up s.link ≡ up → Stands (put_by s (ending (up && more) own))
put_ending s false more own stands none up = put_goes s stands none
put_ending s true false own stands none up = put_goes s stands none
put_ending s true true true stands none up = put_own s stands none up
put_ending s true true false stands none up = put_handshake s stands none up

pub stands_put : (s : ServerState) → Stands s → s.work ≡ None → Stands (server_put s)
stands_put s stands none =
    subst (λ (kind : PutKind). Stands (put_by s kind)) (sym (kind_noted s.link.phase s.link (is_none s.handshake.owed) refl stands.link.phase))
    (put_ending s (is_up s.link) (not (owes (behind_put s.link))) (is_none s.handshake.owed) stands none refl)

-- WHAT IS HELD: nothing is in work where a packet or a message is owed
idle_work : (s : ServerState) (work : Option Work) → s.work ≡ work → (WorkIn s work) → (HasRange s.session → s.handshake.owed ≡ None → s.link.to_send ≡ [] → ⊥) → work ≡ None
idle_work s None is stands none = refl
idle_work s (Some work) is stands none = absurd (none stands.range stands.owed stands.to_send)

range_open : (session : Option ServerSession) → HasRange session → session ≡ None → ⊥
range_open None range is = range
range_open (Some session) range is = cc

pub up_of : (s : ServerState) → Stands s → HasRange s.session → is_up s.link ≡ true
up_of s stands range =
    elim (either (is_up s.link)) [
      | inl up ↦ up
      | inr down ↦ absurd (range_open s.session range (stands.began.down down).session)
    ]

-- an established link with nothing to send owes nothing
owes_none : (p : LinkPhase) (k : LinkState) → k.phase ≡ p → is_established p ≡ true → k.to_send ≡ [] → owes k ≡ false
owes_none link.Established k is up left =
    ap (λ (q : LinkPhase). is_some (owed_in q k)) is ∙ ap (λ (xs : List ℕ). is_some (part_owed k xs)) left
owes_none p k is up left = absurd (cc)

pub puts_idle : (s : ServerState) → Stands s → owes s.link ≡ true → s.work ≡ None
puts_idle s stands more =
    idle_work s s.work refl stands.work
    (λ range owed left. both_ways (owes s.link) more (owes_none s.link.phase s.link refl (up_of s stands range) left))

other_test : (a b : ℕ) → a ≢ b → (a == b) ≡ false
other_test a b other = grind (arith, nat_tests)

unfinished_owes : (s : ServerState) (session : ServerSession) (range : Option SlotRange) → IsUnfinished range session → answer_owed s session range ≡ None
unfinished_owes s session None range = absurd range
unfinished_owes s session (Some range) unfinished =
    let test : (session.finished == session.asked) ≡ false = other_test session.finished session.asked unfinished in
    ap (λ (b : Bool). if b then Some (answer s range) else None) test

range_owes : (s : ServerState) (session : Option ServerSession) → HasRange session → session_owes s session ≡ None
range_owes s None range = absurd range
range_owes s (Some session) range = unfinished_owes s session session.range range

pub says_idle : (s : ServerState) (message : Message) → Stands s → owed_message s ≡ Some message → s.work ≡ None
says_idle s message stands is =
    idle_work s s.work refl stands.work
    (λ range owed left. none_some (owed_message s) message
    (ap (λ (o : Option Message). first_owed o (session_owes s s.session)) owed ∙ range_owes s s.session range) is)

pub stands_offered : (s : ServerState) (message : Message) (bytes : List ℕ) → Stands s → owed_message s ≡ Some message → Stands (record s { link = offered bytes s.link })
stands_offered s message bytes stands is =
    let up : is_up s.link ≡ true = says_up s message stands is in
    record {
      disk = stands.disk;
      link = record { role = stands.link.role; phase = stands.link.phase; seen = stands.link.seen };
      handshake = stands.handshake;
      began = record { down = λ down. absurd (both_ways (is_up s.link) up down); up = stands.began.up };
      session = stands.session;
      work = work_none (record s { link = offered bytes s.link }) s.work (says_idle s message stands is);
    }
