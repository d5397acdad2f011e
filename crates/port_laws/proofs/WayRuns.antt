-- Along every run of a port that nobody forged, what is on the way between its ends agrees with what both count.
use Rattle.std.proofs.Common.{◌≡◌, ◌≢◌, ℕ, ◌+◌, ◌≤◌, true, false, Option, Some, None, List, [], ◌∷◌, length, refl, sym, ap, ◌∙◌, subst, arith}
use Rattle.std.specs.Prelude.{is_some, ⊤}
use Rattle.ldc_link.specs.declared.phase.Role.TheVariants.{Initiator, Responder}
use Rattle.ldc_queue.specs.declared.end.ChannelState.{ChannelState}
use Rattle.ldc_queue.specs.declared.end.ChannelState.TheVariants.{Up}
use Rattle.ldc_queue.specs.declared.end.End.{End}
use Rattle.ldc_queue.specs.declared.end.End.TheVariants.{A, B}
use Rattle.ldc_queue.specs.OneStream.{IsFront}
use Rattle.ldc_queue.specs.Transcript.{Heard, Said, Utterance}
use Rattle.ldc_queue.specs.Wire.{peer_behind, peer_of, state_of}
use Rattle.runs.specs.Lawful.{log_of, run_lawful}
use Rattle.runs.specs.Run.{Run}
use Rattle.lane_models.specs.Messages.{ended_by, opening_sid}
use Rattle.lane_models.specs.Sayings.{half_said, heard, said}
use Rattle.lane_models.specs.TranscriptLog.{transcript_of}
use Rattle.lane_models.specs.WireAt.{IsUp}
use Rattle.lane_models.specs.WireLog.{WireLog}
use Rattle.lane_models.specs.Sides.{sides_of, swapped}
use Rattle.lane_models.proofs.Refuting.{none_some, true_false}
use Rattle.lane_models.specs.EndLog.{EndLog, SessionLog, change, opened_log}
use Rattle.lane_models.specs.NetEndStep.{Frame, Given, Joined, NetAnswer, NetLeft, Reset, Sent, Took}
use Rattle.lane_models.specs.NetEvent.{Asked, Gives, Injects, Loses, NetEvent, Pokes, Steps, Ticked, on_wire}
use Rattle.lane_models.specs.NetLaneState.{IsNetShape, NetLaneState, NetShape, memory_of, net_end, reach_of, role_at, seen_at}
use Rattle.lane_models.specs.NetLaneStep.{EndSteps, NetLaneStep, moved_on}
use Rattle.lane_models.specs.PortLog.{PortLog, after, after_answer, after_given, log_of_end, no_events}
use Rattle.lane_models.specs.PortState.{OfQueue, OnLane, PortEvent, PortState, PortStep, Receives, before, fresh_port}
use Rattle.port_laws.specs.NetCore.{lane_core}
use Rattle.port_laws.specs.RingStands.{taken_in}
use Rattle.port_laws.specs.WaysStand.{Ways, WaysStand, or_new}
use Rattle.port_laws.proofs.EndCounting.{left_seen}
use Rattle.port_laws.proofs.PortCounts.{PortCounts, before_queue, before_wire, queue_of}
use Rattle.port_laws.proofs.PortTwoEnds.{PortTwoEnds, answers_of, asks_of, port_two_ends, six_open, up_open}
use Rattle.port_laws.proofs.PutCounts.{SaidRight}
use Rattle.port_laws.proofs.RingActs.{Acts, Finds, OpenBoth, acting_at, acts_shut, acts_up_at, open_both, ring_of_end, step_busy, step_now, turned_at}
use Rattle.port_laws.proofs.RingEvents.{Active, Goes, peer_up, theirs_now, turns_at, utterances_now, wire_now}
use Rattle.port_laws.proofs.RingRuns.{Kept, finds_before, kept_step, fresh_kept, was_clean}
use Rattle.port_laws.proofs.RingSteps.{opens_by}
use Rattle.port_laws.proofs.RuleFrames.{both_open, end_acts, end_counted}
use Rattle.port_laws.proofs.SessionsHeard.{grown_most, heard_grown, said_grown}
use Rattle.port_laws.proofs.StepCounts.{sent_right}
use Rattle.port_laws.proofs.WayActs.{AnswerFits, ClosedFits, closed_acts, first_ways, open_acts}
use Rattle.port_laws.proofs.WayMoves.{Plain, RightIn, swap_ways}
use Rattle.port_laws.proofs.WayPlain.{BothPlain, closed_plain, open_heard, open_said}
use Rattle.port_laws.proofs.ReadyFrames.{by_value}

-- THE FRAMES THAT THE PEER TOOK are at most a turn of the ring
pub new_taken : (log : Option SessionLog) → (or_new log).taken ≡ taken_in log
new_taken log = grind arith

pub turn_at : (shape : NetShape) (e : End) (u : PortState) (l : PortLog) (v : SessionLog) → Finds shape u l → state_of e u.lane.wire.wire ≡ Up → state_of (peer_of e) u.lane.wire.wire ≡ Up
    → (log_of_end e l).session ≡ Some v → (or_new (log_of_end (peer_of e) l).session).taken ≤ v.seen + l.shape.slots
turn_at shape e u l v finds up other is = grind (arith, both_open, end_counted, left_seen, ring_of_end, new_taken)

-- WHAT AN ANSWER FITS in a session
right_in : (slots : ℕ) (groups : List (List ℕ)) (l : EndLog) (v : SessionLog) (ended : Option (List ℕ)) → l.session ≡ Some v
    → SaidRight slots groups l ended → RightIn slots groups v ended
right_in slots groups l v None is right = tt
right_in slots groups l v (Some message) is right = right message v refl is

fits_at : (shape : NetShape) (e : End) (u t : PortState) (l : PortLog) (answer : NetAnswer) (left : NetLeft) (v : SessionLog) → Acts shape e u t l answer left → state_of (peer_of e) u.lane.wire.wire ≡ Up
    → (log_of_end e l).session ≡ Some v → IsFront (heard (utterances_now answer (transcript_of e l.transcript))) (said (transcript_of (peer_of e) l.transcript))
    → AnswerFits l.shape.slots (transcript_of e l.transcript) (transcript_of (peer_of e) l.transcript) v (or_new (log_of_end (peer_of e) l).session) answer
fits_at shape e u t l answer left v acts other is front = by_answer answer acts front
  where
    never : (given : NetAnswer) → Acts shape e u t l given left → opens_by given ≡ true → ⊥
    never given moves opened =
        let before = open_both (role_at e) shape.slots (queue_of e u) (net_end e u.lane) (log_of_end e l) (end_counted shape e u l moves.finds.ready) in
        none_some v (sym (before.none (acts_shut shape e u t l given left moves opened)) ∙ is)

    by_answer : (given : NetAnswer) → Acts shape e u t l given left → IsFront (heard (utterances_now given (transcript_of e l.transcript))) (said (transcript_of (peer_of e) l.transcript))
        → AnswerFits l.shape.slots (transcript_of e l.transcript) (transcript_of (peer_of e) l.transcript) v (or_new (log_of_end (peer_of e) l).session) given
    by_answer (Sent packet opens) moves ahead =
        let acting = acting_at shape e u l moves.finds (acts_up_at shape e u t l (Sent packet opens) left moves tt) in
        let right = sent_right (role_at e) shape.slots (queue_of e u) (net_end e u.lane) (log_of_end e l) (transcript_of e l.transcript) (seen_at e u.lane) (memory_of e u.lane) (reach_of e u.lane) packet opens
        left acting moves.step in
        let slots : shape.slots ≡ l.shape.slots = sym (ap (λ (z : NetShape). z.slots) moves.finds.ready.shape_is) in (
          by_value opens (never (Sent packet opens) moves),
          (
            moves.step.held.groups,
            subst (λ (n : ℕ). RightIn n moves.step.held.groups v (ended_by (half_said (transcript_of e l.transcript)) packet)) slots
                (right_in shape.slots moves.step.held.groups (log_of_end e l) v (ended_by (half_said (transcript_of e l.transcript)) packet) is right),
          ),
        )
    by_answer (Took packet opens) moves ahead = (
      by_value opens (never (Took packet opens) moves),
      ahead,
      turn_at shape e u l v moves.finds (acts_up_at shape e u t l (Took packet opens) left moves tt) other is,
    )
    by_answer (Frame frame) moves ahead =
        let busy = step_busy (role_at e) shape.slots (queue_of e u) (net_end e u.lane) (log_of_end e l) (transcript_of e l.transcript) (seen_at e u.lane) (memory_of e u.lane) (reach_of e u.lane) (Frame frame)
        left (λ up. end_acts shape e u l moves.finds.ready up) moves.step in
        subst (Active (Frame frame)) is busy.active
    by_answer _ moves ahead = tt

pub goes_theirs : (answer : NetAnswer) (x y : ChannelState) → Goes answer → theirs_now answer x y ≡ y
goes_theirs answer x y goes = grind arith

pub peer_was_up : (shape : NetShape) (e : End) (u t : PortState) (l : PortLog) (answer : NetAnswer) (left : NetLeft) → Acts shape e u t l answer left → Goes answer → state_of (peer_of e) t.lane.wire.wire ≡ Up
    → state_of (peer_of e) u.lane.wire.wire ≡ Up
peer_was_up shape e u t l answer left acts goes up = grind (arith, wire_now, goes_theirs)

-- A STEP OF THE GUEST
pub guest_goes : (slots : ℕ) (turns : List Utterance) (answer : NetAnswer) (l : EndLog) → (after_answer slots turns answer l).session ≢ None → Goes answer
guest_goes slots turns answer l some = grind arith

none_change : (f : SessionLog → SessionLog) (log : Option SessionLog) → log ≡ None → change f log ≡ None
none_change f log is = ap (change f) is

-- it opens by a packet that it says
pub opening_sent : (slots : ℕ) (turns : List Utterance) (answer : NetAnswer) (l : EndLog) → l.session ≡ None → (after_answer slots turns answer l).session ≢ None → length (said turns) ≤ 5
    → 6 ≤ length (said (utterances_now answer turns)) → (packet : List ℕ) × (answer ≡ Sent packet true)
opening_sent slots turns (Sent packet true) l none some few many = (packet, refl)
opening_sent slots turns (Sent packet false) l none some few many = absurd (some (none_change _ l.session none))
opening_sent slots turns (Joined lost) l none some few many = absurd (some refl)
opening_sent slots turns (Reset cause packet lost) l none some few many = absurd (some refl)
opening_sent slots turns _ l none some few many = absurd (omega (arith, few, many))

pub hub_none : (shape : NetShape) (u : PortState) (l : PortLog) → Finds shape u l → IsUp B u.lane.wire.wire → l.guest.session ≡ None → l.hub.session ≡ None
hub_none shape u l finds up none = grind (arith, open_both, none_some, six_open, true_false)

open_step : (shape : NetShape) (e : End) (u t : PortState) (l : PortLog) (answer : NetAnswer) (left : NetLeft) (v : SessionLog) → Acts shape e u t l answer left → Goes answer
    → state_of (peer_of e) u.lane.wire.wire ≡ Up → (log_of_end e l).session ≡ Some v
    → IsFront (heard (utterances_now answer (transcript_of e l.transcript))) (said (transcript_of (peer_of e) l.transcript))
    → Ways l.shape.slots (said (transcript_of e l.transcript)) (heard (transcript_of e l.transcript)) (said (transcript_of (peer_of e) l.transcript)) (heard (transcript_of (peer_of e) l.transcript))
    v (or_new (log_of_end (peer_of e) l).session)
    → Ways l.shape.slots (said (utterances_now answer (transcript_of e l.transcript))) (heard (utterances_now answer (transcript_of e l.transcript))) (said (transcript_of (peer_of e) l.transcript))
    (heard (transcript_of (peer_of e) l.transcript)) (or_new (after_answer l.shape.slots (transcript_of e l.transcript) answer (log_of_end e l)).session) (or_new (log_of_end (peer_of e) l).session)
open_step shape e u t l answer left v acts goes other is front ways =
    let slots : l.shape.slots ≡ shape.slots = ap (λ (z : NetShape). z.slots) acts.finds.ready.shape_is in
    let some = acts.finds.ready.sound.some_slots in
    open_acts l.shape.slots (transcript_of e l.transcript) (transcript_of (peer_of e) l.transcript) answer (log_of_end e l) v (or_new (log_of_end (peer_of e) l).session) is (omega (arith, some, slots)) goes
    (fits_at shape e u t l answer left v acts other is front) ways

guest_first : (shape : NetShape) (u t : PortState) (l : PortLog) (packet : List ℕ) (left : NetLeft) → Acts shape A u t l (Sent packet true) left → IsUp A t.lane.wire.wire → IsUp B t.lane.wire.wire
    → l.guest.session ≡ None
    → Ways l.shape.slots (said (Said packet ∷ l.transcript.a)) (heard l.transcript.a) (said l.transcript.b) (heard l.transcript.b)
    (opened_log (opening_sid (half_said l.transcript.a) packet)) (or_new l.hub.session)
guest_first shape u t l packet left acts up other none =
    let few = (turned_at shape A u t l (Sent packet true) left acts tt).few none in
    let then_ = after l (OnLane (Steps A (Sent packet true))) in
    let other_before = peer_was_up shape A u t l (Sent packet true) left acts tt other in
    let hub_shut : l.hub.session ≡ None = hub_none shape u l acts.finds other_before none in
    let hub = open_both Responder shape.slots u.queue u.lane.hub l.hub acts.finds.ready.hub in
    let guest = open_both Initiator shape.slots [] t.lane.guest then_.guest acts.counts.guest in
    let opened : is_some t.lane.guest.session ≡ true = guest.opened (λ gone. none_some _ (sym gone)) in
    let short : length (said (Said packet ∷ l.transcript.a)) ≤ 6 = omega (arith, few, grown_most _ (said l.transcript.a) (said (Said packet ∷ l.transcript.a)) (said_grown l.transcript.a packet)) in
    let mine : Plain (said (Said packet ∷ l.transcript.a)) =
    open_said (asks_of shape) (answers_of shape) Initiator (sides_of (lane_core t.lane) then_.transcript) (acts.two_ends.two_ends A) up opened short in
    let theirs = closed_plain (asks_of shape) (answers_of shape) Responder (swapped (sides_of (lane_core u.lane) l.transcript)) (acts.finds.two_ends.two_ends B) other_before (hub.shut hub_shut) in
    subst (λ (o : Option SessionLog). Ways l.shape.slots (said (Said packet ∷ l.transcript.a)) (heard l.transcript.a) (said l.transcript.b) (heard l.transcript.b)
    (opened_log (opening_sid (half_said l.transcript.a) packet)) (or_new o)) (sym hub_shut)
    (first_ways l.shape.slots (opening_sid (half_said l.transcript.a) packet) (Said packet ∷ l.transcript.a) l.transcript.b (acts.two_ends.front_a up) (acts.two_ends.front other) mine theirs.said_plain)

guest_ways : (shape : NetShape) (u t : PortState) (l : PortLog) (answer : NetAnswer) (left : NetLeft) → Acts shape A u t l answer left → WaysStand u.lane l
    → WaysStand t.lane (after l (OnLane (Steps A answer)))
guest_ways shape u t l answer left acts ways up other some =
    by_log l.guest.session refl (guest_goes l.shape.slots l.transcript.a answer l.guest some)
  where
    then_ : PortLog
    then_ = after l (OnLane (Steps A answer))

    Now : List Utterance → List Utterance → Option SessionLog → Type 0
    Now client server log = Ways l.shape.slots (said client) (heard client) (said server) (heard server) (or_new log) (or_new l.hub.session)

    as_now : Now (utterances_now answer l.transcript.a) l.transcript.b (after_answer l.shape.slots l.transcript.a answer l.guest).session
        → Ways l.shape.slots (said then_.transcript.a) (heard then_.transcript.a) (said then_.transcript.b) (heard then_.transcript.b) (or_new then_.guest.session) (or_new then_.hub.session)
    as_now one =
        let turns = turns_at A l.transcript answer in rw (turns.mine, turns.theirs) one

    front : IsFront (heard (utterances_now answer l.transcript.a)) (said l.transcript.b)
    front =
        let turns = turns_at A l.transcript answer in rw turns.mine at (rw turns.theirs at (acts.two_ends.front_a up))

    by_log : (log : Option SessionLog) → l.guest.session ≡ log → Goes answer
        → Ways l.shape.slots (said then_.transcript.a) (heard then_.transcript.a) (said then_.transcript.b) (heard then_.transcript.b) (or_new then_.guest.session) (or_new then_.hub.session)
    by_log (Some v) is goes =
        let up_before = acts_up_at shape A u t l answer left acts goes in
        let other_before = peer_was_up shape A u t l answer left acts goes other in
        let was = ways up_before other_before (λ gone. none_some v (sym gone ∙ is)) in
        as_now (open_step shape A u t l answer left v acts goes other_before is front (subst (Now l.transcript.a l.transcript.b) is was))
    by_log None is goes =
        let turned = turned_at shape A u t l answer left acts goes in
        let opening = opening_sent l.shape.slots l.transcript.a answer l.guest is some (turned.few is) (turned.many some) in
        let same : answer ≡ Sent opening.0 true = opening.1 in
        as_now (rw same (guest_first shape u t l opening.0 left (rw same at acts) up other is))

-- A STEP OF THE SWITCH'S END
pub hub_plain : (shape : NetShape) (u t : PortState) (l : PortLog) (answer : NetAnswer) (left : NetLeft) → Acts shape B u t l answer left → Goes answer → IsUp B t.lane.wire.wire → l.hub.session ≡ None
    → ClosedFits l.transcript.b l.transcript.a answer
hub_plain shape u t l answer left acts goes up none = by_log then_.hub.session refl
  where
    then_ : PortLog
    then_ = after l (OnLane (Steps B answer))

    now : then_.transcript.b ≡ utterances_now answer l.transcript.b
    now = (turns_at B l.transcript answer).mine

    theirs : then_.transcript.a ≡ l.transcript.a
    theirs = (turns_at B l.transcript answer).theirs

    front : IsFront (heard (utterances_now answer l.transcript.b)) (said l.transcript.a)
    front = subst (λ (xs : List Utterance). IsFront (heard xs) (said l.transcript.a)) now (subst (λ (xs : List Utterance). IsFront (heard then_.transcript.b) (said xs)) theirs (acts.two_ends.front up))

    hub : OpenBoth t.lane.hub then_.hub
    hub = open_both Responder shape.slots t.queue t.lane.hub then_.hub acts.counts.hub

    hub_before : OpenBoth u.lane.hub l.hub
    hub_before = open_both Responder shape.slots u.queue u.lane.hub l.hub acts.finds.ready.hub

    up_before : IsUp B u.lane.wire.wire
    up_before = acts_up_at shape B u t l answer left acts goes

    was : BothPlain (said l.transcript.b) (heard l.transcript.b)
    was = closed_plain (asks_of shape) (answers_of shape) Responder (swapped (sides_of (lane_core u.lane) l.transcript)) (acts.finds.two_ends.two_ends B) up_before (hub_before.shut none)

    heard_short : (given : NetAnswer) → length (heard l.transcript.b) ≤ 5 → length (heard (utterances_now given l.transcript.b)) ≤ 6
    heard_short (Took packet opens) few = omega (arith, few, grown_most _ (heard l.transcript.b) (heard (Heard packet ∷ l.transcript.b)) (heard_grown l.transcript.b packet))
    heard_short (Joined lost) few = omega arith
    heard_short (Reset cause packet lost) few = omega arith
    heard_short _ few = omega (arith, few)

    said_same : (given : NetAnswer) → length (heard l.transcript.b) ≤ 5 → 6 ≤ length (heard (utterances_now given l.transcript.b)) → Plain (said (utterances_now given l.transcript.b))
    said_same given few many = grind (arith, was)

    by_log : (log : Option SessionLog) → then_.hub.session ≡ log → ClosedFits l.transcript.b l.transcript.a answer
    by_log None is =
        let plain = closed_plain (asks_of shape) (answers_of shape) Responder (swapped (sides_of (lane_core t.lane) then_.transcript)) (acts.two_ends.two_ends B) up (hub.shut is) in
        grind (arith, now, front)
    by_log (Some w) is =
        let some : then_.hub.session ≢ None = λ gone. none_some w (sym gone ∙ is) in
        let turned = turned_at shape B u t l answer left acts goes in
        let few = turned.few none in
        let many = turned.many some in
        let short : length (heard then_.transcript.b) ≤ 6 = subst (λ (xs : List Utterance). length (heard xs) ≤ 6) (sym now) (heard_short answer few) in
        let plain = open_heard (asks_of shape) (answers_of shape) Responder (swapped (sides_of (lane_core t.lane) then_.transcript)) (acts.two_ends.two_ends B) up (hub.opened some) short in
        record { said_plain = said_same answer few many; heard_plain = subst (λ (xs : List Utterance). Plain (heard xs)) now plain; front = front }

-- an end in session has a peer that is up
pub guest_open_up : (shape : NetShape) (u : PortState) (l : PortLog) → Finds shape u l → IsUp A u.lane.wire.wire → l.guest.session ≢ None → IsUp B u.lane.wire.wire
guest_open_up shape u l finds up some = grind (arith, open_both, up_open)

pub hub_goes : (answer : NetAnswer) (x y : ChannelState) → (y ≡ Up → x ≡ Up) → theirs_now answer x y ≡ Up → Goes answer
hub_goes answer x y means up = grind (arith, peer_up)

hub_ways : (shape : NetShape) (u t : PortState) (l : PortLog) (answer : NetAnswer) (left : NetLeft) → Acts shape B u t l answer left → WaysStand u.lane l
    → WaysStand t.lane (after l (OnLane (Steps B answer)))
hub_ways shape u t l answer left acts ways other up some = by_log l.hub.session refl
  where
    then_ : PortLog
    then_ = after l (OnLane (Steps B answer))

    theirs : theirs_now answer u.lane.wire.wire.end_b u.lane.wire.wire.end_a ≡ Up
    theirs = sym (ap (λ (w : WireLog). w.wire.end_a) acts.now.wire ∙ (wire_now B u.lane answer).theirs) ∙ other

    goes : Goes answer
    goes = hub_goes answer u.lane.wire.wire.end_b u.lane.wire.wire.end_a (λ guest_up. guest_open_up shape u l acts.finds guest_up some) theirs

    other_before : IsUp A u.lane.wire.wire
    other_before = peer_was_up shape B u t l answer left acts goes other

    up_before : IsUp B u.lane.wire.wire
    up_before = acts_up_at shape B u t l answer left acts goes

    now : then_.transcript.b ≡ utterances_now answer l.transcript.b
    now = (turns_at B l.transcript answer).mine

    same : then_.transcript.a ≡ l.transcript.a
    same = (turns_at B l.transcript answer).theirs

    front : IsFront (heard (utterances_now answer l.transcript.b)) (said l.transcript.a)
    front = subst (λ (xs : List Utterance). IsFront (heard xs) (said l.transcript.a)) now (subst (λ (xs : List Utterance). IsFront (heard then_.transcript.b) (said xs)) same (acts.two_ends.front up))

    v : SessionLog
    v = or_new l.guest.session

    Now : List Utterance → List Utterance → Option SessionLog → Type 0
    Now client server log = Ways l.shape.slots (said server) (heard server) (said client) (heard client) (or_new log) v

    was : Now l.transcript.a l.transcript.b l.hub.session
    was = swap_ways l.shape.slots (said l.transcript.a) (heard l.transcript.a) (said l.transcript.b) (heard l.transcript.b) v (or_new l.hub.session) (ways other_before up_before some)

    as_now : Now l.transcript.a (utterances_now answer l.transcript.b) (after_answer l.shape.slots l.transcript.b answer l.hub).session
        → Ways l.shape.slots (said then_.transcript.a) (heard then_.transcript.a) (said then_.transcript.b) (heard then_.transcript.b) (or_new then_.guest.session) (or_new then_.hub.session)
    as_now one =
        swap_ways l.shape.slots (said then_.transcript.b) (heard then_.transcript.b) (said
        then_.transcript.a) (heard then_.transcript.a) (or_new then_.hub.session) (or_new then_.guest.session)
        (rw (now, same) one)

    by_log : (log : Option SessionLog) → l.hub.session ≡ log
        → Ways l.shape.slots (said then_.transcript.a) (heard then_.transcript.a) (said then_.transcript.b) (heard then_.transcript.b) (or_new then_.guest.session) (or_new then_.hub.session)
    by_log (Some w) is = as_now (open_step shape B u t l answer left w acts goes other_before is front (subst (Now l.transcript.a l.transcript.b) is was))
    by_log None is =
        as_now (closed_acts l.shape.slots l.transcript.b l.transcript.a answer l.hub v is goes (hub_plain shape u t l answer left acts goes up is) (subst (Now l.transcript.a l.transcript.b) is was))

-- WHAT ISN'T A STEP
pub never_alone : (shape : NetShape) (u : PortState) (l : PortLog) (X : Type 0) → Finds shape u l → l.guest.session ≢ None → peer_behind u.lane.wire.wire.end_b u.lane.wire.wire.end_a ≡ Up → X
never_alone shape u l X finds some up = grind (arith, peer_up, guest_open_up)

given_same : (given : Given) (l : EndLog) → (after_given given l).session ≡ l.session
given_same given l = grind arith

pub acts_of : (shape : NetShape) (e : End) (u t : PortState) (l : PortLog) (answer : NetAnswer) → Finds shape u l → (step : EndSteps e u.lane answer t.lane)
    → PortCounts shape t (after l (OnLane (Steps e answer))) → PortTwoEnds shape (lane_core t.lane) (after l (OnLane (Steps e answer))) → Acts shape e u t l answer step.left
acts_of shape e u t l answer finds step counts two_ends = record { finds = finds; step = step.step; now = step_now e u.lane t.lane answer step; counts = counts; two_ends = two_ends }

lane_ways : (shape : NetShape) (u t : PortState) (l : PortLog) (event : NetEvent) → OfQueue u event → Finds shape u l → NetLaneStep u.lane event t.lane → (moved_on l.wire (on_wire event)).forged ≡ false
    → PortCounts shape t (after l (OnLane event)) → PortTwoEnds shape (lane_core t.lane) (after l (OnLane event)) → WaysStand u.lane l → WaysStand t.lane (after l (OnLane event))
lane_ways shape u t l (Steps A answer) of_queue finds step clean counts two_ends ways = guest_ways shape u t l answer step.left (acts_of shape A u t l answer finds step counts two_ends) ways
lane_ways shape u t l (Steps B answer) of_queue finds step clean counts two_ends ways = hub_ways shape u t l answer step.left (acts_of shape B u t l answer finds step counts two_ends) ways
lane_ways shape u t l (Asked A lost) of_queue finds step clean counts two_ends ways = λ up other some. absurd (some refl)
lane_ways shape u t l (Asked B lost) of_queue finds step clean counts two_ends ways =
    λ up other some. never_alone shape u l _ finds some (sym (ap (λ (x : NetLaneState). x.wire.wire.end_a) step.1) ∙ up)
lane_ways shape u t l (Ticked queued lost) of_queue finds step clean counts two_ends ways = λ up other some. absurd (some refl)
lane_ways shape u t l (Gives A given) of_queue finds step clean counts two_ends ways =
    λ up other some.
    subst (λ (o : Option SessionLog). Ways l.shape.slots (said l.transcript.a) (heard l.transcript.a) (said l.transcript.b) (heard l.transcript.b) (or_new o) (or_new l.hub.session))
    (sym (given_same given l.guest))
    (ways (sym (ap (λ (x : NetLaneState). x.wire.wire.end_a) step.1) ∙ up) (sym (ap (λ (x : NetLaneState). x.wire.wire.end_b) step.1) ∙ other) (λ none. some (given_same given l.guest ∙ none)))
lane_ways shape u t l (Gives B given) of_queue finds step clean counts two_ends ways = absurd of_queue
lane_ways shape u t l (Loses A packet) of_queue finds step clean counts two_ends ways =
    λ up other some. ways (sym (ap (λ (x : NetLaneState). x.wire.wire.end_a) step.1) ∙ up) (sym (ap (λ (x : NetLaneState). x.wire.wire.end_b) step.1) ∙ other) some
lane_ways shape u t l (Injects e packet) of_queue finds step clean counts two_ends ways = true_false clean
lane_ways shape u t l (Pokes e at bytes) of_queue finds step clean counts two_ends ways = true_false clean
lane_ways shape u t l _ of_queue finds step clean counts two_ends ways =
    λ up other some. ways (sym (ap (λ (x : NetLaneState). x.wire.wire.end_a) step.1) ∙ up) (sym (ap (λ (x : NetLaneState). x.wire.wire.end_b) step.1) ∙ other) some

-- ALONG EVERY RUN
pub record KeptWays (shape : NetShape) (s : PortState) (l : PortLog) : Type 0 where
  pub kept : Kept shape s l
  pub ways : l.wire.forged ≡ false → WaysStand s.lane l

pub ways_before : (event : NetEvent) (s : PortState) (l : PortLog) → WaysStand s.lane l → WaysStand (before event s).lane l
ways_before event s l ways = λ up other some. ways (sym (ap (λ (w : WireLog). w.wire.end_a) (before_wire event s)) ∙ up) (sym (ap (λ (w : WireLog). w.wire.end_b) (before_wire event s)) ∙ other) some

pub ways_step : (shape : NetShape) → IsNetShape shape → (s : PortState) (l : PortLog) (event : PortEvent) (t : PortState) → KeptWays shape s l → PortStep s event t → KeptWays shape t (after l event)
ways_step shape is s l (OnLane event) t had step =
    let kept : Kept shape t (after l (OnLane event)) = kept_step shape is s l (OnLane event) t had.kept step in
    record {
      kept = kept;
      ways = λ clean.
          let wire : t.lane.wire.forged ≡ false = ap (λ (w : WireLog). w.forged) kept.counts.wire ∙ clean in
          let was : l.wire.forged ≡ false = was_clean l.wire event clean in
          lane_ways shape (before event s) t l event (before_queue event s step.0) (finds_before shape s l event is had.kept was) step.1 clean kept.counts
          (port_two_ends shape t (after l (OnLane event)) is kept.counts wire) (ways_before event s l (had.ways was));
    }
ways_step shape is s l (Receives frame) t had step =
    let lane : t.lane ≡ s.lane = ap (λ (x : PortState). x.lane) step.2 in
    record {
      kept = kept_step shape is s l (Receives frame) t had.kept step;
      ways = λ clean. λ up other some. had.ways clean (sym (ap (λ (x : NetLaneState). x.wire.wire.end_a) lane) ∙ up) (sym (ap (λ (x : NetLaneState). x.wire.wire.end_b) lane) ∙ other) some;
    }

pub port_ways : (shape : NetShape) (events : List PortEvent) (s : PortState) → IsNetShape shape → Run PortStep (fresh_port shape) events s → KeptWays shape s (log_of after (no_events shape) events)
port_ways shape events s is run =
    (run_lawful PortStep (λ (l : PortLog) (e : PortEvent). ⊤) after (KeptWays shape) (λ (x : PortState) (l : PortLog) (e : PortEvent) (y : PortState) had step. (tt, ways_step shape is x l e y had step))
    (fresh_port shape) s (no_events shape) events (record { kept = fresh_kept shape is; ways = λ clean up other some. absurd (some refl) }) run).1

pub ways_stand : (shape : NetShape) (events : List PortEvent) (s : PortState) → IsNetShape shape → Run PortStep (fresh_port shape) events s
    → (log_of after (no_events shape) events).wire.forged ≡ false → WaysStand s.lane (log_of after (no_events shape) events)
ways_stand shape events s is run clean = (port_ways shape events s is run).ways clean
