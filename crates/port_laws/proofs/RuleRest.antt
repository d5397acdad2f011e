-- Why an end of a port resets itself, where a port is finished, and where its ends may be idle, by the counts of both ends.
use Rattle.std.proofs.Common.{◌≡◌, ℕ, Bool, true, Option, Some, None, List, [], length, refl, sym, subst, ap, ◌∙◌, arith}
use Rattle.std.specs.Prelude.{◌%◌, ◌==◌, ◌&&◌, not}
use Rattle.std.proofs.lemmas.Bool.{and_parts, eqb-true}
use Rattle.cookie_copy.specs.Faults.{is_up}
use Rattle.ldc_link.specs.declared.phase.Role.TheVariants.{Initiator, Responder}
use Rattle.ldc_queue.specs.declared.end.End.{End}
use Rattle.ldc_queue.specs.Wire.{state_of}
use Rattle.runs.specs.Lawful.{Lawful}
use Rattle.runs.specs.Run.{Run}
use Rattle.vio_tag.specs.declared.cause.Cause.{Cause}
use Rattle.lane_models.specs.TranscriptLog.{transcript_of}
use Rattle.lane_models.specs.WireAt.{IsUp}
use Rattle.lane_models.specs.WireLog.{WireLog}
use Rattle.lane_models.proofs.Refuting.{false_true, true_false}
use Rattle.lane_models.proofs.Ruling.{says_of}
use Rattle.lane_models.specs.EndLog.{EndLog, SessionLog, said_in, said_kind}
use Rattle.lane_models.specs.Fetching.{fetched}
use Rattle.lane_models.specs.FrameLaws.{InSession, IsFinished, OwnReset, OwnResetAt, SlotResets, TickAt, ToldAll, WorksAt}
use Rattle.lane_models.specs.NetEndRule.{Fetches, NetRule, port_rule}
use Rattle.lane_models.specs.NetEndState.{NetEndState, NetSession}
use Rattle.lane_models.specs.NetEndStep.{NetFails}
use Rattle.lane_models.specs.NetEvent.{NetEvent}
use Rattle.lane_models.specs.NetLaneState.{IsNetShape, NetLaneState, NetShape, memory_of, net_end, reach_of, role_at, seen_at}
use Rattle.lane_models.specs.NetLaneStep.{NetLaneStep, is_finished, is_nothing, told_all}
use Rattle.lane_models.specs.PortLog.{PortLog, after, log_of_end, no_events}
use Rattle.lane_models.specs.PortState.{OfQueue, OnLane, PortEvent, PortState, PortStep, before, fresh_port}
use Rattle.lane_models.specs.Spoken.{Spoken, spoken}
use Rattle.port_laws.specs.Counted.{EndCounts, GroupCounts, IsBehind, LastCounts, SaysRightly}
use Rattle.port_laws.proofs.EndCounting.{open_counts}
use Rattle.port_laws.proofs.PortCounts.{Ready, before_queue, queue_of}
use Rattle.port_laws.proofs.RuleFrames.{active_here, along, both_open, end_acts, guest_held, held_frames}
use Rattle.port_laws.proofs.SlotsFound.{fails_fit, fetched_fits}
use Rattle.port_laws.proofs.TookCounts.{free_empty}
use Rattle.port_laws.proofs.LaneMoves.{up_of}

-- ONLY AN END THAT IS UP publishes a frame or takes one
end_up : (shape : NetShape) (e : End) (u : PortState) (l : PortLog) → Ready shape u l → is_up (seen_at e u.lane).state ≡ true → IsUp e l.wire.wire
end_up shape e u l ready up = subst (λ (w : WireLog). IsUp e w.wire) ready.wire (up_of (state_of e u.lane.wire.wire) up)

works_event : (shape : NetShape) (u : PortState) (l : PortLog) (event : NetEvent) (t : NetLaneState) → Ready shape u l → NetLaneStep u.lane event t → WorksAt l (OnLane event)
works_event shape u l event t ready step = grind (arith, end_up, says_of)

pub port_works : (shape : NetShape) (events : List PortEvent) (s : PortState) → IsNetShape shape → Run PortStep (fresh_port shape) events s → Lawful WorksAt after (no_events shape) events
port_works shape events s is run = along shape WorksAt is (λ x l event t counts ready step. works_event shape (before event x) l event t.lane ready step.1) (λ l frame. tt) events s run

-- 5. WHY A SLOT REFUSES
own_reset : (shape : NetShape) (e : End) (u : PortState) (l : PortLog) (cause : Cause) (packet : Option (List ℕ)) (r : NetRule) → Ready shape u l → port_rule (role_at e) (net_end e u.lane) (seen_at e u.lane) ≡ r
    → NetFails (role_at e) r (net_end e u.lane) (memory_of e u.lane) (reach_of e u.lane) cause packet → OwnReset l.shape.slots (log_of_end e l) cause packet
own_reset shape e u l cause packet (Fetches p activity) ready is fails =
    let says = says_of (role_at e) (net_end e u.lane) (seen_at e u.lane) (Fetches p activity) is in
    let acting = end_acts shape e u l ready says.0.free.up in
    let slots : shape.slots ≡ l.shape.slots = sym (ap (λ (x : NetShape). x.slots) ready.shape_is) in
    subst (OwnReset l.shape.slots (log_of_end e l) cause) (sym fails.0)
    (active_here (role_at e) shape.slots (queue_of e u) (net_end e u.lane) (log_of_end e l) p activity acting.counts says.0.session says.1
    (free_empty (role_at e) (net_end e u.lane) (transcript_of e l.transcript) acting.ends says.0.free.quiet) (SlotResets l.shape.slots cause)
    (λ v peer busy. (
      fails_fit (fetched (net_end e u.lane) (reach_of e u.lane) p.place) activity p.place cause l.shape.slots v (fetched_fits (net_end e u.lane) (reach_of e u.lane) p.place) fails.1
          (peer.place ∙ ap (λ (n : ℕ). v.taken % n) slots) (λ none. sym (subst (LastCounts shape.slots v) none busy.2)),
      busy.0,
    )))
own_reset shape e u l cause packet r ready is fails = grind arith

pub own_reset_event : (shape : NetShape) (u : PortState) (l : PortLog) (event : NetEvent) (t : NetLaneState) → Ready shape u l → NetLaneStep u.lane event t → OwnResetAt l (OnLane event)
own_reset_event shape u l event t ready step = grind (arith, own_reset)

pub port_resets : (shape : NetShape) (events : List PortEvent) (s : PortState) → IsNetShape shape → Run PortStep (fresh_port shape) events s → Lawful OwnResetAt after (no_events shape) events
port_resets shape events s is run = along shape OwnResetAt is (λ x l event t counts ready step. own_reset_event shape (before event x) l event t.lane ready step.1) (λ l frame. tt) events s run

-- 1. FINISHED: what was told, by what is held of it
record Told (groups : List (List ℕ)) (v : SessionLog) : Type 0 where
  membership : v.membership ≡ Some groups
  told : v.told ≡ true

told_kind : (k : Spoken) (groups : List (List ℕ)) (message : List ℕ) (v : SessionLog) → Told groups (said_kind k message v) → Told groups v
told_kind k groups message v is = grind (arith, false_true)

told_left : (left : Option (List ℕ)) (groups : List (List ℕ)) (v : SessionLog) → Told groups (said_in left v) → Told groups v
told_left None groups v is = is
told_left (Some message) groups v is = told_kind (spoken message) groups message v is

never_behind : (groups : List (List ℕ)) (told : Option (List (List ℕ))) → told ≡ Some groups → IsBehind told groups → ⊥
never_behind groups told is behind = grind arith

kept_kind : (k : Spoken) (slots : ℕ) (groups : List (List ℕ)) (message : List ℕ) (v : SessionLog) → SaysRightly slots groups v message k → Told groups v → Told groups (said_kind k message v)
kept_kind k slots groups message v right is = grind (arith, never_behind)

finished_told : (p : NetSession) (groups : List (List ℕ)) (v : SessionLog) → GroupCounts p groups v → told_all (Some p) ≡ true → Told groups v
finished_told p groups v counts is = grind (arith, false_true)

told_by : (untold telling : Bool) (p : NetSession) (groups : List (List ℕ)) (v : SessionLog) → p.untold ≡ untold → p.telling ≡ telling → GroupCounts p groups v → Told groups v → (not untold && not telling) ≡ true
told_by untold telling p groups v one two counts is = grind (arith, never_behind, true_false)

-- the guest's session
guest_told : (slots : ℕ) (s : NetEndState) (l : EndLog) → EndCounts Initiator slots [] s l → told_all s.session ≡ true → InSession l.session (Told s.groups)
guest_told slots s l counts is = by_session s.session refl
  where
    by_session : (session : Option NetSession) → s.session ≡ session → InSession l.session (Told s.groups)
    by_session None none = true_false (sym is ∙ ap told_all none)
    by_session (Some p) some = grind (arith, open_counts Initiator slots [] s l p counts some, told_left, finished_told)

told_guest : (slots : ℕ) (s : NetEndState) (l : EndLog) (v : SessionLog) → EndCounts Initiator slots [] s l → l.session ≡ Some v → Told s.groups v → told_all s.session ≡ true
told_guest slots s l v counts log is = grind (arith, both_open, told_by, kept_kind)

nothing_empty : (frames : List (List ℕ)) → is_nothing frames ≡ true → length frames ≡ 0
nothing_empty frames is = grind (arith, false_true)

empty_nothing : (frames : List (List ℕ)) → length frames ≡ 0 → is_nothing frames ≡ true
empty_nothing frames is = grind arith

in_open : (log : Option SessionLog) (P Q : SessionLog → Type 0) → ((v : SessionLog) → P v → Q v) → InSession log P → InSession log Q
in_open log P Q means holds = grind arith

calm_finished : (shape : NetShape) (u : PortState) (l : PortLog) (queued : ℕ) → Ready shape u l → queued ≡ length u.queue → is_finished u.lane queued ≡ true → IsFinished l
calm_finished shape u l queued ready queue is =
    let three = and_parts (told_all u.lane.guest.session && is_nothing u.lane.guest.frames && is_nothing u.lane.hub.frames) (queued == 0) is in
    let two = and_parts (told_all u.lane.guest.session && is_nothing u.lane.guest.frames) (is_nothing u.lane.hub.frames) three.0 in
    let one = and_parts (told_all u.lane.guest.session) (is_nothing u.lane.guest.frames) two.0 in
    let none : queued ≡ 0 = eqb-true queued 0 three.1 in
    let guest_held = guest_held shape.slots u.lane.guest l.guest ready.guest in
    let guest_none : length u.lane.guest.frames ≡ 0 = nothing_empty u.lane.guest.frames one.1 in
    let hub_none : length u.lane.hub.frames ≡ 0 = nothing_empty u.lane.hub.frames two.1 in
    record {
      told = grind (arith, in_open, guest_told);
      guest = guest_held ∙ guest_none;
      hub = omega (arith, held_frames Responder shape.slots u.queue u.lane.hub l.hub ready.hub, hub_none, queue, none);
    }

all_true : (a b c d : Bool) → a ≡ true → b ≡ true → c ≡ true → d ≡ true → (a && b && c && d) ≡ true
all_true a b c d one two three four = grind (arith, false_true)

record SomeTold (l : PortLog) : Type 0 where
  v : SessionLog
  log : l.guest.session ≡ Some v
  membership : v.membership ≡ Some l.members
  told : v.told ≡ true

some_told : (l : PortLog) (log : Option SessionLog) → l.guest.session ≡ log → InSession log (ToldAll l) → SomeTold l
some_told l log is holds = grind arith

finished_calm : (shape : NetShape) (u : PortState) (l : PortLog) (queued : ℕ) → Ready shape u l → queued ≡ length u.queue → IsFinished l → is_finished u.lane queued ≡ true
finished_calm shape u l queued ready queue finished =
    let there : SomeTold l = some_told l l.guest.session refl finished.told in
    let told : Told u.lane.guest.groups there.v =
    record { membership = there.membership ∙ ap (λ (x : List (List ℕ)). Some x) (sym ready.members); told = there.told } in
    let guest_held = guest_held shape.slots u.lane.guest l.guest ready.guest in
    let hub_held = held_frames Responder shape.slots u.queue u.lane.hub l.hub ready.hub in
    let guest_none : length u.lane.guest.frames ≡ 0 = sym guest_held ∙ finished.guest in
    let hub_none : length u.lane.hub.frames ≡ 0 = omega (arith, hub_held, finished.hub) in
    let none : queued ≡ 0 = omega (arith, hub_held, finished.hub, queue) in
    all_true (told_all u.lane.guest.session) (is_nothing u.lane.guest.frames) (is_nothing u.lane.hub.frames) (queued == 0) (told_guest shape.slots u.lane.guest l.guest there.v ready.guest there.log told)
    (empty_nothing u.lane.guest.frames guest_none) (empty_nothing u.lane.hub.frames hub_none) (ap (λ (n : ℕ). n == 0) none)

tick_event : (shape : NetShape) (u : PortState) (l : PortLog) (event : NetEvent) (t : NetLaneState) → Ready shape u l → OfQueue u event → NetLaneStep u.lane event t → TickAt l (OnLane event)
tick_event shape u l event t ready of_queue step = grind (arith, true_false, finished_calm, calm_finished)

pub port_ticks : (shape : NetShape) (events : List PortEvent) (s : PortState) → IsNetShape shape → Run PortStep (fresh_port shape) events s → Lawful TickAt after (no_events shape) events
port_ticks shape events s is run =
    along shape TickAt is (λ x l event t counts ready step.
    tick_event shape (before event x) l event t.lane ready (before_queue event x step.0) step.1) (λ l frame. tt) events s run
