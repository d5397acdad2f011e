-- Where the events of a port's frames may stand, by the counts of both ends.
use Rattle.std.proofs.Common.{◌≡◌, ℕ, ◌+◌, ◌≤◌, Bool, true, false, Option, Some, None, List, [], ◌++◌, length, drop, refl, sym, subst, ap, ◌∙◌, arith, length-append, length-drop}
use Rattle.std.specs.Prelude.{slice_get}
use Rattle.std.proofs.lemmas.Bool.{and_parts, eqb-true}
use Rattle.std.proofs.lemmas.List.{append-nil}
use Rattle.std.proofs.lemmas.Option.{slice_get_within}
use Rattle.cookie_copy.specs.Faults.{is_up}
use Rattle.ldc_link.specs.declared.phase.Role.{Role}
use Rattle.ldc_link.specs.declared.phase.Role.TheVariants.{Initiator}
use Rattle.ldc_queue.specs.declared.end.End.{End}
use Rattle.ldc_queue.specs.declared.end.End.TheVariants.{A}
use Rattle.ldc_queue.specs.Transcript.{Utterance}
use Rattle.runs.specs.Lawful.{Lawful, log_of}
use Rattle.runs.specs.Run.{Run}
use Rattle.lane_models.specs.Messages.{ended_by, is_range, range_if, range_in}
use Rattle.lane_models.specs.Sayings.{half_heard, half_said}
use Rattle.lane_models.specs.TranscriptLog.{transcript_of}
use Rattle.lane_models.proofs.FramesKept.{step_stands}
use Rattle.lane_models.proofs.Refuting.{none_some}
use Rattle.lane_models.proofs.Ruling.{says_of}
use Rattle.lane_models.specs.EndLog.{EndLog, SessionLog, held, hears_log, lost_in, opens_log, range_of}
use Rattle.lane_models.specs.FrameLaws.{AcknowledgesAt, Acknowledges, AdmissionAt, Announces, AnnouncesAt, IfMessage, IfSession, InSession, LostAt, MayPublish, PublishedAt, SeesAt, SeesPublished, TakingAt}
use Rattle.lane_models.specs.FramesStand.{FramesStand}
use Rattle.lane_models.specs.NetEndRule.{Fetches, Publishes, Takes, port_rule}
use Rattle.lane_models.specs.NetEndState.{Activity, NetEndState, NetSession, unseen, unseen_in}
use Rattle.lane_models.specs.NetEndStep.{Frame, Joined, Published, Reset, Sent, Took}
use Rattle.lane_models.specs.NetEvent.{Asked, NetEvent, Steps, Ticked}
use Rattle.lane_models.specs.NetLaneState.{IsNetShape, NetLaneState, NetShape, memory_of, net_end, reach_of, role_at, seen_at}
use Rattle.lane_models.specs.NetLaneStep.{NetLaneStep}
use Rattle.lane_models.specs.PortLog.{PortLog, after, log_of_end, no_events}
use Rattle.lane_models.specs.PortState.{OfQueue, OnLane, PortEvent, PortState, PortStep, Receives, before, fresh_port}
use Rattle.lane_models.specs.Spoken.{RangeAck, spoken, spoken_by}
use Rattle.port_laws.specs.Counted.{ActiveCounts, EndCounts, PeerCounts, SaysRightly, unsaid}
use Rattle.port_laws.proofs.EndCounting.{OpenCounts, left_published, left_seen, open_counts, shut_counts, open_empty}
use Rattle.port_laws.proofs.PortCounts.{PortCounts, Ready, guest_acts, hub_acts, port_counts, queue_of, ready_before}
use Rattle.port_laws.proofs.PortRuns.{lawful_on_lane}
use Rattle.port_laws.proofs.PutCounts.{SaidRight}
use Rattle.port_laws.proofs.StepCounts.{Acting, sent_right, took_here}
use Rattle.port_laws.proofs.TookCounts.{TookCounts, free_empty}
use Rattle.port_laws.proofs.LaneMoves.{holds_up}
use Rattle.port_laws.proofs.SlotsFound.{fetched_fits}
use Rattle.lane_models.proofs.Apart.{some_same}

-- EITHER END
pub end_counted : (shape : NetShape) (e : End) (u : PortState) (l : PortLog) → Ready shape u l → EndCounts (role_at e) shape.slots (queue_of e u) (net_end e u.lane) (log_of_end e l)
end_counted shape e u l ready = grind arith

pub end_stood : (shape : NetShape) (e : End) (u : PortState) (l : PortLog) → Ready shape u l → FramesStand (net_end e u.lane)
end_stood shape e u l ready = grind arith

pub end_acts : (shape : NetShape) (e : End) (u : PortState) (l : PortLog) → Ready shape u l → is_up (seen_at e u.lane).state ≡ true
    → Acting (role_at e) shape.slots (queue_of e u) (net_end e u.lane) (log_of_end e l) (transcript_of e l.transcript)
end_acts shape e u l ready up = grind (arith, guest_acts, hub_acts)

-- a log with an open session is that of an end with one
pub record BothOpen (role : Role) (slots : ℕ) (s : NetEndState) (l : EndLog) (v : SessionLog) : Type 0 where
  pub p : NetSession
  pub is : s.session ≡ Some p
  pub open_is : OpenCounts role slots s.groups l.published l.gone (unsaid s) s.link.begun p l.session
  pub same : open_is.of_log ≡ v

pub both_open : (role : Role) (slots : ℕ) (queue : List (List ℕ)) (s : NetEndState) (l : EndLog) (v : SessionLog) → EndCounts role slots queue s l → l.session ≡ Some v → BothOpen role slots s l v
both_open role slots queue s l v counts log = by_session s.session refl
  where
    by_session : (session : Option NetSession) → s.session ≡ session → BothOpen role slots s l v
    by_session None is = none_some v (sym (shut_counts role slots queue s l counts is).is ∙ log)
    by_session (Some p) is =
        let here = open_counts role slots queue s l p counts is in
        record { p = p; is = is; open_is = here; same = some_same (sym here.is ∙ log) }

-- 3. LOST
pub lost_log : (role : Role) (slots : ℕ) (queue : List (List ℕ)) (s : NetEndState) (l : EndLog) → EndCounts role slots queue s l → unseen s.session ≡ lost_in l.session
lost_log role slots queue s l counts = grind (arith, shut_counts, open_counts, left_published, left_seen)

end_lost : (shape : NetShape) (e : End) (u : PortState) (l : PortLog) (lost : ℕ) → Ready shape u l → lost ≡ unseen (net_end e u.lane).session → lost ≡ lost_in (log_of_end e l).session
end_lost shape e u l lost ready is = is ∙ lost_log (role_at e) shape.slots (queue_of e u) (net_end e u.lane) (log_of_end e l) (end_counted shape e u l ready)

lost_event : (shape : NetShape) (u : PortState) (l : PortLog) (event : NetEvent) (t : NetLaneState) → Ready shape u l → NetLaneStep u.lane event t → LostAt l (OnLane event)
lost_event shape u l (Steps e (Joined lost)) t ready step = end_lost shape e u l lost ready step.step.1
lost_event shape u l (Steps e (Reset cause packet lost)) t ready step = end_lost shape e u l lost ready step.step.1
lost_event shape u l (Asked e lost) t ready step = end_lost shape e u l lost ready step.0
lost_event shape u l (Ticked queued lost) t ready step = end_lost shape A u l lost ready step.1.0
lost_event shape u l _ t ready step = tt

-- 3. PUBLISHED
may_publish : (role : Role) (slots : ℕ) (queue : List (List ℕ)) (s : NetEndState) (l : EndLog) (p : NetSession) (frame : List ℕ) (id : ℕ) → EndCounts role slots queue s l → FramesStand s → s.session ≡ Some p
    → slice_get s.frames (unseen_in p) ≡ Some frame → id ≡ p.base + p.published → MayPublish l id
may_publish role slots queue s l p frame id counts stands is next id_is = grind (arith, open_counts, slice_get_within, none_some, length-append, length-drop)

published_event : (shape : NetShape) (u : PortState) (l : PortLog) (event : NetEvent) (t : NetLaneState) → Ready shape u l → NetLaneStep u.lane event t → PublishedAt l (OnLane event)
published_event shape u l (Steps e (Published id)) t ready step =
    let says = says_of (role_at e) (net_end e u.lane) (seen_at e u.lane) (Publishes step.step.session step.step.frame) step.step.rule in
    may_publish (role_at e) shape.slots (queue_of e u) (net_end e u.lane) (log_of_end e l) step.step.session step.step.frame id (end_counted shape e u l ready) (end_stood shape e u l ready)
    says.0.in_session.session says.1 step.step.id_is
published_event shape u l _ t ready step = tt

-- RANGES by their kind
range_test : (k : ℕ) (message : List ℕ) → is_range k message ≡ true → spoken message ≡ spoken_by 0x0042 k
range_test k message is = grind (arith, and_parts, eqb-true)

pub if_range : (k : ℕ) (ended : Option (List ℕ)) (P : List ℕ → Type 0) → ((message : List ℕ) → ended ≡ Some message → spoken message ≡ spoken_by 0x0042 k → P message) → IfMessage (range_in k ended) P
if_range k None P holds = tt
if_range k (Some message) P holds = by_test (is_range k message) refl
  where
    by_test : (b : Bool) → is_range k message ≡ b → IfMessage (range_if b message) P
    by_test b is = grind (arith, range_test)

pub if_session : (log : Option SessionLog) (P : SessionLog → Type 0) → ((v : SessionLog) → log ≡ Some v → P v) → IfSession log P
if_session log P holds = grind arith

pub sent_said : (shape : NetShape) (e : End) (u : PortState) (l : PortLog) (packet : List ℕ) (opens : Bool) (t : NetLaneState) → Ready shape u l → (step : NetLaneStep u.lane (Steps e (Sent packet opens)) t)
    → SaidRight shape.slots step.step.held.groups (log_of_end e l) (ended_by (half_said (transcript_of e l.transcript)) packet)
sent_said shape e u l packet opens t ready step =
    let up : is_up (seen_at e u.lane).state ≡ true =
    holds_up (role_at e) (net_end e u.lane) (seen_at e u.lane) (reach_of e u.lane) (port_rule (role_at e) (net_end e u.lane) (seen_at e u.lane)) step.step.held refl step.step.holds in
    sent_right (role_at e) shape.slots (queue_of e u) (net_end e u.lane) (log_of_end e l) (transcript_of e l.transcript) (seen_at e u.lane) (memory_of e u.lane) (reach_of e u.lane) packet opens step.left
    (end_acts shape e u l ready up) step.step

-- 4. AN INFO, and 5. an ACK
announces_event : (shape : NetShape) (u : PortState) (l : PortLog) (event : NetEvent) (t : NetLaneState) → Ready shape u l → NetLaneStep u.lane event t → AnnouncesAt l (OnLane event)
announces_event shape u l (Steps e (Sent packet opens)) t ready step =
    if_session (log_of_end e l).session _ (λ v log.
    if_range 1 (ended_by (half_said (transcript_of e l.transcript)) packet) (Announces l.shape.slots v) (λ message ended kind.
    subst (λ (x : NetShape). Announces x.slots v message) (sym ready.shape_is)
    (subst (SaysRightly shape.slots step.step.held.groups v message) kind (sent_said shape e u l packet opens t ready step message v ended log))))
announces_event shape u l _ t ready step = tt

acknowledges_event : (shape : NetShape) (u : PortState) (l : PortLog) (event : NetEvent) (t : NetLaneState) → Ready shape u l → NetLaneStep u.lane event t → AcknowledgesAt l (OnLane event)
acknowledges_event shape u l (Steps e (Sent packet opens)) t ready step =
    if_session (log_of_end e l).session _ (λ v log.
    if_range 2 (ended_by (half_said (transcript_of e l.transcript)) packet) (Acknowledges l.shape.slots v) (λ message ended kind.
    subst (λ (x : NetShape). Acknowledges x.slots v message) (sym ready.shape_is)
    (subst (SaysRightly shape.slots step.step.held.groups v message) kind (sent_said shape e u l packet opens t ready step message v ended log))))
acknowledges_event shape u l _ t ready step = tt

-- 4. WHAT IT HEARS goes no further than what is published
pub seen_within : (role : Role) (slots : ℕ) (queue : List (List ℕ)) (s : NetEndState) (l : EndLog) (v : SessionLog) → EndCounts role slots queue s l → FramesStand s → l.session ≡ Some v → v.seen ≤ v.published
seen_within role slots queue s l v counts stands log = grind (arith, both_open, left_published, left_seen)

sees_here : (role : Role) (slots : ℕ) (queue : List (List ℕ)) (s t : NetEndState) (l : EndLog) (turns : List Utterance) (packet : List ℕ) (opens : Bool) (v : SessionLog) (message : List ℕ)
    → EndCounts role slots queue s l → FramesStand t → TookCounts role slots queue s t l turns packet opens 0 → l.session ≡ Some v → ended_by (half_heard turns) packet ≡ Some message
    → spoken message ≡ RangeAck → SeesPublished slots v message
sees_here role slots queue s t l turns packet opens v message counts stands took log ended kind =
    let both = both_open role slots queue s l v counts log in
    let shut : opens ≡ false = took.shut both.p both.is in
    let after : EndCounts role slots queue t (hears_log slots (ended_by (half_heard turns) packet) l) =
    subst (λ (b : Bool). EndCounts role slots queue t (opens_log b 0 (hears_log slots (ended_by (half_heard turns) packet) l))) shut took.counts in
    let now : SessionLog = record v { seen = v.seen + range_of slots message; asking = false } in
    let session : (hears_log slots (ended_by (half_heard turns) packet) l).session ≡ Some now = grind arith in
    seen_within role slots queue t (hears_log slots (ended_by (half_heard turns) packet) l) now after stands session

sees_event : (shape : NetShape) (u : PortState) (l : PortLog) (event : NetEvent) (t : NetLaneState) → Ready shape u l → NetLaneStep u.lane event t → SeesAt l (OnLane event)
sees_event shape u l (Steps e (Took packet opens)) t ready step =
    let says = says_of (role_at e) (net_end e u.lane) (seen_at e u.lane) (Takes packet) step.step.0 in
    let took = took_here (role_at e) shape.slots (queue_of e u) (net_end e u.lane) (log_of_end e l) (transcript_of e l.transcript) (seen_at e u.lane) (memory_of e u.lane) (reach_of e u.lane) packet opens
    step.left 0 (end_acts shape e u l ready says.0.up) step.step in
    let stands = step_stands (role_at e) (net_end e u.lane) (seen_at e u.lane) (memory_of e u.lane) (reach_of e u.lane) (Took packet opens) step.left (end_stood shape e u l ready) step.step in
    if_session (log_of_end e l).session _ (λ v log.
    if_range 2 (ended_by (half_heard (transcript_of e l.transcript)) packet) (SeesPublished l.shape.slots v) (λ message ended kind.
    subst (λ (x : NetShape). SeesPublished x.slots v message) (sym ready.shape_is)
    (sees_here (role_at e) shape.slots (queue_of e u) (net_end e u.lane) step.left.end (log_of_end e l) (transcript_of e l.transcript) packet opens v message (end_counted shape e u l ready) stands took log ended kind)))
sees_event shape u l _ t ready step = tt

-- 5. A FRAME is taken while an INFO isn't answered
pub active_here : (role : Role) (slots : ℕ) (queue : List (List ℕ)) (s : NetEndState) (l : EndLog) (p : NetSession) (activity : Activity) → EndCounts role slots queue s l → s.session ≡ Some p
    → p.active ≡ Some activity → s.link.to_send ≡ [] → (P : SessionLog → Type 0) → ((v : SessionLog) → PeerCounts slots p v → ActiveCounts slots v (Some activity) → P v) → InSession l.session P
active_here role slots queue s l p activity counts is active empty P holds = grind (arith, open_empty)

taking_event : (shape : NetShape) (u : PortState) (l : PortLog) (event : NetEvent) (t : NetLaneState) → Ready shape u l → NetLaneStep u.lane event t → TakingAt l (OnLane event)
taking_event shape u l (Steps e (Frame frame)) t ready step =
    let says = says_of (role_at e) (net_end e u.lane) (seen_at e u.lane) (Fetches step.step.session step.step.activity) step.step.rule in
    grind (arith, fetched_fits, active_here, free_empty)
taking_event shape u l _ t ready step = tt

-- 1. A FRAME THAT IS SENT
pub held_frames : (role : Role) (slots : ℕ) (queue : List (List ℕ)) (s : NetEndState) (l : EndLog) → EndCounts role slots queue s l → held l ≡ length s.frames + length queue
held_frames role slots queue s l counts = omega (arith, ap length counts.frames, length-append s.frames queue, length-drop l.gone l.given)

pub guest_held : (slots : ℕ) (s : NetEndState) (l : EndLog) → EndCounts Initiator slots [] s l → held l ≡ length s.frames
guest_held slots s l counts = omega (arith, held_frames Initiator slots [] s l counts)

-- ALONG EVERY RUN
pub along : (shape : NetShape) (May : PortLog → PortEvent → Type 0) → IsNetShape shape
    → ((s : PortState) (l : PortLog) (event : NetEvent) (t : PortState) → PortCounts shape s l → Ready shape (before event s) l → PortStep s (OnLane event) t → May l (OnLane event))
    → ((l : PortLog) (frame : List ℕ) → May l (Receives frame)) → (events : List PortEvent) (s : PortState) → Run PortStep (fresh_port shape) events s → Lawful May after (no_events shape) events
along shape May is law received events s run =
    lawful_on_lane shape May received (λ xs x event y ran step.
    let counts = port_counts shape xs x is ran in law x _ event y counts (ready_before shape x _ event is counts) step)
    events s run

pub port_lost : (shape : NetShape) (events : List PortEvent) (s : PortState) → IsNetShape shape → Run PortStep (fresh_port shape) events s → Lawful LostAt after (no_events shape) events
port_lost shape events s is run = along shape LostAt is (λ x l event t counts ready step. lost_event shape (before event x) l event t.lane ready step.1) (λ l frame. tt) events s run

pub port_published : (shape : NetShape) (events : List PortEvent) (s : PortState) → IsNetShape shape → Run PortStep (fresh_port shape) events s → Lawful PublishedAt after (no_events shape) events
port_published shape events s is run = along shape PublishedAt is (λ x l event t counts ready step. published_event shape (before event x) l event t.lane ready step.1) (λ l frame. tt) events s run

pub port_announces : (shape : NetShape) (events : List PortEvent) (s : PortState) → IsNetShape shape → Run PortStep (fresh_port shape) events s → Lawful AnnouncesAt after (no_events shape) events
port_announces shape events s is run = along shape AnnouncesAt is (λ x l event t counts ready step. announces_event shape (before event x) l event t.lane ready step.1) (λ l frame. tt) events s run

pub port_acknowledges : (shape : NetShape) (events : List PortEvent) (s : PortState) → IsNetShape shape → Run PortStep (fresh_port shape) events s → Lawful AcknowledgesAt after (no_events shape) events
port_acknowledges shape events s is run =
    along shape AcknowledgesAt is (λ x l event t counts ready step. acknowledges_event shape (before event x) l event t.lane ready step.1) (λ l frame. tt) events s run

pub port_sees : (shape : NetShape) (events : List PortEvent) (s : PortState) → IsNetShape shape → Run PortStep (fresh_port shape) events s → Lawful SeesAt after (no_events shape) events
port_sees shape events s is run = along shape SeesAt is (λ x l event t counts ready step. sees_event shape (before event x) l event t.lane ready step.1) (λ l frame. tt) events s run

pub port_takes : (shape : NetShape) (events : List PortEvent) (s : PortState) → IsNetShape shape → Run PortStep (fresh_port shape) events s → Lawful TakingAt after (no_events shape) events
port_takes shape events s is run = along shape TakingAt is (λ x l event t counts ready step. taking_event shape (before event x) l event t.lane ready step.1) (λ l frame. tt) events s run

admission_event : (shape : NetShape) (s u : PortState) (l : PortLog) (event : NetEvent) (t : PortState) → Ready shape u l → OfQueue s event → NetLaneStep u.lane event t.lane → AdmissionAt l (OnLane event)
admission_event shape s u l event t ready of_queue step = grind (arith, guest_held)

pub port_admits : (shape : NetShape) (events : List PortEvent) (s : PortState) → IsNetShape shape → Run PortStep (fresh_port shape) events s → Lawful AdmissionAt after (no_events shape) events
port_admits shape events s is run = along shape AdmissionAt is (λ x l event t counts ready step. admission_event shape x (before event x) l event t ready step.0 step.1) (λ l frame. tt) events s run

-- WHAT EACH HOLDS
pub guest_holds : (shape : NetShape) (events : List PortEvent) (s : PortState) → IsNetShape shape → Run PortStep (fresh_port shape) events s
    → s.lane.guest.frames ≡ drop (log_of after (no_events shape) events).guest.gone (log_of after (no_events shape) events).guest.given
guest_holds shape events s is run = sym (append-nil s.lane.guest.frames) ∙ (port_counts shape events s is run).guest.frames

pub hub_holds : (shape : NetShape) (events : List PortEvent) (s : PortState) → IsNetShape shape → Run PortStep (fresh_port shape) events s
    → s.lane.hub.frames ++ s.queue ≡ drop (log_of after (no_events shape) events).hub.gone (log_of after (no_events shape) events).hub.given
hub_holds shape events s is run = (port_counts shape events s is run).hub.frames
