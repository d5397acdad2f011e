-- Each run of a port with its out queue is one of two ends on a channel, in the same log.
use Rattle.std.proofs.Common.{◌≡◌, ℕ, Option, Some, None, List, [], ◌∷◌, ◌++◌, refl, sym, subst, ap, ◌∙◌, arith}
use Rattle.runs.specs.Lawful.{Lawful, log_append, log_of, run_lawful}
use Rattle.runs.specs.Run.{Run, run_keeps, run_push}
use Rattle.lane_models.specs.TranscriptLog.{TranscriptLog}
use Rattle.lane_models.specs.WireEvent.{WireEvent}
use Rattle.lane_models.specs.CoreLog as core
use Rattle.lane_models.specs.LaneCore.{CoreEvent, CoreStep, transcript_after, transcript_behind}
use Rattle.lane_models.proofs.Moving.{before_keeps}
use Rattle.lane_models.specs.NetEvent.{NetEvent}
use Rattle.lane_models.specs.NetLaneState.{NetShape}
use Rattle.lane_models.specs.PortLog.{PortLog, after, no_events, spoken_on}
use Rattle.lane_models.specs.PortState.{OnLane, PortEvent, PortState, PortStep, Receives, before, fresh_port}
use Rattle.port_laws.specs.NetCore.{core_event, event_core, fresh_net_core, lane_core}
use Rattle.port_laws.specs.PortCore.{port_core, port_event, port_events}
use Rattle.port_laws.proofs.Fitting.{BothFit, event_fits}
use Rattle.port_laws.proofs.LaneMoves.{event_core_step, fresh_fits, still, wire_same}

-- A FRAME THAT MOVES from the queue to the switch's end is none of the channel's
pub before_core : (event : NetEvent) (s : PortState) → lane_core (before event s).lane ≡ lane_core s.lane
before_core event s = before_keeps (λ (x : PortState). lane_core x.lane ≡ lane_core s.lane) event s (λ frame frames. refl) refl

pub before_guest : (event : NetEvent) (s : PortState) → (before event s).lane.guest ≡ s.lane.guest
before_guest event s = before_keeps (λ (x : PortState). x.lane.guest ≡ s.lane.guest) event s (λ frame frames. refl) refl

abbrev pub PortFits : PortState → Type 0
PortFits s = BothFit s.lane

pub before_fits : (event : NetEvent) (s : PortState) → BothFit s.lane → BothFit (before event s).lane
before_fits event s fits = before_keeps PortFits event s (λ frame frames. (fits.0, record { groups = fits.1.groups; session = fits.1.session })) fits

pub port_fits : (s : PortState) (event : PortEvent) (t : PortState) → PortStep s event t → PortFits s → PortFits t
port_fits s event t step given = grind (arith, event_fits, before_fits)

pub port_step_core : (s : PortState) (event : PortEvent) (t : PortState) → PortFits s → PortStep s event t → CoreStep (port_core s) (port_event event) (port_core t)
port_step_core s (OnLane event) t fits step =
    subst (λ x. CoreStep x (core_event event) (port_core t)) (before_core event s) (event_core_step (before event s).lane event t.lane (before_fits event s fits) step.1)
port_step_core s (Receives frame) t fits step = grind (arith, still)

-- A RUN
pub port_run_core : (s t : PortState) (events : List PortEvent) → PortFits s → Run PortStep s events t → Run CoreStep (port_core s) (port_events events) (port_core t)
port_run_core s t [] fits run = ap port_core run
port_run_core s t (event ∷ events) fits run =
    (port_core run.0, port_step_core s event run.0 fits run.1, port_run_core run.0 t events (port_fits s event run.0 run.1 fits) run.2)

pub fresh_port_core : (shape : NetShape) (events : List PortEvent) (s : PortState) → Run PortStep (fresh_port shape) events s
    → Run CoreStep (fresh_net_core shape) (port_events events) (port_core s)
fresh_port_core shape events s run = port_run_core (fresh_port shape) s events (fresh_fits shape) run

pub port_fits_behind : (shape : NetShape) (events : List PortEvent) (s : PortState) → Run PortStep (fresh_port shape) events s → PortFits s
port_fits_behind shape events s run = run_keeps PortStep PortFits port_fits (fresh_port shape) s events run (fresh_fits shape)

-- THE SAME LOG
spoken_same : (l : TranscriptLog) (event : Option WireEvent) → spoken_on l event ≡ transcript_after l (event_core event)
spoken_same l event = grind arith

-- what the channel's log and the port's have both
pub record SameLog (c : core.CoreLog) (l : PortLog) : Type 0 where
  pub entries : c.entries ≡ l.shape.entries
  pub wire : c.wire ≡ l.wire
  pub transcript : c.transcript ≡ l.transcript

same_after : (c : core.CoreLog) (l : PortLog) (event : PortEvent) → SameLog c l → SameLog (core.after c (port_event event)) (after l event)
same_after c l event same = grind (arith, wire_same, spoken_same)

same_log : (events : List PortEvent) (c : core.CoreLog) (l : PortLog) → SameLog c l → SameLog (log_of core.after c (port_events events)) (log_of after l events)
same_log [] c l same = same
same_log (event ∷ events) c l same = same_log events (core.after c (port_event event)) (after l event) (same_after c l event same)

pub logs_same : (shape : NetShape) (events : List PortEvent) → SameLog (log_of core.after (core.nothing_yet shape.entries) (port_events events)) (log_of after (no_events shape) events)
logs_same shape events = same_log events (core.nothing_yet shape.entries) (no_events shape) (record { entries = refl; wire = refl; transcript = refl })

-- the transcript alone
spoken_log : (events : List CoreEvent) (c : core.CoreLog) → (log_of core.after c events).transcript ≡ log_of transcript_after c.transcript events
spoken_log [] c = refl
spoken_log (event ∷ events) c = spoken_log events (core.after c event)

pub spoken_behind : (shape : NetShape) (events : List PortEvent) → transcript_behind (port_events events) ≡ (log_of after (no_events shape) events).transcript
spoken_behind shape events = sym (spoken_log (port_events events) (core.nothing_yet shape.entries)) ∙ (logs_same shape events).transcript

-- A LAW OF THE CHANNEL at each event, in the port's log
pub lawful_here : (CoreMay : core.CoreLog → CoreEvent → Type 0) (May : PortLog → PortEvent → Type 0)
    → ((c : core.CoreLog) (l : PortLog) (event : PortEvent) → SameLog c l → CoreMay c (port_event event) → May l event)
    → (events : List PortEvent) (c : core.CoreLog) (l : PortLog) → SameLog c l → Lawful CoreMay core.after c (port_events events) → Lawful May after l events
lawful_here CoreMay May means [] c l same lawful = tt
lawful_here CoreMay May means (event ∷ events) c l same lawful =
    (means c l event same lawful.0, lawful_here CoreMay May means events (core.after c (port_event event)) (after l event) (same_after c l event same) lawful.1)

-- A LAW OF AN EVENT behind a run holds at each event of a run
record Behind (shape : NetShape) (s : PortState) (l : PortLog) : Type 0 where
  events : List PortEvent
  run : Run PortStep (fresh_port shape) events s
  log : l ≡ log_of after (no_events shape) events

pub lawful_along : (shape : NetShape) (May : PortLog → PortEvent → Type 0)
    → ((events : List PortEvent) (s : PortState) (event : PortEvent) (t : PortState) → Run PortStep (fresh_port shape) events s → PortStep s event t
    → May (log_of after (no_events shape) events) event)
    → (events : List PortEvent) (s : PortState) → Run PortStep (fresh_port shape) events s → Lawful May after (no_events shape) events
lawful_along shape May law events s run =
    let one_more : (s : PortState) (l : PortLog) (event : PortEvent) (t : PortState) → Behind shape s l → PortStep s event t → May l event × Behind shape t (after l event) = λ s l event t behind step. (
      subst (λ (x : PortLog). May x event) (sym behind.log) (law behind.events s event t behind.run step),
      record {
        events = behind.events ++ event ∷ [];
        run = run_push PortStep (fresh_port shape) s t behind.events event behind.run step;
        log = ap (λ (x : PortLog). after x event) behind.log ∙ sym (log_append after (no_events shape) behind.events (event ∷ []));
      },
    ) in
    (run_lawful PortStep May after (Behind shape) one_more (fresh_port shape) s (no_events shape) events (record { events = []; run = refl; log = refl }) run).0

-- the same where each event on the lane has it, and each frame that the queue receives
pub lawful_on_lane : (shape : NetShape) (May : PortLog → PortEvent → Type 0)
    → ((l : PortLog) (frame : List ℕ) → May l (Receives frame))
    → ((events : List PortEvent) (s : PortState) (event : NetEvent) (t : PortState)
    → Run PortStep (fresh_port shape) events s → PortStep s (OnLane event) t
    → May (log_of after (no_events shape) events) (OnLane event))
    → (events : List PortEvent) (s : PortState) → Run PortStep (fresh_port shape) events s
    → Lawful May after (no_events shape) events
lawful_on_lane shape May received law events s run = lawful_along shape May at_event events s run
  where
    at_event : (events : List PortEvent) (s : PortState) (event : PortEvent) (t : PortState)
        → Run PortStep (fresh_port shape) events s → PortStep s event t → May (log_of after (no_events shape) events) event
    at_event events s (OnLane event) t run step = law events s event t run step
    at_event events s (Receives frame) t run step = received (log_of after (no_events shape) events) frame

-- what holds with a value and without
pub by_option : {X P : Type 0} (option : Option X) → ((x : X) → option ≡ Some x → P) → (option ≡ None → P) → P
by_option {X} {P} (Some x) some none = some x refl
by_option {X} {P} None some none = none refl
