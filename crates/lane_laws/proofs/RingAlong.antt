-- The ring along every run of a lane whose sessions agree after every run, and the status of a completion.
use Rattle.std.proofs.Common.{◌≡◌, ℕ, false, List, [], ◌∷◌, ◌++◌, refl, sym, ap, ◌∙◌, subst}
use Rattle.std.specs.Prelude.{⊤}
use Rattle.runs.specs.Lawful.{log_append, log_of, run_lawful}
use Rattle.runs.specs.Run.{Run, run_push}
use Rattle.lane_laws.specs.DiskLog.{DiskLog, after, nothing_yet}
use Rattle.lane_laws.specs.WorkLog.{ClientCounts}
use Rattle.lane_laws.specs.WorkLaws.{Unforged}
use Rattle.lane_models.specs.DiskEvent.{Desc, DiskEvent, Done, Works}
use Rattle.lane_models.specs.LaneState.{IsShape, LaneState, Shape, fresh}
use Rattle.lane_models.specs.LaneStep.{LaneStep}
use Rattle.lane_laws.proofs.CarriedRuns.{AllStand, all_step, fresh_all}
use Rattle.lane_laws.proofs.RingClientSteps.{completes_slot}
use Rattle.lane_laws.proofs.RingRuns.{fresh_ring, known_of, ring_step}
use Rattle.lane_laws.proofs.Agreeing.{always_agree}
use Rattle.lane_laws.proofs.RingWork.{fetches_request}
use Rattle.lane_laws.specs.CompletesSlot.{CompletesSlot}
use Rattle.lane_laws.specs.RingAgreed.{AlwaysAgree, RingStands, SessionsAgree}

pub record Along (shape : Shape) (s : LaneState) (l : DiskLog) : Type 0 where
  pub events : List DiskEvent
  pub run : Run LaneStep (fresh shape) events s
  pub log : l ≡ log_of after (nothing_yet shape) events
  pub all : AllStand s l
  pub ring : RingStands s l

pub along_step : (shape : Shape) → AlwaysAgree shape → (s : LaneState) (l : DiskLog) (event : DiskEvent) (t : LaneState) → Along shape s l → LaneStep s event t → ⊤ × Along shape t (after l event)
along_step shape agree s l event t along step =
    let more : List DiskEvent = along.events ++ event ∷ [] in
    let run : Run LaneStep (fresh shape) more t = run_push LaneStep (fresh shape) s t along.events event along.run step in
    let log : after l event ≡ log_of after (nothing_yet shape) more =
    ap (λ (x : DiskLog). after x event) along.log ∙ sym (log_append after (nothing_yet shape) along.events (event ∷ [])) in
    let before : l.wire.forged ≡ false → SessionsAgree s l =
    subst (λ (x : DiskLog). x.wire.forged ≡ false → SessionsAgree s x) (sym along.log) (agree along.events s along.run) in
    let behind : (after l event).wire.forged ≡ false → SessionsAgree t (after l event) =
    subst (λ (x : DiskLog). x.wire.forged ≡ false → SessionsAgree t x) (sym log) (agree more t run) in
    (tt, record { events = more; run = run; log = log; all = (all_step s l event t along.all step).1; ring = ring_step s l event t along.all before behind along.ring step })

-- THE SLOTS, where the sessions agree: bytes and numbers of each
pub along_run : (shape : Shape) (events : List DiskEvent) (s : LaneState) → IsShape shape → AlwaysAgree shape → Run LaneStep (fresh shape) events s
    → Along shape s (log_of after (nothing_yet shape) events)
along_run shape events s sound agree run =
    (run_lawful LaneStep (λ (l : DiskLog) (e : DiskEvent). ⊤) after (Along shape) (along_step shape agree) (fresh shape) s (nothing_yet shape) events
    (record { events = []; run = refl; log = refl; all = fresh_all shape sound; ring = fresh_ring shape sound }) run).1

pub ring_along : (shape : Shape) (events : List DiskEvent) (s : LaneState) → IsShape shape → AlwaysAgree shape → Run LaneStep (fresh shape) events s
    → RingStands s (log_of after (nothing_yet shape) events)
ring_along shape events s sound agree run = (along_run shape events s sound agree run).ring

-- THE STATUS of a completion is that with which the server ended the descriptor of the slot
pub status_along : (shape : Shape) (events : List DiskEvent) (s t : LaneState) (id operation status : ℕ) (bytes : List ℕ) → IsShape shape → AlwaysAgree shape
    → Run LaneStep (fresh shape) events s → LaneStep s (Works (Done id operation status bytes)) t → (log_of after (nothing_yet shape) events).wire.forged ≡ false
    → (k : ClientCounts) × CompletesSlot s (log_of after (nothing_yet shape) events) id status k
status_along shape events s t id operation status bytes sound agree run step clean =
    let along = along_run shape events s sound agree run in
    let l = log_of after (nothing_yet shape) events in
    completes_slot s l id operation status bytes t (known_of s l along.all along.ring (agree events s run clean) clean) step

-- WITHOUT A PREMISE, as the sessions agree after every run
pub run_ring : (shape : Shape) (events : List DiskEvent) (s : LaneState) → IsShape shape → Run LaneStep (fresh shape) events s → RingStands s (log_of after (nothing_yet shape) events)
run_ring shape events s sound run = ring_along shape events s sound (always_agree shape sound) run

pub run_status : (shape : Shape) (events : List DiskEvent) (s t : LaneState) (id operation status : ℕ) (bytes : List ℕ) → IsShape shape → Run LaneStep (fresh shape) events s
    → LaneStep s (Works (Done id operation status bytes)) t → (log_of after (nothing_yet shape) events).wire.forged ≡ false
    → (k : ClientCounts) × CompletesSlot s (log_of after (nothing_yet shape) events) id status k
run_status shape events s t id operation status bytes sound run step clean = status_along shape events s t id operation status bytes sound (always_agree shape sound) run step clean

-- a descriptor that is fetched
pub run_fetches : (shape : Shape) (events : List DiskEvent) (s t : LaneState) (slot : ℕ) (bytes : List ℕ) → IsShape shape → Run LaneStep (fresh shape) events s
    → LaneStep s (Works (Desc slot bytes)) t → (log_of after (nothing_yet shape) events).wire.forged ≡ false
    → Unforged (log_of after (nothing_yet shape) events) (Works (Desc slot bytes))
run_fetches shape events s t slot bytes sound run step clean =
    let l = log_of after (nothing_yet shape) events in
    let more : List DiskEvent = events ++ Works (Desc slot bytes) ∷ [] in
    let agree = always_agree shape sound in
    let along = along_run shape events s sound agree run in
    let behind : log_of after (nothing_yet shape) more ≡ after l (Works (Desc slot bytes)) = log_append after (nothing_yet shape) events (Works (Desc slot bytes) ∷ []) in
    let then_run : Run LaneStep (fresh shape) more t = run_push LaneStep (fresh shape) s t events (Works (Desc slot bytes)) run step in
    let agreed : SessionsAgree t (after l (Works (Desc slot bytes))) =
    subst (SessionsAgree t) behind (agree more t then_run (ap (λ (x : DiskLog). x.wire.forged) behind ∙ clean)) in
    fetches_request s l slot bytes t (known_of s l along.all along.ring (agree events s run clean) clean) agreed step
