-- After a quiet round both ends of a lane are still by its log, whose entries leave out its silent steps.
use Rattle.std.proofs.Common.{◌≡◌, ◌⊎◌, ℕ, Bool, true, false, List, [], ◌∷◌, ◌++◌, Option, refl, sym, ap, ◌∙◌, arith}
use Rattle.std.specs.Prelude.{if◌then◌else◌, ⊤}
use Rattle.runs.specs.Lawful.{log_append, log_of}
use Rattle.runs.specs.Run.{Run, run_append}
use Rattle.world_parts.specs.lane_laws.Agreement.{AgreesWithLog}
use Rattle.world_parts.specs.lane_laws.DiskLog.{DiskLog, after, nothing_yet}
use Rattle.world_parts.specs.lane_laws.QuietLaws.{ClientIsIdle, EndIsIdle}
use Rattle.world_parts.specs.lane_laws.WorkLaws.{IfClient}
use Rattle.world_parts.specs.lane_laws.WorkLog.{ClientCounts}
use Rattle.world_parts.specs.lane_models.DiskEvent.{DiskEvent}
use Rattle.world_parts.specs.lane_models.LaneState.{IsShape, LaneState, Shape, fresh}
use Rattle.world_parts.specs.lane_models.LaneStep.{LaneStep}
use Rattle.world_parts.proofs.lane_laws.AgreementRuns.{run_agrees}
use Rattle.world_parts.specs.lane_laws.CalmEnds.{AreStill, IsStill}
use Rattle.lane_kinds.proofs.Sums.{and_left, and_right}
use Rattle.world_parts.proofs.world_laws.LaneRounds.{quiet_still}
use Rattle.world_parts.proofs.domain_laws.LineEntries.{EachEntry}
use Rattle.world_parts.specs.world_laws.Along.{event_at, happened}
use Rattle.world_parts.specs.world_laws.DiskKind.{disk_kind, is_calm}
use Rattle.world_parts.specs.world_laws.Rounds.{LaneRound, MakesRound, are_quiet, is_quiet}
use Rattle.world_parts.specs.world_laws.Settle.{OfLane, SettleEntry, disk_entries, round_entries}
use Rattle.ldc_queue.specs.declared.end.End.{End}
use Rattle.ldc_queue.specs.declared.end.End.TheVariants.{B}
use Rattle.script_laws.proofs.CalmRounds.{calm_entries}
use Rattle.script_laws.specs.Still.{AreStillBy, IsStillBy}

-- BY THE LOG of a lane, where another log has the same work
idle_client : (l m : DiskLog) (c : Option ClientCounts) → m.work ≡ l.work → IfClient c (ClientIsIdle m)
    → IfClient c (ClientIsIdle l)
idle_client l m c same idle = grind arith

idle_by : (e : End) (l m : DiskLog) → m.work ≡ l.work → EndIsIdle e m → EndIsIdle e l
idle_by e l m same idle = grind arith

server_still : (s : LaneState) (m l : DiskLog) → m.work ≡ l.work → AgreesWithLog s l
    → (s.stopped ≡ true) ⊎ IsStill B s m → (l.work.stopped ≡ true) ⊎ IsStillBy B l
server_still s m l work agrees given = grind arith

both_still : (s : LaneState) (m l : DiskLog) → m.work ≡ l.work → AgreesWithLog s l → AreStill s m → AreStillBy l
both_still s m l work agrees given = grind arith

-- CALM EVENTS leave the work as it was
calm_work : (l : DiskLog) (event : DiskEvent) → is_calm event ≡ true → (after l event).work ≡ l.work
calm_work l event calm = grind arith

abbrev pub IsCalmEntry : SettleEntry → Type 0
IsCalmEntry (OfLane k event) = is_calm event ≡ true
IsCalmEntry _ = ⊤

pub calm_round : (k : ℕ) (rounds : List LaneRound) → are_quiet rounds ≡ true
    → EachEntry IsCalmEntry (round_entries k rounds)
calm_round k rounds quiet = calm_entries disk_kind disk_entries IsCalmEntry (λ j event calm. calm) k rounds quiet

calm_events : (l : DiskLog) (events : LaneRound) → is_quiet events ≡ true → (log_of after l events).work ≡ l.work
calm_events l [] quiet = refl
calm_events l (event ∷ events) quiet =
    calm_events (after l event) events (and_right (is_calm event) (is_quiet events) quiet)
    ∙ calm_work l event (and_left (is_calm event) (is_quiet events) quiet)

calm_at : (c : Bool) (l : DiskLog) (event : DiskEvent) → is_calm event ≡ true
    → (log_of after l (if c then event ∷ [] else [])).work ≡ l.work
calm_at true l event calm = calm_work l event calm
calm_at false l event calm = refl

calm_log : (x : ℕ) (l : DiskLog) (part : List SettleEntry) → EachEntry IsCalmEntry part
    → (log_of after l (happened x part)).work ≡ l.work
calm_log x l [] calm = refl
calm_log x l (OfLane j event ∷ part) calm = grind (arith, calm_at, calm_log x (log_of after l (event_at x (OfLane j event))) part calm.1)
calm_log x l (entry ∷ part) calm = calm_log x l part calm.1

-- BEHIND A QUIET ROUND
pub still_by : (shape : Shape) (events : List DiskEvent) (s : LaneState) (r : LaneRound) (t : LaneState) (x : ℕ)
    (part : List SettleEntry) → IsShape shape → Run LaneStep (fresh shape) events s → MakesRound s r t
    → is_quiet r ≡ true → EachEntry IsCalmEntry part → Run LaneStep s (happened x part) t
    → AreStillBy (log_of after (nothing_yet shape) (events ++ happened x part))
still_by shape events s r t x part sound run made quiet calm moved =
    let first : DiskLog = log_of after (nothing_yet shape) events in
    let whole : Run LaneStep (fresh shape) (events ++ happened x part) t =
    run_append LaneStep (fresh shape) s t events (happened x part) run moved in
    let entries : (log_of after (nothing_yet shape) (events ++ happened x part)).work ≡ first.work =
    ap (λ (m : DiskLog). m.work) (log_append after (nothing_yet shape) events (happened x part))
    ∙ calm_log x first part calm in
    both_still t (log_of after first r)
    (log_of after (nothing_yet shape) (events ++ happened x part)) (calm_events first r quiet ∙ sym entries)
    (run_agrees shape (events ++ happened x part) t sound whole) (quiet_still s r t made quiet shape events sound run)
