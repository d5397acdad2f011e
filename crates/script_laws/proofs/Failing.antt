-- A disk's state says whether a call of its store failed, and so do its events.
use Rattle.std.proofs.Common.{◌≡◌, ◌↔◌, false, List, [], ◌∷◌, sym, ap, ◌∙◌, arith}
use Rattle.runs.specs.Run.{Run}
use Rattle.world_parts.specs.lane_models.DiskEvent.{DiskEvent}
use Rattle.world_parts.specs.lane_models.LaneState.{LaneState, Shape, fresh}
use Rattle.world_parts.specs.lane_models.LaneStep.{LaneStep}
use Rattle.world_parts.proofs.lane_laws.FailedRuns.{failed_before, stored_well}
use Rattle.script_laws.specs.Contents.{NoStoreFailed}
use Rattle.world_parts.proofs.world_laws.FailedStays.{failed_stays}
use Rattle.world_parts.specs.world_laws.Failures.{is_failed_store}

-- ONE EVENT
event_well : (s : LaneState) (event : DiskEvent) (t : LaneState) → LaneStep s event t → t.failed ≡ false
    → is_failed_store event ≡ false
event_well s event t step well = grind (arith, stored_well)

-- A RUN that leads to a lane none of whose calls failed, and one that leads from it
none_failed : (s : LaneState) (events : List DiskEvent) (t : LaneState) → Run LaneStep s events t → t.failed ≡ false
    → (s.failed ≡ false) × NoStoreFailed events
none_failed s [] t run well = (ap (λ (l : LaneState). l.failed) run ∙ well, tt)
none_failed s (event ∷ events) t run well = grind (arith, failed_before, event_well, none_failed run.0 events t run.2 well)

stays_well : (s : LaneState) (events : List DiskEvent) (t : LaneState) → Run LaneStep s events t → s.failed ≡ false
    → NoStoreFailed events → t.failed ≡ false
stays_well s [] t run well none = sym (ap (λ (l : LaneState). l.failed) run) ∙ well
stays_well s (event ∷ events) t run well none =
    stays_well run.0 events t run.2 (failed_stays s event run.0 run.1 none.0 well) none.1

pub fails_by_events : (shape : Shape) (events : List DiskEvent) (s : LaneState) → Run LaneStep (fresh shape) events s
    → (s.failed ≡ false) ↔ NoStoreFailed events
fails_by_events shape events s run = grind (arith, none_failed, stays_well)
