-- Along every run of a lane that nobody forged: its near counts stand to its log; and while no store failed, its buffers and its server hold
-- what was asked.
use Rattle.std.proofs.Common.{◌≡◌, ℕ, Bool, false, List, [], refl, sym, ap, ◌∙◌, subst, arith}
use Rattle.std.specs.Prelude.{⊤}
use Rattle.runs.specs.Lawful.{log_of, run_lawful}
use Rattle.runs.specs.Run.{Run}
use Rattle.ldc_queue.specs.declared.end.ChannelState.TheVariants.{Up}
use Rattle.lane_models.specs.WireLog.{WireLog}
use Rattle.lane_laws.specs.DiskLog.{DiskLog, after, nothing_yet}
use Rattle.lane_models.specs.DiskEvent.{Asks, Desc, DiskEvent, Done, Finished, Misplaced, Moved, OnWire, Published, Calms, Stored, Switches, Works}
use Rattle.lane_models.specs.LaneState.{IsShape, LaneState, Shape, fresh}
use Rattle.lane_models.specs.LaneStep.{LaneStep, ServerWorks}
use Rattle.lane_laws.proofs.Agreeing.{always_agree, server_alive}
use Rattle.lane_laws.proofs.CarriedRuns.{all_step}
use Rattle.lane_laws.proofs.LaneCounting.{run_knows}
use Rattle.lane_laws.proofs.RingAlong.{Along, along_run, along_step}
use Rattle.lane_laws.proofs.RingRuns.{before as clean_before, known_of}
use Rattle.lane_laws.proofs.SlotsAlong.{facts_at, run_slots}
use Rattle.lane_laws.proofs.SlotsStepping.{StepFacts}
use Rattle.lane_laws.specs.Standing.{LaneInvariant}
use Rattle.lane_laws.specs.Contents.{ContentsStand}
use Rattle.lane_laws.specs.LaneView.{view_of}
use Rattle.lane_laws.proofs.CallChanges.{asks_changes, calm_changes, turn_changes, wire_changes}
use Rattle.lane_laws.proofs.FailedRuns.{failed_before, stored_well}
use Rattle.lane_laws.proofs.DoneChanges.{done_changes, finished_changes, published_changes}
use Rattle.lane_laws.proofs.PlacedViews.{placed}
use Rattle.lane_laws.proofs.ServerChanges.{moved_changes}
use Rattle.lane_laws.proofs.Standing.{Before, NearStands}
use Rattle.lane_laws.proofs.StoreChanges.{fetched_changes, stored_changes}
use Rattle.lane_laws.proofs.WireChanges.{Changed}
use Rattle.lane_laws.proofs.WireCounts.{near_wire}
use Rattle.lane_laws.proofs.WorkCounts.{near_asked, near_calm, near_turned, near_work}
use Rattle.lane_laws.proofs.WorkSteps.{kind_contents}

-- EACH EVENT but a unit's store, as a change of the view
abbrev pub NotStored : DiskEvent → Type 0
NotStored (Works (Stored operation block count failed)) = ⊥
NotStored _ = ⊤

pub lane_changes : (s : LaneState) (l : DiskLog) (event : DiskEvent) (t : LaneState) → Before s l → ContentsStand (view_of s) → StepFacts s l event t → (after l event).wire.forged ≡ false
    → NotStored event → LaneStep s event t → Changed s event t
lane_changes s l (OnWire event) t before contents facts clean not step = wire_changes s l event t before contents facts clean step
lane_changes s l (Asks event) t before contents facts clean not step = asks_changes s event t step
lane_changes s l (Works (Published id)) t before contents facts clean not step = published_changes s l id t before step
lane_changes s l (Works (Done id operation status bytes)) t before contents facts clean not step = done_changes s l id operation status bytes t before step
lane_changes s l (Works (Desc slot bytes)) t before contents facts clean not step = fetched_changes s l slot bytes t before facts step
lane_changes s l (Works (Moved unit fault)) t before contents facts clean not step = moved_changes s l unit fault t before contents step
lane_changes s l (Works (Finished slot status)) t before contents facts clean not step = finished_changes s l slot status t before step
lane_changes s l (Works (Stored operation block count failed)) t before contents facts clean not step = absurd not
lane_changes s l (Works Misplaced) t before contents facts clean not step = absurd step
lane_changes s l (Switches event) t before contents facts clean not step = turn_changes s l event t before contents step
lane_changes s l (Calms event) t before contents facts clean not step = calm_changes s event t step

-- THE COUNTS after an event
near_behind : (s : LaneState) (l : DiskLog) (event : DiskEvent) (t : LaneState) → Before s l → StepFacts s l event t → LaneInvariant t (after l event) → LaneStep s event t → NearStands t (after l event)
near_behind s l (OnWire event) t before facts behind step = near_wire s l event t before facts behind step
near_behind s l (Asks event) t before facts behind step = near_asked s l event t before step
near_behind s l (Works event) t before facts behind step = near_work s l event t before step
near_behind s l (Switches event) t before facts behind step = near_turned s l event t before step
near_behind s l (Calms event) t before facts behind step = near_calm s l event t before step

-- THE CONTENTS after it
store_contents : (s : LaneState) (l : DiskLog) (operation block count : ℕ) (failed : Bool) (gave : List ℕ) (t : LaneState) → Before s l → ContentsStand (view_of s) → failed ≡ false
    → ServerWorks s gave (Stored operation block count failed) t → ContentsStand (view_of t)
store_contents s l operation block count failed gave t before contents well step =
    let here : ServerWorks s gave (Stored operation block count false) t = subst (λ (f : Bool). ServerWorks s gave (Stored operation block count f) t) well step in
    let change = stored_changes s l operation block count gave t before contents here in
    kind_contents change.kind s.client.blocks (view_of s) (view_of t) (placed s l before) change.change contents

changed_contents : (s : LaneState) (l : DiskLog) (event : DiskEvent) (t : LaneState) → Before s l → ContentsStand (view_of s) → Changed s event t → ContentsStand (view_of t)
changed_contents s l event t before contents change = kind_contents change.kind s.client.blocks (view_of s) (view_of t) (placed s l before) change.change contents

contents_behind : (s : LaneState) (l : DiskLog) (event : DiskEvent) (t : LaneState) → Before s l → ContentsStand (view_of s) → StepFacts s l event t → (after l event).wire.forged ≡ false → t.failed ≡ false
    → LaneStep s event t → ContentsStand (view_of t)
contents_behind s l (Works (Stored operation block count failed)) t before contents facts clean well step =
    store_contents s l operation block count failed step.0 t before contents (stored_well s step.0 operation block count failed t step.1 well) step.1
contents_behind s l (Works Misplaced) t before contents facts clean well step = absurd step
contents_behind s l event t before contents facts clean well step =
    changed_contents s l event t before contents (lane_changes s l event t before contents facts clean tt step)

-- ALONG A RUN
pub before_of : (shape : Shape) (events : List DiskEvent) (s : LaneState) → IsShape shape → Run LaneStep (fresh shape) events s → (log_of after (nothing_yet shape) events).wire.forged ≡ false
    → NearStands s (log_of after (nothing_yet shape) events) → Before s (log_of after (nothing_yet shape) events)
before_of shape events s sound run clean near =
    let l = log_of after (nothing_yet shape) events in
    let agree = always_agree shape sound in
    let along = along_run shape events s sound agree run in
    let wire = along.all.stands.wire in
    record {
      knows = run_knows shape events s sound run;
      known = known_of s l along.all along.ring (agree events s run clean) clean;
      order = run_slots shape events s sound run clean;
      near = near;
      alive = λ d up is.
          subst (λ (w : WireLog). w.wire.end_a ≡ Up) wire
          (server_alive shape events s sound run (ap (λ (w : WireLog). w.forged) wire ∙ clean) (subst (λ (w : WireLog). w.wire.end_b ≡ Up) (sym wire) up) d is);
    }

pub record AlongContents (shape : Shape) (s : LaneState) (l : DiskLog) : Type 0 where
  pub along : Along shape s l
  pub near : l.wire.forged ≡ false → NearStands s l
  pub contents : l.wire.forged ≡ false → s.failed ≡ false → ContentsStand (view_of s)

-- what is known of a step after a run
pub record AtStep (s : LaneState) (l : DiskLog) (event : DiskEvent) (t : LaneState) : Type 0 where
  pub before : Before s l
  pub facts : StepFacts s l event t
  pub behind : LaneInvariant t (after l event)

pub at_step : (shape : Shape) → IsShape shape → (s : LaneState) (l : DiskLog) (event : DiskEvent) (t : LaneState) → AlongContents shape s l → LaneStep s event t → (after l event).wire.forged ≡ false
    → AtStep s l event t
at_step shape sound s l event t holds step clean =
    let along = holds.along in
    let log = along.log in
    let events = along.events in
    let here : Along shape s (log_of after (nothing_yet shape) events) = subst (Along shape s) log along in
    let clean_here = clean_before l event clean in
    record {
      before =
          subst (Before s) (sym log)
          (before_of shape events s sound along.run (sym (ap (λ (x : DiskLog). x.wire.forged) log) ∙ clean_here) (subst (NearStands s) log (holds.near clean_here)));
      facts =
          subst (λ (x : DiskLog). StepFacts s x event t) (sym log)
          (facts_at shape events s event t sound here along.run step (subst (λ (x : DiskLog). (after x event).wire.forged ≡ false) log clean));
      behind = (all_step s l event t along.all step).1.stands;
    }

pub contents_step : (shape : Shape) → IsShape shape → (s : LaneState) (l : DiskLog) (event : DiskEvent) (t : LaneState) → AlongContents shape s l → LaneStep s event t → ⊤ × AlongContents shape t (after l event)
contents_step shape sound s l event t holds step = (
  tt,
  record {
    along = (along_step shape (always_agree shape sound) s l event t holds.along step).1;
    near = λ clean. let at = at_step shape sound s l event t holds step clean in near_behind s l event t at.before at.facts at.behind step;
    contents = λ clean well.
        let at = at_step shape sound s l event t holds step clean in
        contents_behind s l event t at.before (holds.contents (clean_before l event clean) (failed_before s event t step well)) at.facts clean well step;
  },
)

fresh_near : (shape : Shape) → NearStands (fresh shape) (nothing_yet shape)
fresh_near shape = grind arith

fresh_contents : (shape : Shape) → ContentsStand (view_of (fresh shape))
fresh_contents shape = grind arith

pub run_contents : (shape : Shape) (events : List DiskEvent) (s : LaneState) → IsShape shape → Run LaneStep (fresh shape) events s → AlongContents shape s (log_of after (nothing_yet shape) events)
run_contents shape events s sound run =
    (run_lawful LaneStep (λ (l : DiskLog) (e : DiskEvent). ⊤) after (AlongContents shape) (contents_step shape sound) (fresh shape) s (nothing_yet shape) events
    (record {
      along = along_run shape [] (fresh shape) sound (always_agree shape sound) refl;
      near = λ clean. fresh_near shape;
      contents = λ clean well. fresh_contents shape;
    }) run).1
