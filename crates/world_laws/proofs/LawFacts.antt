-- What is known of an event of a lane in the log of those before it: all laws of a lane, and where nobody forged, that the slot of a
-- completion is DONE with its status.
use Rattle.std.proofs.Common.{◌≡◌, ℕ, ◌-◌, ◌%◌, false, List, [], ◌∷◌, ◌++◌, Some, sym, ap, ◌∙◌, arith}
use Rattle.std.specs.Prelude.{⊤, slice_get}
use Rattle.runs.specs.Lawful.{Lawful, lawful_split, log_of}
use Rattle.runs.specs.Run.{Run, run_push}
use Rattle.lane_models.specs.WireLog.{WireLog}
use Rattle.lane_laws.specs.DiskLog.{DiskLog, after, nothing_yet}
use Rattle.lane_laws.specs.May.{May}
use Rattle.lane_laws.specs.RingLog.{Done as IsDone}
use Rattle.lane_laws.specs.WorkLog.{ClientCounts}
use Rattle.lane_models.specs.DiskEvent.{DiskEvent, Done, Worked, Works}
use Rattle.lane_models.specs.LaneState.{IsShape, LaneState, Shape, fresh}
use Rattle.lane_models.specs.LaneStep.{LaneStep}
use Rattle.lane_laws.proofs.RingAlong.{run_status}
use Rattle.lane_laws.proofs.RingRuns.{before}
use Rattle.lane_laws.proofs.AgreementRuns.{run_agrees}
use Rattle.lane_laws.proofs.AlongRuns.{OfEachRun, reached_lawful}
use Rattle.lane_laws.proofs.EveryRun.{every_run}

-- the slot of the first request that isn't done
pub record FreesSlot (l : DiskLog) (id status : ℕ) : Type 0 where
  pub client : ClientCounts
  pub open_is : l.work.client ≡ Some client
  pub done_is : slice_get l.ring ((l.work.done - client.base) % l.shape.slots) ≡ Some (IsDone id status)

abbrev pub SlotAt : DiskLog → DiskEvent → Type 0
SlotAt l (Works (Done id operation status bytes)) = FreesSlot l id status
SlotAt l _ = ⊤

pub record Facts (l : DiskLog) (event : DiskEvent) : Type 0 where
  pub may : May l event
  pub slot : l.wire.forged ≡ false → SlotAt l event

slot_worked : (shape : Shape) → IsShape shape → (events : List DiskEvent) (s : LaneState) (event : Worked) (t : LaneState) → Run LaneStep (fresh shape) events s → LaneStep s (Works event) t
    → (log_of after (nothing_yet shape) events).wire.forged ≡ false → SlotAt (log_of after (nothing_yet shape) events) (Works event)
slot_worked shape sound events s (Done id operation status bytes) t run step clean =
    let found = run_status shape events s t id operation status bytes sound run step clean in
    record { client = found.0; open_is = found.1.open_is; done_is = found.1.done_is }
slot_worked shape sound events s event t run step clean = grind arith

slot_at : (shape : Shape) → IsShape shape → (events : List DiskEvent) (s : LaneState) (event : DiskEvent) (t : LaneState) → Run LaneStep (fresh shape) events s → LaneStep s event t
    → (log_of after (nothing_yet shape) events).wire.forged ≡ false → SlotAt (log_of after (nothing_yet shape) events) event
slot_at shape sound events s event t run step clean = grind (arith, slot_worked)

facts_at : (shape : Shape) → IsShape shape → OfEachRun Facts shape
facts_at shape sound events s event t run step =
    let more : List DiskEvent = events ++ event ∷ [] in
    let then_run : Run LaneStep (fresh shape) more t = run_push LaneStep (fresh shape) s t events event run step in
    record {
      may = (lawful_split May after (nothing_yet shape) events (event ∷ []) (every_run shape more t sound then_run)).1.0;
      slot = slot_at shape sound events s event t run step;
    }

pub run_facts : (shape : Shape) (events : List DiskEvent) (s : LaneState) → IsShape shape → Run LaneStep (fresh shape) events s → Lawful Facts after (nothing_yet shape) events
run_facts shape events s sound run = reached_lawful Facts shape (facts_at shape sound) events s run

-- the facts of one step
pub step_facts : (shape : Shape) (events : List DiskEvent) (s : LaneState) (event : DiskEvent) (t : LaneState) → IsShape shape → Run LaneStep (fresh shape) events s → LaneStep s event t
    → Facts (log_of after (nothing_yet shape) events) event
step_facts shape events s event t sound run step = facts_at shape sound events s event t run step

-- WHERE NOBODY FORGED on a lane, nobody had in the log of its run, nor before
pub log_clean : (shape : Shape) (events : List DiskEvent) (s : LaneState) → IsShape shape → Run LaneStep (fresh shape) events s → s.wire.forged ≡ false
    → (log_of after (nothing_yet shape) events).wire.forged ≡ false
log_clean shape events s sound run clean = ap (λ (w : WireLog). w.forged) (sym (run_agrees shape events s sound run).wire) ∙ clean

pub clean_before : (l : DiskLog) (events : List DiskEvent) → (log_of after l events).wire.forged ≡ false → l.wire.forged ≡ false
clean_before l [] clean = clean
clean_before l (event ∷ events) clean = before l event (clean_before (after l event) events clean)
