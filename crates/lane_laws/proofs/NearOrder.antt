-- On a lane that nobody forged what is finished, and what was published in an earlier session, was published; and what completes is finished.
use Rattle.std.proofs.Common.{◌≡◌, ◌⊎◌, ℕ, ◌-◌, ◌≤◌, false, None, List, sym, ap, ◌∙◌, arith}
use Rattle.runs.specs.Lawful.{Lawful, log_of}
use Rattle.runs.specs.Run.{Run}
use Rattle.lane_models.specs.DiskEvent.{DiskEvent, Done, Works}
use Rattle.lane_laws.specs.DiskLog.{DiskLog, after, nothing_yet}
use Rattle.lane_models.specs.LaneState.{IsShape, LaneState, Shape, fresh}
use Rattle.lane_models.specs.LaneStep.{LaneStep}
use Rattle.lane_laws.specs.NearLaws.{NearAt, NearInOrder}
use Rattle.lane_models.specs.WireLog.{WireLog}
use Rattle.lane_laws.proofs.AlongRuns.{reached_lawful}
use Rattle.lane_laws.proofs.LaneRuns.{before_of, run_contents}
use Rattle.lane_laws.proofs.LiveCounts.{counts_while}
use Rattle.lane_laws.proofs.NearAgreeing.{run_agrees}
use Rattle.lane_laws.proofs.PlacedViews.{IsLive, live_or_not}
use Rattle.lane_laws.proofs.ReachedFacts.{all_behind}
use Rattle.lane_laws.proofs.StandingRuns.{pending_is}
use Rattle.lane_laws.proofs.Standing.{Before, ever_count}
use Rattle.lane_laws.proofs.WorkCounts.{completed_some}
use Rattle.lane_laws.specs.NearInLane.{NearInLane}

-- WHAT IS FINISHED was published
finished_most : (s : LaneState) (l : DiskLog) → Before s l → (counts_while l.wire.wire.end_b l.work.server ≡ None) ⊎ IsLive l.wire.wire.end_b l.work.server
    → s.near.k ≤ s.client.ever_published - l.work.done
finished_most s l before is = grind arith

before_at : (shape : Shape) (events : List DiskEvent) (s : LaneState) → IsShape shape → Run LaneStep (fresh shape) events s
    → (log_of after (nothing_yet shape) events).wire.forged ≡ false → Before s (log_of after (nothing_yet shape) events)
before_at shape events s sound run clean = before_of shape events s sound run clean ((run_contents shape events s sound run).near clean)

clean_log : (shape : Shape) (events : List DiskEvent) (s : LaneState) → IsShape shape → Run LaneStep (fresh shape) events s → s.wire.forged ≡ false
    → (log_of after (nothing_yet shape) events).wire.forged ≡ false
clean_log shape events s sound run clean = sym (ap (λ (w : WireLog). w.forged) (all_behind shape events s sound run).stands.wire) ∙ clean

-- IN THE LANE
pub near_in_lane : (shape : Shape) (events : List DiskEvent) (s : LaneState) → IsShape shape → Run LaneStep (fresh shape) events s → s.wire.forged ≡ false
    → NearInLane s
near_in_lane shape events s sound run clean =
    let l = log_of after (nothing_yet shape) events in
    let stands = (all_behind shape events s sound run).stands in
    let before : Before s l = before_at shape events s sound run (clean_log shape events s sound run clean) in
    let count = ever_count s l stands in
    let finished = finished_most s l before (live_or_not l.wire.wire.end_b l.work.server) in
    let earlier = before.near.m in
    let most = before.near.ever.most in
    let next = stands.requests.next in
    let pending = pending_is s.client l.work stands.requests in
    record {
      finished = omega (arith, count, finished);
      earlier = omega (arith, count, earlier);
      published = omega (arith, count, most, next, pending);
    }

-- IN THE LOG
pub near_in_order : (shape : Shape) (events : List DiskEvent) (s : LaneState) → IsShape shape → Run LaneStep (fresh shape) events s
    → (log_of after (nothing_yet shape) events).wire.forged ≡ false → NearInOrder (log_of after (nothing_yet shape) events)
near_in_order shape events s sound run clean =
    let l = log_of after (nothing_yet shape) events in
    let stands = (all_behind shape events s sound run).stands in
    let agrees = run_agrees shape events s sound run clean in
    let lane = near_in_lane shape events s sound run (ap (λ (w : WireLog). w.forged) stands.wire ∙ clean) in
    let pending = pending_is s.client l.work stands.requests in
    record {
      finished = omega (arith, agrees.k, agrees.p, lane.finished);
      earlier = omega (arith, agrees.m, agrees.p, lane.earlier);
      published = omega (arith, agrees.p, lane.published, pending);
    }

-- WHAT COMPLETES is finished
pub done_finished : (shape : Shape) (events : List DiskEvent) (s : LaneState) (id operation status : ℕ) (bytes : List ℕ) (t : LaneState) → IsShape shape
    → Run LaneStep (fresh shape) events s → LaneStep s (Works (Done id operation status bytes)) t → s.wire.forged ≡ false → 1 ≤ s.near.k
done_finished shape events s id operation status bytes t sound run step clean =
    completed_some s (log_of after (nothing_yet shape) events) id operation status bytes t
    (before_at shape events s sound run (clean_log shape events s sound run clean)) step

near_at : (shape : Shape) (events : List DiskEvent) (s : LaneState) (event : DiskEvent) (t : LaneState) → IsShape shape → Run LaneStep (fresh shape) events s
    → LaneStep s event t → NearAt (log_of after (nothing_yet shape) events) event
near_at shape events s (Works (Done id operation status bytes)) t sound run step = λ clean.
    let l = log_of after (nothing_yet shape) events in
    let agrees = run_agrees shape events s sound run clean in
    let wire = (all_behind shape events s sound run).stands.wire in
    let some = done_finished shape events s id operation status bytes t sound run step (ap (λ (w : WireLog). w.forged) wire ∙ clean) in
    omega (arith, agrees.k, some)
near_at shape events s _ t sound run step = tt

pub near_lawful : (shape : Shape) (events : List DiskEvent) (s : LaneState) → IsShape shape → Run LaneStep (fresh shape) events s
    → Lawful NearAt after (nothing_yet shape) events
near_lawful shape events s sound run =
    reached_lawful NearAt shape (λ before x event y run_x step. near_at shape before x event y sound run_x step) events s run
