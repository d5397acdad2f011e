-- A lane that nobody disturbs: reached, whole and running, with no request that an earlier session published; and a plain list beside it.
use Rattle.std.proofs.Common.{◌≡◌, ℕ, ◌+◌, ◌-◌, ◌≤◌, false, List, [], ◌∷◌, ◌++◌, drop, length, sym, ap, ◌∙◌, subst, arith, length-drop}
use Rattle.runs.specs.Lawful.{log_append, log_of}
use Rattle.runs.specs.Run.{Run, run_push}
use Rattle.vdisk_msg.specs.Requests.{AreSound}
use Rattle.lane_laws.specs.DiskLog.{DiskLog, after, nothing_yet}
use Rattle.lane_models.specs.DiskEvent.{DiskEvent}
use Rattle.lane_models.specs.LaneState.{IsShape, LaneState, Shape, fresh}
use Rattle.lane_models.specs.LaneStep.{LaneStep}
use Rattle.lane_models.specs.Reached.{IsReached}
use Rattle.lane_laws.proofs.FirstStays.{log_shape}
use Rattle.lane_laws.proofs.Holding.{run_settled}
use Rattle.lane_laws.proofs.NearRuns.{run_near}
use Rattle.lane_laws.specs.ImageStep.{ImageStep, content_after, region_of}
use Rattle.lane_laws.specs.Near.{IsNear}
use Rattle.lane_laws.proofs.CarriedRuns.{AllStand, all_step}
use Rattle.lane_laws.proofs.ReachedFacts.{all_behind}
use Rattle.lane_laws.specs.CalmEnds.{StepKeeps}
use Rattle.world_laws.proofs.Regions.{IsFirstShape, end_of, same_image}
use Rattle.world_laws.specs.Plain.{Plain}

-- A LANE THAT NOBODY DISTURBS, with how many of its requests were completed
pub record Undisturbed (shape : Shape) (completed : ℕ) (s : LaneState) : Type 0 where
  pub events : List DiskEvent
  pub run : Run LaneStep (fresh shape) events s
  pub unforged : s.wire.forged ≡ false
  pub whole : s.wire.lossy ≡ false
  pub runs : s.stopped ≡ false
  pub well : s.failed ≡ false
  pub early : s.near.m ≡ 0
  pub done : (log_of after (nothing_yet shape) events).work.done ≡ completed

pub reached : (shape : Shape) (completed : ℕ) (s : LaneState) → IsShape shape → Undisturbed shape completed s → IsReached s
reached shape completed s sound at = record { shape = shape; sound = sound; events = at.events; run = at.run }

pub all_at : (shape : Shape) (completed : ℕ) (s : LaneState) → IsShape shape → (at : Undisturbed shape completed s) → AllStand s (log_of after (nothing_yet shape) at.events)
all_at shape completed s sound at = all_behind shape at.events s sound at.run

pub blocks_at : (shape : Shape) (completed : ℕ) (s : LaneState) → IsShape shape → Undisturbed shape completed s → s.client.blocks ≡ shape.blocks
blocks_at shape completed s sound at =
    let stands = (all_at shape completed s sound at).stands in
    stands.blocks ∙ ap (λ (x : Shape). x.blocks) (stands.shape ∙ log_shape (nothing_yet shape) at.events)

pub slots_at : (shape : Shape) (completed : ℕ) (s : LaneState) → IsShape shape → Undisturbed shape completed s → s.client.slots ≡ shape.slots
slots_at shape completed s sound at =
    let stands = (all_at shape completed s sound at).stands in
    stands.slots ∙ ap (λ (x : Shape). x.slots) (stands.shape ∙ log_shape (nothing_yet shape) at.events)

-- the next id counts those that are completed and those that wait
counted : (next done issued waiting completed : ℕ) → next ≡ issued → waiting ≡ issued - done → done ≤ issued → done ≡ completed → next ≡ completed + waiting
counted next done issued waiting completed is rest most same = omega (arith, is, rest, most, same)

pub accepted_at : (shape : Shape) (completed : ℕ) (s : LaneState) → IsShape shape → Undisturbed shape completed s → s.client.next_id ≡ completed + length s.client.pending
accepted_at shape completed s sound at =
    let l = log_of after (nothing_yet shape) at.events in
    let requests = (all_at shape completed s sound at).stands.requests in
    counted s.client.next_id l.work.done (length l.work.issued) (length s.client.pending) completed requests.next
    (ap length requests.pending ∙ length-drop l.work.done l.work.issued) requests.done at.done

-- ONE MORE EVENT
pub undisturbed_on : (shape : Shape) (completed n : ℕ) (s : LaneState) (event : DiskEvent) (t : LaneState) → (at : Undisturbed shape completed s) → LaneStep s event t → StepKeeps s t
    → t.failed ≡ false → t.near.m ≡ 0 → (after (log_of after (nothing_yet shape) at.events) event).work.done ≡ n → Undisturbed shape n t
undisturbed_on shape completed n s event t at step keeps well early done = record {
  events = at.events ++ event ∷ [];
  run = run_push LaneStep (fresh shape) s t at.events event at.run step;
  unforged = keeps.forged ∙ at.unforged;
  whole = keeps.whole at.whole;
  runs = keeps.stopped ∙ at.runs;
  well = well;
  early = early;
  done = ap (λ (l : DiskLog). l.work.done) (log_append after (nothing_yet shape) at.events (event ∷ [])) ∙ done;
}

-- what is pending after an event, by the log
pub pending_on : (shape : Shape) (completed : ℕ) (s : LaneState) (event : DiskEvent) (t : LaneState) → IsShape shape → (at : Undisturbed shape completed s) → LaneStep s event t
    → t.client.pending
    ≡ drop (after (log_of after (nothing_yet shape) at.events) event).work.done (after (log_of after (nothing_yet shape) at.events) event).work.issued
pending_on shape completed s event t sound at step =
    (all_step s (log_of after (nothing_yet shape) at.events) event t (all_at shape completed s sound at) step).1.stands.requests.pending

-- THE PLAIN LIST beside the lane and the image's bytes, which may have writes of those that wait
pub record Stands (shape : Shape) (p : Plain) (s : LaneState) (store : List ℕ) : Type 0 where
  pub lane : Undisturbed shape p.completed s
  pub waiting : s.client.pending ≡ p.waiting
  pub sound : AreSound shape.blocks p.waiting
  pub near : IsNear (region_of shape p.content) s (region_of shape store)
  pub behind : drop (end_of shape) store ≡ drop (end_of shape) p.content

-- where nothing waits the image has the content
pub rested_image : (shape : Shape) (p : Plain) (s : LaneState) (store : List ℕ) → IsFirstShape shape → Stands shape p s store → p.waiting ≡ [] → store ≡ p.content
rested_image shape p s store front stands nothing = grind (arith, same_image, run_settled)

-- AN EVENT that neither accepts nor completes a request, and leaves what lies after the disk
pub record Silent (shape : Shape) (p : Plain) (s : LaneState) (event : DiskEvent) (t : LaneState) (store new : List ℕ) : Type 0 where
  pub step : LaneStep s event t
  pub keeps : StepKeeps s t
  pub well : t.failed ≡ false
  pub early : t.near.m ≡ 0
  pub done : (l : DiskLog) → (after l event).work.done ≡ l.work.done
  pub issued : (l : DiskLog) → (after l event).work.issued ≡ l.work.issued
  pub content : content_after s (region_of shape p.content) event ≡ region_of shape p.content
  pub image : ImageStep s event t (region_of shape store) (region_of shape new)
  pub behind : drop (end_of shape) new ≡ drop (end_of shape) store

pub silent_on : (shape : Shape) (p : Plain) (s : LaneState) (event : DiskEvent) (t : LaneState) (store new : List ℕ) → IsFirstShape shape → Stands shape p s store
    → Silent shape p s event t store new → Stands shape p t new
silent_on shape p s event t store new front stands silent =
    let at = stands.lane in
    let l = log_of after (nothing_yet shape) at.events in
    let unforged : t.wire.forged ≡ false = silent.keeps.forged ∙ at.unforged in
    let before : s.client.pending ≡ drop l.work.done l.work.issued = (all_at shape p.completed s front.sound at).stands.requests.pending in
    let same : t.client.pending ≡ drop l.work.done l.work.issued =
    pending_on shape p.completed s event t front.sound at silent.step
    ∙ ap (λ (n : ℕ). drop n (after l event).work.issued) (silent.done l)
    ∙ ap (drop l.work.done) (silent.issued l) in
    record {
      lane = undisturbed_on shape p.completed p.completed s event t at silent.step silent.keeps silent.well silent.early (silent.done l ∙ at.done);
      waiting = same ∙ sym before ∙ stands.waiting;
      sound = stands.sound;
      near = subst (λ (c : List ℕ). IsNear c t (region_of shape new)) silent.content
          (run_near shape at.events s event t (region_of shape p.content) (region_of shape store) (region_of shape new) front.sound at.run silent.step unforged silent.well silent.image
          stands.near);
      behind = silent.behind ∙ stands.behind;
    }
