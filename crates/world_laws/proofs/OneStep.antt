-- One step of an end of a lane that nobody disturbs, over the image: it completes the first request that waits, with what the plain list gives,
-- or nothing of the plain list changes and nothing is shown.
use Rattle.std.proofs.Common.{◌≡◌, ℕ, ◌+◌, ◌-◌, ◌*◌, ◌≤◌, ◌⊎◌, inl, inr, Bool, true, false, Option, Some, None, List, [], ◌∷◌, drop, length, refl, sym, ap, ◌∙◌, subst, arith, slice_get}
use Rattle.runs.specs.Lawful.{log_of}
use Rattle.cookie_copy.specs.declared.fault.CopyFault.{CopyFault}
use Rattle.ldc_queue.specs.declared.end.End.{End}
use Rattle.ldc_queue.specs.declared.end.End.TheVariants.{A, B}
use Rattle.vio_tag.specs.declared.cause.Cause.{Cause}
use Rattle.vdisk_msg.specs.declared.request.Request.{Request}
use Rattle.vdisk_msg.specs.Requests.{AreSound, after_request, defect, operation_of}
use Rattle.lane_models.specs.WireEvent.{Blocked, ByStep, Declines, Idle, Injected, Joined, Lost, Poked, Reset, Sent, Took, WireEvent, giver}
use Rattle.disk_law.specs.ListState.{ImageState}
use Rattle.lane_laws.specs.DiskLog.{after, nothing_yet}
use Rattle.lane_models.specs.ClientState.{ClientState}
use Rattle.lane_models.specs.DiskEvent.{Desc, DiskEvent, Done, Finished, Moved, OnWire, Published, Stored, Works}
use Rattle.lane_models.specs.LaneState.{LaneState, NearCounts, Shape}
use Rattle.lane_models.specs.LaneStep.{EndOnWire, LaneStep, WireStep, near_on_wire}
use Rattle.lane_models.specs.Served.{Served}
use Rattle.lane_models.specs.Served as served
use Rattle.lane_models.specs.ServerState.{ServerState, Work}
use Rattle.lane_laws.proofs.Completions.{run_shows}
use Rattle.lane_laws.proofs.NearRuns.{run_near}
use Rattle.lane_laws.proofs.RegionRuns.{run_around, run_served}
use Rattle.lane_laws.proofs.Statuses.{run_done_zero}
use Rattle.lane_laws.specs.ImageStep.{front_done, region_of}
use Rattle.lane_laws.specs.Near.{FrontShows, IsNear}
use Rattle.lane_laws.proofs.StandingRuns.{stands_step}
use Rattle.lane_laws.proofs.StandingSteps.{wired_keeps}
use Rattle.lane_laws.proofs.OwnResets.{own_reset}
use Rattle.lane_laws.proofs.StepKeeps.{step_keeps}
use Rattle.lane_laws.specs.CalmEnds.{IsStep, IsWireStep, StepKeeps}
use Rattle.world_laws.specs.Settle.{OfLane}
use Rattle.world_laws.specs.World.{LaneMoves}
use Rattle.world_laws.proofs.FailedStays.{failed_stays}
use Rattle.world_laws.proofs.NoFaults.{fault_free}
use Rattle.world_laws.proofs.Regions.{IsFirstShape, behind_after, end_of, front_given, given_same, region_after, region_long, region_room}
use Rattle.world_laws.proofs.Undisturbed.{Silent, Stands, Undisturbed, all_at, blocks_at, silent_on, undisturbed_on}
use Rattle.world_laws.specs.Plain.{Plain, complete, completion, given}
use Rattle.world_laws.specs.Shown.{is_shown}

-- WHAT COMES OF IT
pub record Quietly (shape : Shape) (p : Plain) (event : DiskEvent) (t : LaneState) (j : ImageState) : Type 0 where
  pub hidden : is_shown (OfLane 0 event) ≡ false
  pub store : List ℕ
  pub told : j.told ≡ Some store
  pub stands : Stands shape p t store

pub record Completes (shape : Shape) (p : Plain) (event : DiskEvent) (t : LaneState) (j : ImageState) : Type 0 where
  pub request : Request
  pub behind : List Request
  pub front : p.waiting ≡ request ∷ behind
  pub is : OfLane 0 event ≡ completion p request
  pub store : List ℕ
  pub told : j.told ≡ Some store
  pub stands : Stands shape (complete p request behind) t store

abbrev pub Went : Shape → Plain → DiskEvent → LaneState → ImageState → Type 0
Went shape p event t j = Quietly shape p event t j ⊎ Completes shape p event t j

-- the plain list beside a lane, over the image
pub record Over (shape : Shape) (p : Plain) (s : LaneState) (i : ImageState) : Type 0 where
  pub store : List ℕ
  pub told : i.told ≡ Some store
  pub stands : Stands shape p s store

-- by an event that is no call of the store the image stays
quietly : (shape : Shape) (p : Plain) (s : LaneState) (event : DiskEvent) (t : LaneState) (i j : ImageState) → IsFirstShape shape → (over : Over shape p s i) → j ≡ i
    → is_shown (OfLane 0 event) ≡ false → Silent shape p s event t over.store over.store → Went shape p event t j
quietly shape p s event t i j front over same hidden silent = inl (record {
  hidden = hidden;
  store = over.store;
  told = ap (λ (x : ImageState). x.told) same ∙ over.told;
  stands = silent_on shape p s event t over.store over.store front over.stands silent;
})

-- ON THE WIRE
-- a step on the wire that resets nothing
record OnlyWire (s : LaneState) (event : WireEvent) (t : LaneState) : Type 0 where
  near : t.near ≡ s.near
  hidden : is_shown (OfLane 0 (OnWire event)) ≡ false

only_wire : (e : End) (s : LaneState) (event : WireEvent) (t : LaneState) → EndOnWire e s event t → near_on_wire s event ≡ s.near → is_shown (OfLane 0 (OnWire event)) ≡ false → OnlyWire s event t
only_wire e s event t step near hidden = grind arith

-- an end resets itself after a loss alone, and nothing was lost
never_resets : (shape : Shape) (p : Plain) (s : LaneState) (store : List ℕ) (d : End) (cause : Cause) (packet : Option (List ℕ)) (lost : ℕ) (t : LaneState) → IsFirstShape shape → Stands shape p s store
    → giver cause ≡ ByStep → LaneStep s (OnWire (Reset d cause packet lost)) t → ⊥
never_resets shape p s store d cause packet lost t front stands by step =
    let at = stands.lane in
    let lossy : s.wire.lossy ≡ true = (own_reset shape at.events s d cause packet lost t front.sound at.run at.unforged by step).lossy in
    let never : true ≡ false = sym lossy ∙ at.whole in
    absurd (cc never)

wire_facts : (shape : Shape) (p : Plain) (s : LaneState) (store : List ℕ) (e : End) (event : WireEvent) (t : LaneState) → IsFirstShape shape → Stands shape p s store → IsWireStep e event
    → WireStep s event t → OnlyWire s event t
wire_facts shape p s store e (Joined d lost) t front stands own step = only_wire d s (Joined d lost) t step refl refl
wire_facts shape p s store e (Took d packet opens) t front stands own step = only_wire d s (Took d packet opens) t step refl refl
wire_facts shape p s store e (Sent d packet opens) t front stands own step = only_wire d s (Sent d packet opens) t step refl refl
wire_facts shape p s store e (Idle d) t front stands own step = only_wire d s (Idle d) t step refl refl
wire_facts shape p s store e (Blocked d) t front stands own step = only_wire d s (Blocked d) t step refl refl
wire_facts shape p s store e (Reset d cause packet lost) t front stands own step = absurd (never_resets shape p s store d cause packet lost t front stands own.1 step)
wire_facts shape p s store e (Lost d packet) t front stands own step = absurd own
wire_facts shape p s store e (Injected d packet) t front stands own step = absurd own
wire_facts shape p s store e (Poked d at bytes) t front stands own step = absurd own
wire_facts shape p s store e (Declines d) t front stands own step = absurd own

wire_silent : (shape : Shape) (p : Plain) (s : LaneState) (store : List ℕ) (e : End) (event : WireEvent) (t : LaneState) → IsFirstShape shape → Stands shape p s store → IsWireStep e event
    → WireStep s event t → Silent shape p s (OnWire event) t store store
wire_silent shape p s store e event t front stands own step =
    let only = wire_facts shape p s store e event t front stands own step in
    record {
      step = step;
      keeps = step_keeps s e (OnWire event) t step own;
      well = failed_stays s (OnWire event) t step refl stands.lane.well;
      early = ap (λ (n : NearCounts). n.m) only.near ∙ stands.lane.early;
      done = λ l. (wired_keeps l.shape.slots l.transcript l.work event).done;
      issued = λ l. (wired_keeps l.shape.slots l.transcript l.work event).issued;
      content = refl;
      image = refl;
      behind = refl;
    }

-- THE WORK that is no call of the store
published_silent : (shape : Shape) (p : Plain) (s : LaneState) (store : List ℕ) (id : ℕ) (t : LaneState) → Stands shape p s store → LaneStep s (Works (Published id)) t
    → Silent shape p s (Works (Published id)) t store store
published_silent shape p s store id t stands step = grind (arith, step_keeps, failed_stays)

desc_silent : (shape : Shape) (p : Plain) (s : LaneState) (store : List ℕ) (slot : ℕ) (bytes : List ℕ) (t : LaneState) → Stands shape p s store → LaneStep s (Works (Desc slot bytes)) t
    → Silent shape p s (Works (Desc slot bytes)) t store store
desc_silent shape p s store slot bytes t stands step = record {
  step = step;
  keeps = step_keeps s B (Works (Desc slot bytes)) t step tt;
  well = failed_stays s (Works (Desc slot bytes)) t step refl stands.lane.well;
  early = ap (λ (x : LaneState). x.near.m) step.1.is ∙ stands.lane.early;
  done = λ l. refl;
  issued = λ l. refl;
  content = refl;
  image = refl;
  behind = refl;
}

moved_silent : (shape : Shape) (p : Plain) (s : LaneState) (store : List ℕ) (unit : ℕ) (fault : Option CopyFault) (t : LaneState) → Stands shape p s store → LaneStep s (Works (Moved unit fault)) t
    → Silent shape p s (Works (Moved unit fault)) t store store
moved_silent shape p s store unit fault t stands step = grind (arith, step_keeps, failed_stays)

finished_silent : (shape : Shape) (p : Plain) (s : LaneState) (store : List ℕ) (slot status : ℕ) (t : LaneState) → Stands shape p s store → LaneStep s (Works (Finished slot status)) t
    → Silent shape p s (Works (Finished slot status)) t store store
finished_silent shape p s store slot status t stands step = grind (arith, step_keeps, failed_stays)

-- A CALL OF THE STORE that didn't fail
record Tells (told : Option (List ℕ)) : Type 0 where
  bytes : List ℕ
  is : told ≡ Some bytes

store_told : (work : Option Work) (s : ServerState) (block : ℕ) (gave store : List ℕ) (told : Option (List ℕ)) → served.StoreDoes work s block false gave (Some store) told → Tells told
store_told work s block gave store told does = grind arith

room_in : (shape : Shape) (p : Plain) (s : LaneState) (bytes : List ℕ) → IsFirstShape shape → Undisturbed shape p.completed s → length (region_of shape bytes) ≡ 512 * s.client.blocks
    → end_of shape ≤ length bytes
room_in shape p s bytes front at long = region_room shape bytes front.sound (long ∙ ap (λ (n : ℕ). 512 * n) (blocks_at shape p.completed s front.sound at))

stored_silent : (shape : Shape) (p : Plain) (s : LaneState) (operation block count : ℕ) (t : LaneState) (store new : List ℕ) → IsFirstShape shape → Stands shape p s store
    → Served s (Some store) (Works (Stored operation block count false)) t (Some new) → Silent shape p s (Works (Stored operation block count false)) t store new
stored_silent shape p s operation block count t store new front stands step =
    let event : DiskEvent = Works (Stored operation block count false) in
    let at = stands.lane in
    let lane : LaneStep s event t = (step.gave, step.step) in
    let keeps = step_keeps s B event t lane tt in
    let unforged : t.wire.forged ≡ false = keeps.forged ∙ at.unforged in
    let well : t.failed ≡ false = failed_stays s event t lane refl at.well in
    let room : end_of shape ≤ length store = room_in shape p s store front at stands.near.image_long in
    record {
      step = lane;
      keeps = keeps;
      well = well;
      early = ap (λ (x : LaneState). x.near.m) step.step.is ∙ at.early;
      done = λ l. refl;
      issued = λ l. refl;
      content = refl;
      image = run_served shape at.events s event t store new front.sound at.run unforged well room step;
      behind = (run_around shape at.events s event t store new front.sound at.run unforged well room step).behind;
    }

stored_well : (shape : Shape) (p : Plain) (s : LaneState) (operation block count : ℕ) (t : LaneState) (i j : ImageState) → IsFirstShape shape → Over shape p s i
    → Served s i.told (Works (Stored operation block count false)) t j.told → Went shape p (Works (Stored operation block count false)) t j
stored_well shape p s operation block count t i j front over step =
    let event : DiskEvent = Works (Stored operation block count false) in
    let from : Served s (Some over.store) event t j.told = subst (λ (o : Option (List ℕ)). Served s o event t j.told) over.told step in
    let tells : Tells j.told = store_told s.server.work s.server block from.gave over.store j.told from.store in
    let to : Served s (Some over.store) event t (Some tells.bytes) = subst (λ (o : Option (List ℕ)). Served s (Some over.store) event t o) tells.is from in
    inl (record {
      hidden = refl;
      store = tells.bytes;
      told = tells.is;
      stands = silent_on shape p s event t over.store tells.bytes front over.stands (stored_silent shape p s operation block count t over.store tells.bytes front over.stands to);
    })

stored_on : (failed : Bool) (shape : Shape) (p : Plain) (s : LaneState) (operation block count : ℕ) (t : LaneState) (i j : ImageState) → IsFirstShape shape → Over shape p s i
    → failed ≡ false → Served s i.told (Works (Stored operation block count failed)) t j.told → Went shape p (Works (Stored operation block count failed)) t j
stored_on true shape p s operation block count t i j front over well step = absurd (cc well)
stored_on false shape p s operation block count t i j front over well step = stored_well shape p s operation block count t i j front over step

-- A COMPLETION
front_split : (pending : List Request) (request : Request) → slice_get pending 0 ≡ Some request → pending ≡ request ∷ drop 1 pending
front_split [] request is = absurd (cc is)
front_split (x ∷ behind) request is = let same : x ≡ request = cc is in ap (λ (r : Request). r ∷ behind) same

done_same : (id one operation two status three : ℕ) (bytes four : List ℕ) → id ≡ one → operation ≡ two → status ≡ three → bytes ≡ four
    → OfLane 0 (Works (Done id operation status bytes)) ≡ OfLane 0 (Works (Done one two three four))
done_same id one operation two status three bytes four first second third fourth = grind arith

none_less : (n m : ℕ) → n ≡ m - 1 → m ≡ 0 → n ≡ 0
none_less n m is none = omega (arith, is, none)

-- what is known of a lane at a completion
record AtDone (shape : Shape) (p : Plain) (s : LaneState) (id operation status : ℕ) (bytes : List ℕ) (t : LaneState) (request : Request) (behind : List Request) : Type 0 where
  split : s.client.pending ≡ request ∷ behind
  rest : t.client.pending ≡ behind
  id_is : id ≡ p.completed
  operation_is : operation ≡ operation_of request
  keeps : StepKeeps s t
  well : t.failed ≡ false
  early : t.near.m ≡ 0
  zero_status : status ≡ 0

at_done : (shape : Shape) (p : Plain) (s : LaneState) (store : List ℕ) (id operation status : ℕ) (bytes : List ℕ) (t : LaneState) → IsFirstShape shape → Stands shape p s store
    → (step : LaneStep s (Works (Done id operation status bytes)) t) → AtDone shape p s id operation status bytes t step.step.request (drop 1 s.client.pending)
at_done shape p s store id operation status bytes t front stands step =
    let event : DiskEvent = Works (Done id operation status bytes) in
    let at = stands.lane in
    let l = log_of after (nothing_yet shape) at.events in
    let all = all_at shape p.completed s front.sound at in
    let keeps = step_keeps s A event t step tt in
    let well : t.failed ≡ false = ap (λ (x : LaneState). x.failed) step.is ∙ at.well in
    record {
      split = front_split s.client.pending step.step.request step.step.front;
      rest = ap (λ (c : ClientState). c.pending) step.step.is;
      id_is = (stands_step s l event t all.stands step).may.once.next ∙ at.done;
      operation_is = step.step.operation_is;
      keeps = keeps;
      well = well;
      early = none_less t.near.m s.near.m (ap (λ (x : LaneState). x.near.m) step.is) at.early;
      zero_status = run_done_zero shape at.events s id operation status bytes t front.sound at.run step (keeps.forged ∙ at.unforged) well;
    }

done_gives : (shape : Shape) (p : Plain) (s : LaneState) (store : List ℕ) (id operation status : ℕ) (bytes : List ℕ) (t : LaneState) (request : Request) (behind : List Request) → IsFirstShape shape
    → Stands shape p s store → LaneStep s (Works (Done id operation status bytes)) t → AtDone shape p s id operation status bytes t request behind → defect shape.blocks request ≡ None
    → bytes ≡ given p.content request
done_gives shape p s store id operation status bytes t request behind front stands step known admitted =
    let at = stands.lane in
    let content = region_of shape p.content in
    let shows : FrontShows content s.client.pending s.near.m bytes =
    run_shows shape at.events s id operation status bytes t content (region_of shape store) front.sound at.run step (known.keeps.forged ∙ at.unforged) known.well stands.near in
    let here : FrontShows content (request ∷ behind) s.near.m bytes = subst (λ (xs : List Request). FrontShows content xs s.near.m bytes) known.split shows in
    let early : FrontShows content (request ∷ behind) 0 bytes = subst (λ (m : ℕ). FrontShows content (request ∷ behind) m bytes) at.early here in
    let long : length content ≡ 512 * shape.blocks = region_long shape p.content (room_in shape p s p.content front at stands.near.content_long) in
    front_given shape.blocks content request behind bytes long admitted early ∙ given_same shape p.content request front admitted

done_stands : (shape : Shape) (p : Plain) (s : LaneState) (store : List ℕ) (id operation status : ℕ) (bytes : List ℕ) (t : LaneState) (request : Request) (behind : List Request) → IsFirstShape shape
    → Stands shape p s store → LaneStep s (Works (Done id operation status bytes)) t → AtDone shape p s id operation status bytes t request behind
    → AreSound shape.blocks (request ∷ behind) → Stands shape (complete p request behind) t store
done_stands shape p s store id operation status bytes t request behind front stands step known sound =
    let event : DiskEvent = Works (Done id operation status bytes) in
    let at = stands.lane in
    let content = region_of shape p.content in
    let room : end_of shape ≤ length p.content = room_in shape p s p.content front at stands.near.content_long in
    let same : front_done content s.client.pending ≡ region_of shape (after_request p.content request) =
    ap (front_done content) known.split ∙ sym (region_after shape p.content request front room sound.0) in
    record {
      lane = undisturbed_on shape p.completed (p.completed + 1) s event t at step known.keeps known.well known.early (ap (λ (n : ℕ). n + 1) at.done);
      waiting = known.rest;
      sound = sound.2;
      near = subst (λ (c : List ℕ). IsNear c t (region_of shape store)) same
          (run_near shape at.events s event t content (region_of shape store) (region_of shape store) front.sound at.run step (known.keeps.forged ∙ at.unforged) known.well refl stands.near);
      behind = stands.behind ∙ sym (behind_after shape p.content request front room sound.0);
    }

done_on : (shape : Shape) (p : Plain) (s : LaneState) (id operation status : ℕ) (bytes : List ℕ) (t : LaneState) (i j : ImageState) → IsFirstShape shape → Over shape p s i
    → LaneStep s (Works (Done id operation status bytes)) t → j ≡ i → Went shape p (Works (Done id operation status bytes)) t j
done_on shape p s id operation status bytes t i j front over step same =
    let request = step.step.request in
    let behind = drop 1 s.client.pending in
    let stands = over.stands in
    let known = at_done shape p s over.store id operation status bytes t front stands step in
    let waiting : p.waiting ≡ request ∷ behind = sym stands.waiting ∙ known.split in
    let sound : AreSound shape.blocks (request ∷ behind) = subst (AreSound shape.blocks) waiting stands.sound in
    inr (record {
      request = request;
      behind = behind;
      front = waiting;
      is = done_same id p.completed operation (operation_of request) status 0 bytes (given p.content request) known.id_is known.operation_is known.zero_status
          (done_gives shape p s over.store id operation status bytes t request behind front stands step known sound.0);
      store = over.store;
      told = ap (λ (x : ImageState). x.told) same ∙ over.told;
      stands = done_stands shape p s over.store id operation status bytes t request behind front stands step known sound;
    })

-- EACH STEP of an end
never_off : (shape : Shape) (p : Plain) (s : LaneState) (store : List ℕ) → Stands shape p s store → s.stopped ≡ true → ⊥
never_off shape p s store stands stopped = let never : true ≡ false = sym stopped ∙ stands.lane.runs in absurd (cc never)

wire_went : (shape : Shape) (p : Plain) (s : LaneState) (e : End) (event : WireEvent) (t : LaneState) (i j : ImageState) → IsFirstShape shape → Over shape p s i → IsWireStep e event
    → WireStep s event t → j ≡ i → Went shape p (OnWire event) t j
wire_went shape p s e event t i j front over own step same =
    quietly shape p s (OnWire event) t i j front over same (wire_facts shape p s over.store e event t front over.stands own step).hidden
    (wire_silent shape p s over.store e event t front over.stands own step)

pub one_step : (shape : Shape) (p : Plain) (s : LaneState) (e : End) (event : DiskEvent) (t : LaneState) (i j : ImageState) → IsFirstShape shape → Over shape p s i → IsStep e event
    → LaneMoves s i event t j → j.faults ≡ 0 → Went shape p event t j
one_step shape p s e (OnWire event) t i j front over own moves well = wire_went shape p s e event t i j front over own moves.0 moves.1
one_step shape p s e (Works (Published id)) t i j front over own moves well =
    quietly shape p s (Works (Published id)) t i j front over moves.1 refl (published_silent shape p s over.store id t over.stands moves.0)
one_step shape p s e (Works (Done id operation status bytes)) t i j front over own moves well = done_on shape p s id operation status bytes t i j front over moves.0 moves.1
one_step shape p s e (Works (Desc slot bytes)) t i j front over own moves well =
    quietly shape p s (Works (Desc slot bytes)) t i j front over moves.1 refl (desc_silent shape p s over.store slot bytes t over.stands moves.0)
one_step shape p s e (Works (Moved unit fault)) t i j front over own moves well =
    quietly shape p s (Works (Moved unit fault)) t i j front over moves.1 refl (moved_silent shape p s over.store unit fault t over.stands moves.0)
one_step shape p s e (Works (Stored operation block count failed)) t i j front over own moves well =
    stored_on failed shape p s operation block count t i j front over (fault_free failed i.faults j.faults moves.1.faults well) moves.0
one_step shape p s e (Works (Finished slot status)) t i j front over own moves well =
    quietly shape p s (Works (Finished slot status)) t i j front over moves.1 refl (finished_silent shape p s over.store slot status t over.stands moves.0)
one_step shape p s e event t i j front over own moves well = grind (arith, never_off)
