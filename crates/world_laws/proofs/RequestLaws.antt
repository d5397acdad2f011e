-- The requests of a lane, and of each disk of a world, are admitted by the rules and complete once and in order.
use Rattle.std.proofs.Common.{◌≡◌, ℕ, ◌-◌, ◌<◌, List, ◌∷◌, length, drop, slice_get, Some, ap, ◌∙◌, subst, arith}
use Rattle.runs.specs.Lawful.{Lawful, lawful_split, log_of}
use Rattle.runs.specs.Run.{Run}
use Rattle.disk_law.specs.Issued.{Admission, Admits, CompletesNext, CompletesOnceInOrder, completed, issued}
use Rattle.disk_law.specs.ListState.{ImageState}
use Rattle.disk_law.specs.ListStep as plain
use Rattle.lane_laws.specs.DiskLog.{DiskLog, after, nothing_yet}
use Rattle.lane_laws.specs.RequestLaws.{AdmissionAt, OnceAt}
use Rattle.lane_models.specs.DiskEvent.{DiskEvent, Done, Works}
use Rattle.lane_models.specs.LaneState.{IsShape, LaneState, Shape, fresh}
use Rattle.lane_models.specs.LaneStep.{LaneStep}
use Rattle.lane_laws.proofs.LaneCores.{shape_of}
use Rattle.lane_laws.proofs.StandingRuns.{admission_lawful, once_lawful}
use Rattle.world_laws.specs.Along.{happened}
use Rattle.world_laws.specs.Settle.{SettleEntry}
use Rattle.world_laws.proofs.Along.{lane_at, lanes_run, shape_at}
use Rattle.world_laws.specs.World.{AreShapes, WorldState, WorldStep, fresh_world}
use Rattle.world_laws.proofs.Filtered.{ComesOf, comes_of}
use Rattle.world_laws.proofs.RequestLog.{done_behind, issued_behind, next_is, pending_are}
use Rattle.world_laws.specs.Requests.{request_event, requests_of}

-- A COMPLETION comes of one
same_done : (i o s id operation status : ℕ) (b bytes : List ℕ) → plain.Done i o s b ≡ plain.Done id operation status bytes → Works (Done i o s b) ≡ Works (Done id operation status bytes)
same_done i o s id operation status b bytes is = cc is

once_here : (l : DiskLog) (event : DiskEvent) (before : List plain.ListEvent) (id operation status : ℕ) (bytes : List ℕ) → request_event event ≡ Some (plain.Done id operation status bytes)
    → l.work.issued ≡ issued before → l.work.done ≡ length (completed before) → OnceAt l event → CompletesNext before id operation
once_here l event before id operation status bytes is issued_is done_is given = grind (arith, slice_get)

-- AND WHAT COMES OF A REQUEST of what came of it
room_for : (i d n m x y : ℕ) → i ≡ n → d ≡ m → x ≡ y → i - d < x → n - m < y
room_for i d n m x y one two three less = omega (arith, one, two, three, less)

no_room : (i d n m x y : ℕ) → i ≡ n → d ≡ m → x ≡ y → i - d ≡ x → n - m ≡ y
no_room i d n m x y one two three full = omega (arith, one, two, three, full)

admitted_here : (blocks slots : ℕ) (l : DiskLog) (before : List plain.ListEvent) → l.shape.blocks ≡ blocks → l.shape.slots ≡ slots → l.work.issued ≡ issued before
    → l.work.done ≡ length (completed before) → (event : DiskEvent) (seen : plain.ListEvent) → request_event event ≡ Some seen → AdmissionAt l event → Admits blocks slots before seen
admitted_here blocks slots l before blocks_are slots_are issued_is done_is event seen is given = grind arith

-- WHERE THE EVENT STANDS in a lawful run
lawful_here : (May : DiskLog → DiskEvent → Type 0) (shape : Shape) (events : List DiskEvent) (before : List plain.ListEvent) (seen : plain.ListEvent)
    (found : ComesOf request_event events before seen) → Lawful May after (nothing_yet shape) events → May (log_of after (nothing_yet shape) found.front) found.one
lawful_here May shape events before seen found lawful =
    (lawful_split May after (nothing_yet shape) found.front (found.one ∷ found.rest) (subst (λ (es : List DiskEvent). Lawful May after (nothing_yet shape) es) found.is lawful)).1.0

issued_at : (shape : Shape) (events : List DiskEvent) (before : List plain.ListEvent) (seen : plain.ListEvent) (found : ComesOf request_event events before seen)
    → (log_of after (nothing_yet shape) found.front).work.issued ≡ issued before
issued_at shape events before seen found = issued_behind shape found.front ∙ ap issued found.so_far

done_at : (shape : Shape) (events : List DiskEvent) (before : List plain.ListEvent) (seen : plain.ListEvent) (found : ComesOf request_event events before seen)
    → (log_of after (nothing_yet shape) found.front).work.done ≡ length (completed before)
done_at shape events before seen found = done_behind shape found.front ∙ ap (λ (es : List plain.ListEvent). length (completed es)) found.so_far

-- A LANE
pub lane_completes : (shape : Shape) (events : List DiskEvent) (s : LaneState) → IsShape shape → Run LaneStep (fresh shape) events s → CompletesOnceInOrder (requests_of events)
lane_completes shape events s sound run = λ before behind id operation status bytes is.
    let found : ComesOf request_event events before (plain.Done id operation status bytes) = comes_of request_event events before (plain.Done id operation status bytes) behind is in
    once_here (log_of after (nothing_yet shape) found.front) found.one before id operation status bytes found.gives (issued_at shape events before (plain.Done id operation status bytes) found)
    (done_at shape events before (plain.Done id operation status bytes) found)
    (lawful_here OnceAt shape events before (plain.Done id operation status bytes) found (once_lawful shape events s sound run))

pub lane_admits : (shape : Shape) (events : List DiskEvent) (s : LaneState) → IsShape shape → Run LaneStep (fresh shape) events s → Admission shape.blocks shape.slots (requests_of events)
lane_admits shape events s sound run = λ before behind seen is.
    let found : ComesOf request_event events before seen = comes_of request_event events before seen behind is in
    let stays = shape_of (nothing_yet shape) found.front in
    admitted_here shape.blocks shape.slots (log_of after (nothing_yet shape) found.front) before (ap (λ (x : Shape). x.blocks) stays) (ap (λ (x : Shape). x.slots) stays)
    (issued_at shape events before seen found) (done_at shape events before seen found) found.one seen found.gives
    (lawful_here AdmissionAt shape events before seen found (admission_lawful shape events s sound run))

-- EACH DISK of a world
pub disk_completes : (shapes : List Shape) (image : ImageState) (entries : List SettleEntry) (w : WorldState) (k : ℕ) (shape : Shape) → AreShapes 0 shapes
    → Run WorldStep (fresh_world shapes image) entries w → slice_get shapes k ≡ Some shape → CompletesOnceInOrder (requests_of (happened k entries))
disk_completes shapes image entries w k shape are run there =
    let lane = lane_at shapes image entries w k shape run there in
    lane_completes shape (happened k entries) lane.0 (shape_at 0 shapes k shape are there) ((lanes_run shapes image entries w run).each k shape lane.0 there lane.1)

pub disk_admits : (shapes : List Shape) (image : ImageState) (entries : List SettleEntry) (w : WorldState) (k : ℕ) (shape : Shape) → AreShapes 0 shapes
    → Run WorldStep (fresh_world shapes image) entries w → slice_get shapes k ≡ Some shape → Admission shape.blocks shape.slots (requests_of (happened k entries))
disk_admits shapes image entries w k shape are run there =
    let lane = lane_at shapes image entries w k shape run there in
    lane_admits shape (happened k entries) lane.0 (shape_at 0 shapes k shape are there) ((lanes_run shapes image entries w run).each k shape lane.0 there lane.1)

-- and what its client holds
pub disk_pending : (shapes : List Shape) (image : ImageState) (entries : List SettleEntry) (w : WorldState) (k : ℕ) (shape : Shape) (s : LaneState) → AreShapes 0 shapes
    → Run WorldStep (fresh_world shapes image) entries w → slice_get shapes k ≡ Some shape → slice_get w.lanes k ≡ Some s
    → s.client.pending ≡ drop (length (completed (requests_of (happened k entries)))) (issued (requests_of (happened k entries)))
disk_pending shapes image entries w k shape s are run there lane =
    pending_are shape (happened k entries) s (shape_at 0 shapes k shape are there) ((lanes_run shapes image entries w run).each k shape s there lane)

pub disk_next : (shapes : List Shape) (image : ImageState) (entries : List SettleEntry) (w : WorldState) (k : ℕ) (shape : Shape) (s : LaneState) → AreShapes 0 shapes
    → Run WorldStep (fresh_world shapes image) entries w → slice_get shapes k ≡ Some shape → slice_get w.lanes k ≡ Some s
    → s.client.next_id ≡ length (issued (requests_of (happened k entries)))
disk_next shapes image entries w k shape s are run there lane =
    next_is shape (happened k entries) s (shape_at 0 shapes k shape are there) ((lanes_run shapes image entries w run).each k shape s there lane)
