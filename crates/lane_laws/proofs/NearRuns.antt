-- Along every run of a lane that nobody forged and whose store didn't fail the image stays near, and a completion shows its content.
use Rattle.std.proofs.Common.{◌≡◌, ℕ, ◌+◌, ◌-◌, ◌*◌, ◌<◌, ◌≤◌, ◌⊎◌, Bool, false, List, ◌∷◌, drop, length, inl, inr, refl, sym, ap, ◌∙◌, subst, arith}
use Rattle.vdisk_msg.specs.declared.request.Request.{Request}
use Rattle.vdisk_msg.specs.declared.request.Request.TheVariants.{Flush, Read, Write}
use Rattle.vdisk_msg.specs.Requested.{buffer_of, buffer_place}
use Rattle.vdisk_msg.specs.Requests.{given_count}
use Rattle.vio_bytes.proofs.Ranges.{length-range_at, range_at-range_at}
use Rattle.vio_bytes.specs.Range.{range_at}
use Rattle.runs.specs.Lawful.{log_of}
use Rattle.runs.specs.Run.{Run}
use Rattle.lane_laws.specs.DiskLog.{DiskLog, after, nothing_yet}
use Rattle.lane_models.specs.ClientStep.{given_bytes}
use Rattle.lane_models.specs.DiskEvent.{DiskEvent, Misplaced, Stored, Works}
use Rattle.lane_models.specs.LaneState.{IsShape, LaneState, Shape, fresh}
use Rattle.lane_models.specs.LaneStep.{LaneStep, ServerWorks}
use Rattle.lane_models.specs.WireLog.{WireLog}
use Rattle.lane_laws.proofs.CarriedRuns.{all_step}
use Rattle.lane_laws.proofs.RingRuns.{before as clean_before}
use Rattle.lane_laws.proofs.SlotsStepping.{StepFacts}
use Rattle.lane_laws.specs.MemoryStands.{memory_long}
use Rattle.lane_laws.specs.Blocks.{block_at}
use Rattle.lane_laws.specs.Contents.{ContentsStand}
use Rattle.lane_laws.specs.ImageStep.{ImageStep, StoreDoes, StoresOn, content_after}
use Rattle.lane_laws.specs.LaneView.{view_of}
use Rattle.lane_laws.specs.Near.{FrontShows, IsNear, NearView}
use Rattle.lane_laws.specs.NearContent.{PendingPuts, Shows}
use Rattle.lane_laws.specs.ReadsNear.{BlocksShow}
use Rattle.lane_laws.proofs.BehindRing.{range_behind, ring_end}
use Rattle.lane_laws.proofs.FailedRuns.{failed_before, stored_well}
use Rattle.lane_laws.proofs.LaneRuns.{AtStep, at_step, lane_changes, run_contents}
use Rattle.lane_laws.proofs.NearViews.{kind_near}
use Rattle.lane_laws.proofs.PlacedViews.{placed}
use Rattle.lane_laws.proofs.Standing.{Before}
use Rattle.lane_laws.proofs.StoreChanges.{stored_changes}
use Rattle.lane_laws.proofs.WireChanges.{Changed}

-- A FRESH LANE: the image is its own content
pub fresh_is_near : (shape : Shape) (image : List ℕ) → length image ≡ 512 * shape.blocks → IsNear image (fresh shape) image
fresh_is_near shape image long = grind arith

-- A STEP, of an image that the step may change
changed_near : (s : LaneState) (l : DiskLog) (event : DiskEvent) (t : LaneState) (content image next : List ℕ) → Before s l → ContentsStand (view_of s) → Changed s event t → next ≡ image
    → IsNear content s image → NearView s.client.blocks (content_after s content event) (view_of t) next
changed_near s l event t content image next before contents change same near =
    subst (λ (c : List ℕ). NearView s.client.blocks c (view_of t) next) (change.content content)
    (kind_near change.kind s.client.blocks content (view_of s) (view_of t) image next (placed s l before) contents change.change (change.still image next same) near)

store_near : (s : LaneState) (l : DiskLog) (operation block count : ℕ) (failed : Bool) (t : LaneState) (content image next : List ℕ) → Before s l → ContentsStand (view_of s) → failed ≡ false
    → StoresOn s operation block count failed t image next → IsNear content s image → NearView s.client.blocks content (view_of t) next
store_near s l operation block count failed t content image next before contents well stores near =
    let step : ServerWorks s stores.gave (Stored operation block count false) t = subst (λ (f : Bool). ServerWorks s stores.gave (Stored operation block count f) t) well stores.step in
    let does : StoreDoes false s.server.work block stores.gave image next = subst (λ (f : Bool). StoreDoes f s.server.work block stores.gave image next) well stores.does in
    let change = stored_changes s l operation block count stores.gave t before contents step in
    subst (λ (c : List ℕ). NearView s.client.blocks c (view_of t) next) (change.content content)
    (kind_near change.kind s.client.blocks content (view_of s) (view_of t) image next (placed s l before) contents change.change (change.does image next does) near)

event_near : (s : LaneState) (l : DiskLog) (event : DiskEvent) (t : LaneState) (content image next : List ℕ) → Before s l → ContentsStand (view_of s) → StepFacts s l event t
    → (after l event).wire.forged ≡ false → t.failed ≡ false → LaneStep s event t → ImageStep s event t image next → IsNear content s image
    → NearView s.client.blocks (content_after s content event) (view_of t) next
event_near s l (Works (Stored operation block count failed)) t content image next before contents facts clean well step does near =
    store_near s l operation block count failed t content image next before contents (stored_well s does.gave operation block count failed t does.step well) does near
event_near s l (Works Misplaced) t content image next before contents facts clean well step does near = absurd step
event_near s l event t content image next before contents facts clean well step does near =
    changed_near s l event t content image next before contents (lane_changes s l event t before contents facts clean tt step) does near

-- after a run
pub record RunStep (shape : Shape) (events : List DiskEvent) (s : LaneState) (event : DiskEvent) (t : LaneState) : Type 0 where
  pub clean : (after (log_of after (nothing_yet shape) events) event).wire.forged ≡ false
  pub at : AtStep s (log_of after (nothing_yet shape) events) event t
  pub contents : ContentsStand (view_of s)

pub run_step : (shape : Shape) (events : List DiskEvent) (s : LaneState) (event : DiskEvent) (t : LaneState) → IsShape shape → Run LaneStep (fresh shape) events s → LaneStep s event t
    → t.wire.forged ≡ false → t.failed ≡ false → RunStep shape events s event t
run_step shape events s event t sound run step unforged well =
    let l = log_of after (nothing_yet shape) events in
    let holds = run_contents shape events s sound run in
    let stands = (all_step s l event t holds.along.all step).1.stands in
    let clean : (after l event).wire.forged ≡ false = sym (ap (λ (w : WireLog). w.forged) stands.wire) ∙ unforged in
    record {
      clean = clean;
      at = at_step shape sound s l event t holds step clean;
      contents = holds.contents (clean_before l event clean) (failed_before s event t step well);
    }

pub run_near : (shape : Shape) (events : List DiskEvent) (s : LaneState) (event : DiskEvent) (t : LaneState) (content image next : List ℕ) → IsShape shape → Run LaneStep (fresh shape) events s
    → LaneStep s event t → t.wire.forged ≡ false → t.failed ≡ false → ImageStep s event t image next → IsNear content s image → IsNear (content_after s content event) t next
run_near shape events s event t content image next sound run step unforged well does near =
    let l = log_of after (nothing_yet shape) events in
    let here = run_step shape events s event t sound run step unforged well in
    let known = here.at.before.known.stands in
    let behind = here.at.behind in
    let same : s.client.blocks ≡ t.client.blocks =
    known.blocks ∙ ap (λ (x : Shape). x.blocks) known.shape ∙ sym (behind.blocks ∙ ap (λ (x : Shape). x.blocks) behind.shape) in
    subst (λ (b : ℕ). NearView b (content_after s content event) (view_of t) next) same
    (event_near s l event t content image next here.at.before here.contents here.at.facts here.clean well step does near)

-- WHAT A COMPLETION SHOWS
front_puts : (block count : ℕ) (behind : List Request) (m b : ℕ) (bytes : List ℕ) → PendingPuts (Read block count ∷ behind) 0 m b bytes → PendingPuts behind 0 (m - 1) b bytes
front_puts block count behind m b bytes puts = grind arith

front_block : (content : List ℕ) (block count : ℕ) (behind : List Request) (m b : ℕ) (bytes : List ℕ) → Shows content (Read block count ∷ behind) 0 m b bytes
    → (bytes ≡ block_at b content) ⊎ PendingPuts behind 0 (m - 1) b bytes
front_block content block count behind m b bytes (inl same) = inl same
front_block content block count behind m b bytes (inr puts) = inr (front_puts block count behind m b bytes puts)

given_block : (slots slot count b : ℕ) (memory : List ℕ) → b < count → block_at b (buffer_of slots slot (512 * count) memory) ≡ range_at (32768 * slot + 512 * b) 512 (drop (ring_end slots) memory)
given_block slots slot count b memory below =
    let place : buffer_place slots slot + 512 * b ≡ ring_end slots + (32768 * slot + 512 * b) = omega arith in
    range_at-range_at (512 * b) 512 (buffer_place slots slot) (512 * count) memory (omega (arith, below))
    ∙ ap (λ (p : ℕ). range_at p 512 memory) place
    ∙ range_behind (ring_end slots) (32768 * slot + 512 * b) 512 memory

pub given_whole : (status : ℕ) (request : Request) (slots slot : ℕ) (memory : List ℕ) → status ≡ 0 → given_bytes status request slots slot memory ≡ buffer_of slots slot (given_count request) memory
given_whole status request slots slot memory none = ap (λ (n : ℕ). given_bytes n request slots slot memory) none

pub front_shows : (blocks : ℕ) (content : List ℕ) (request : Request) (behind : List Request) (m slots slot : ℕ) (memory bytes : List ℕ) → slot < slots → length memory ≡ memory_long slots
    → given_count request ≤ 32768 → bytes ≡ buffer_of slots slot (given_count request) memory
    → ((block count : ℕ) → request ≡ Read block count → BlocksShow content (request ∷ behind) m 0 block count (32768 * slot) (drop (ring_end slots) memory)) → FrontShows content (request ∷ behind) m bytes
front_shows blocks content (Read block count) behind m slots slot memory bytes below long small is shows = (
  ap length is ∙ length-range_at (buffer_place slots slot) (512 * count) memory (omega (arith, below, long, small)),
  λ b less.
      subst (λ (x : List ℕ). (x ≡ block_at (block + b) content) ⊎ PendingPuts behind 0 (m - 1) (block + b) x) (sym (ap (block_at b) is ∙ given_block slots slot count b memory less))
      (front_block content block count behind m (block + b) _ (shows block count refl b less)),
)
front_shows blocks content (Write block count fill) behind m slots slot memory bytes below long small is shows = is
front_shows blocks content Flush behind m slots slot memory bytes below long small is shows = is
