-- What follows of an image that is near: each block is the content's or that of a pending write; and where nothing is pending the image is
-- the content.
use Rattle.std.proofs.Common.{◌≡◌, ℕ, zero, suc, ◌+◌, ◌-◌, ◌*◌, ◌<◌, ◌⊎◌, false, List, [], ◌++◌, take, length, inl, inr, refl, sym, ap, ◌∙◌, subst, arith, length-drop}
use Rattle.std.specs.Prelude.{slice_get}
use Rattle.std.proofs.lemmas.List.{take_all}
use Rattle.std.proofs.Math.Seq.{take-add}
use Rattle.runs.specs.Lawful.{log_of}
use Rattle.runs.specs.Run.{Run}
use Rattle.vdisk_msg.specs.declared.request.Request.{Request}
use Rattle.lane_models.specs.WireLog.{WireLog}
use Rattle.lane_laws.specs.DiskLog.{DiskLog, after, nothing_yet}
use Rattle.lane_models.specs.DiskEvent.{DiskEvent}
use Rattle.lane_models.specs.LaneState.{IsShape, LaneState, Shape, fresh}
use Rattle.lane_models.specs.LaneStep.{LaneStep}
use Rattle.lane_laws.specs.Blocks.{block_at}
use Rattle.lane_laws.specs.Contents.{ContentsStand}
use Rattle.lane_laws.specs.LaneView.{view_of}
use Rattle.lane_laws.specs.Near.{ImageHolds, IsNear}
use Rattle.lane_laws.specs.NearContent.{PendingPuts}
use Rattle.lane_laws.proofs.LaneRuns.{before_of, run_contents}
use Rattle.lane_laws.proofs.NearSteps.{near_disturbed, none_among}
use Rattle.lane_laws.proofs.NearViews.{stored_or_pending}
use Rattle.lane_laws.proofs.PlacedViews.{placed}
use Rattle.lane_laws.proofs.Standing.{Before}

-- EACH BLOCK
holds_by : (s : LaneState) (l : DiskLog) (content image : List ℕ) → Before s l → ContentsStand (view_of s) → IsNear content s image → ImageHolds s.client.blocks content s.client.pending image
holds_by s l content image before contents near = λ b below.
    let places = placed s l before in
    let requests = before.known.stands.requests in
    let m_few = before.near.m in
    let most = before.near.ever.most in
    let next = requests.next in
    let done = requests.done in
    let long : length s.client.pending ≡ length l.work.issued - l.work.done = ap length requests.pending ∙ length-drop l.work.done l.work.issued in
    let all = near_disturbed s.client.blocks content s.client.pending s.near.k s.near.m s.near.u (length s.client.pending) image places.sound near.content_long places.finished
    (omega (arith, m_few, most, next, long)) (stored_or_pending s.client.blocks (view_of s) (view_of s).work refl places contents) near.image_near in
    all.others b below (λ among. none_among (slice_get s.client.pending 0) b among)

-- ALL OF THEM: lists with the same blocks are the same
fronts_same : (n : ℕ) (one other : List ℕ) → ((b : ℕ) → b < n → block_at b one ≡ block_at b other) → take (512 * n) one ≡ take (512 * n) other
fronts_same zero one other same = refl
fronts_same (suc n) one other same =
    let next : 512 * suc n ≡ 512 * n + 512 = omega arith in
    let front = fronts_same n one other (λ b below. same b (omega (arith, below))) in
    ap (λ (m : ℕ). take m one) next ∙ take-add (512 * n) 512 one
    ∙ ap (λ (xs : List ℕ). xs ++ block_at n one) front ∙ ap (λ (xs : List ℕ). take (512 * n) other ++ xs) (same n (omega arith))
    ∙ sym (ap (λ (m : ℕ). take m other) next ∙ take-add (512 * n) 512 other)

same_blocks : (blocks : ℕ) (one other : List ℕ) → length one ≡ 512 * blocks → length other ≡ 512 * blocks → ((b : ℕ) → b < blocks → block_at b one ≡ block_at b other) → one ≡ other
same_blocks blocks one other one_long other_long same =
    sym (take_all (512 * blocks) one (omega (arith, one_long))) ∙ fronts_same blocks one other same ∙ take_all (512 * blocks) other (omega (arith, other_long))

content_block : (image content : List ℕ) (b : ℕ) → (block_at b image ≡ block_at b content) ⊎ PendingPuts [] 0 0 b (block_at b image) → block_at b image ≡ block_at b content
content_block image content b (inl same) = same
content_block image content b (inr puts) = absurd (cc puts.there)

-- BEHIND A RUN
pub known_at : (shape : Shape) (events : List DiskEvent) (s : LaneState) → IsShape shape → Run LaneStep (fresh shape) events s → s.wire.forged ≡ false → s.failed ≡ false
    → Before s (log_of after (nothing_yet shape) events) × ContentsStand (view_of s)
known_at shape events s sound run unforged well =
    let holds = run_contents shape events s sound run in
    let clean : (log_of after (nothing_yet shape) events).wire.forged ≡ false = sym (ap (λ (w : WireLog). w.forged) holds.along.all.stands.wire) ∙ unforged in
    (before_of shape events s sound run clean (holds.near clean), holds.contents clean well)

pub run_holds : (shape : Shape) (events : List DiskEvent) (s : LaneState) (content image : List ℕ) → IsShape shape → Run LaneStep (fresh shape) events s → s.wire.forged ≡ false → s.failed ≡ false
    → IsNear content s image → ImageHolds s.client.blocks content s.client.pending image
run_holds shape events s content image sound run unforged well near =
    let known = known_at shape events s sound run unforged well in holds_by s (log_of after (nothing_yet shape) events) content image known.0 known.1 near

pub run_settled : (shape : Shape) (events : List DiskEvent) (s : LaneState) (content image : List ℕ) → IsShape shape → Run LaneStep (fresh shape) events s → s.wire.forged ≡ false → s.failed ≡ false
    → IsNear content s image → s.client.pending ≡ [] → image ≡ content
run_settled shape events s content image sound run unforged well near nothing =
    let holds = run_holds shape events s content image sound run unforged well near in
    let here : ImageHolds s.client.blocks content [] image = subst (λ (xs : List Request). ImageHolds s.client.blocks content xs image) nothing holds in
    same_blocks s.client.blocks image content near.image_long near.content_long (λ b below. content_block image content b (here b below))
