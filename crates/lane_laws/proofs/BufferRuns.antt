-- Along every run of a lane that nobody forged and whose store didn't fail the buffers of published writes hold what they write.
use Rattle.std.proofs.Common.{◌≡◌, ℕ, ◌+◌, ◌*◌, ◌%◌, false, List, drop, sym, ap, ◌∙◌, arith}
use Rattle.runs.specs.Lawful.{log_of}
use Rattle.runs.specs.Run.{Run}
use Rattle.vdisk_msg.specs.declared.request.Request.TheVariants.{Write}
use Rattle.vdisk_msg.specs.Requested.{buffer_of, buffer_place}
use Rattle.vio_bytes.specs.Range.{range_at}
use Rattle.lane_models.specs.WireLog.{WireLog}
use Rattle.lane_laws.specs.DiskLog.{after, nothing_yet}
use Rattle.lane_models.specs.DiskEvent.{DiskEvent}
use Rattle.lane_models.specs.LaneState.{IsShape, LaneState, Shape, fresh}
use Rattle.lane_models.specs.LaneStep.{LaneStep}
use Rattle.lane_laws.specs.Contents.{ContentsStand, WorkHeld, WritesHeld}
use Rattle.lane_laws.specs.LaneView.{view_of}
use Rattle.lane_laws.proofs.BehindRing.{range_behind, ring_end}
use Rattle.lane_laws.proofs.Holding.{known_at}
use Rattle.lane_laws.proofs.LaneRuns.{run_contents}
use Rattle.lane_laws.proofs.PlacedViews.{working}

pub run_buffers : (shape : Shape) (events : List DiskEvent) (s : LaneState) → IsShape shape → Run LaneStep (fresh shape) events s → s.wire.forged ≡ false → s.failed ≡ false → ContentsStand (view_of s)
run_buffers shape events s sound run unforged well =
    let holds = run_contents shape events s sound run in
    holds.contents (sym (ap (λ (w : WireLog). w.forged) holds.along.all.stands.wire) ∙ unforged) well

-- in the client's memory
buffer_behind : (slots slot n : ℕ) (memory : List ℕ) → buffer_of slots slot n memory ≡ range_at (32768 * slot) n (drop (ring_end slots) memory)
buffer_behind slots slot n memory =
    let place : buffer_place slots slot ≡ ring_end slots + 32768 * slot = omega arith in
    ap (λ (p : ℕ). range_at p n memory) place ∙ range_behind (ring_end slots) (32768 * slot) n memory

pub run_written : (shape : Shape) (events : List DiskEvent) (s : LaneState) → IsShape shape → Run LaneStep (fresh shape) events s → s.wire.forged ≡ false → s.failed ≡ false → WritesHeld s
run_written shape events s sound run unforged well =
    let contents = run_buffers shape events s sound run unforged well in
    λ session is i below block count fill got.
    buffer_behind s.client.slots ((session.completed + i) % s.client.slots) (512 * count) s.memory ∙ contents.writes session is i below (Write block count fill) got

-- and the descriptor in work is of a request
pub run_work : (shape : Shape) (events : List DiskEvent) (s : LaneState) → IsShape shape → Run LaneStep (fresh shape) events s → s.wire.forged ≡ false → s.failed ≡ false → WorkHeld (view_of s)
run_work shape events s sound run unforged well =
    let known = known_at shape events s sound run unforged well in
    λ work is.
    let on = working s (log_of after (nothing_yet shape) events) work known.0 is in
    record { request = on.request; next = on.next; progress = known.1.work work is on.request on.next }
