-- A completion shows the content; and later writes that it may show were disturbed.
use Rattle.std.proofs.Common.{◌≡◌, ℕ, ◌+◌, ◌*◌, ◌%◌, ◌≤◌, false, Some, None, List, ◌∷◌, drop, sym, ap, ◌∙◌, subst, arith}
use Rattle.std.proofs.lemmas.Nat.{mod_below}
use Rattle.runs.specs.Run.{Run}
use Rattle.ldc_queue.specs.declared.end.End.TheVariants.{A}
use Rattle.vdisk_msg.specs.declared.request.Request.{Request}
use Rattle.vdisk_msg.specs.Requests.{defect, given_count}
use Rattle.lane_models.specs.ClientRule as client_rules
use Rattle.lane_models.specs.ClientStep.{completed_slot}
use Rattle.lane_models.specs.DiskEvent.{DiskEvent, Done, Works}
use Rattle.lane_models.specs.LaneState.{IsShape, LaneState, Shape, fresh}
use Rattle.lane_models.specs.LaneStep.{LaneStep}
use Rattle.lane_models.specs.Seeing.{seen}
use Rattle.lane_laws.proofs.MemorySteps.{got_sound}
use Rattle.lane_laws.proofs.Ruling.{client_may}
use Rattle.lane_laws.specs.RuleFacts.{ClientMay}
use Rattle.lane_laws.specs.LaneView.{place_of, view_of}
use Rattle.lane_laws.specs.Near.{FrontShows, IsNear}
use Rattle.lane_laws.specs.ReadsNear.{BlocksShow}
use Rattle.lane_laws.proofs.DoneChanges.{front_split}
use Rattle.lane_laws.proofs.NearRuns.{front_shows, given_whole, run_step}
use Rattle.lane_laws.proofs.Statuses.{run_done_zero}
use Rattle.lane_laws.proofs.WorkCounts.{completed_some}

given_few : (blocks : ℕ) (request : Request) → defect blocks request ≡ None → given_count request ≤ 32768
given_few blocks request admitted = grind arith

pub run_shows : (shape : Shape) (events : List DiskEvent) (s : LaneState) (id operation status : ℕ) (bytes : List ℕ) (t : LaneState) (content image : List ℕ) → IsShape shape
    → Run LaneStep (fresh shape) events s → LaneStep s (Works (Done id operation status bytes)) t → t.wire.forged ≡ false → t.failed ≡ false → IsNear content s image
    → FrontShows content s.client.pending s.near.m bytes
run_shows shape events s id operation status bytes t content image sound run step unforged well near =
    let here = run_step shape events s (Works (Done id operation status bytes)) t sound run step unforged well in
    let known = here.at.before.known in
    let at = seen A s.shape.entries s.wire.wire in
    let c = step.step in
    let may : ClientMay s.client at (client_rules.Completes c.session) = subst (ClientMay s.client at) c.rule (client_may s.client at) in
    let none = run_done_zero shape events s id operation status bytes t sound run step unforged well in
    let n = s.client.slots in
    let slot = completed_slot s.client c.session in
    let behind = drop 1 s.client.pending in
    let front = front_split s.client.pending c.request c.front in
    let some = completed_some s _ id operation status bytes t here.at.before step in
    let place : place_of n c.session 0 ≡ 32768 * slot = let same : c.session.completed + 0 ≡ c.session.completed = omega arith in ap (λ (m : ℕ). 32768 * (m % n)) same in
    subst (λ (xs : List Request). FrontShows content xs s.near.m bytes) (sym front)
    (front_shows s.client.blocks content c.request behind s.near.m n slot s.memory bytes (mod_below c.session.completed n known.memory.some) known.memory.long
    (given_few s.client.blocks c.request (got_sound s.client.blocks s.client.pending 0 c.request known.memory.sound c.front)) (c.bytes_are ∙ given_whole status c.request n slot s.memory none)
    (λ block count is.
    let shows : BlocksShow content s.client.pending s.near.m 0 block count (place_of n c.session 0) (view_of s).buffers =
    near.done c.session may.1 0 (omega (arith, some)) block count (c.front ∙ ap (λ (r : Request). Some r) is) in
    subst (λ (p : ℕ). BlocksShow content (c.request ∷ behind) s.near.m 0 block count p (view_of s).buffers) place
    (subst (λ (xs : List Request). BlocksShow content xs s.near.m 0 block count (place_of n c.session 0) (view_of s).buffers) front shows)))
