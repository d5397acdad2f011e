use Rattle.std.proofs.Common.{◌≤◌, Bool, slice_set, subst}
use Rattle.std.proofs.lemmas.Result.{IfOk-weaker}
use Rattle.disk_law.specs.ListState.{ImageState}
use Rattle.world_parts.specs.lane_models.LaneState.{LaneState}
use Rattle.world_parts.specs.world_laws.World.{WorldState}
use Rattle.ldc_queue.specs.declared.end.End.TheVariants.{A}
use Rattle.recorded_lanes.proofs.Lifting.{end_steps}
use Rattle.recorded_lanes.proofs.Opened.{lane_is, lane_set, lane_there, over}
use Rattle.recorded_lanes.specs.OneLane.{EndSteps, LaneSteps, kept_bytes}
use Rattle.recorded_lanes.specs.CachedImage.{cached_image}
use Rattle.recorded_lanes.proofs.disks.Disks.step_client.Goals as goal

pub returns-clause-steps : goal.returns-clause-steps
returns-clause-steps g c =
    let image : ImageState =
    cached_image g.D.Store c.self.inside.image in
    let lanes = c.self.inside.lanes.items in
    let w : WorldState = c.args.self.now in
    let old = c.args.journal.now in
    let new = c.client_step.new.journal in
    let t = c.client_step.new.lane in
    let v : WorldState = over (slice_set lanes c.args.disk t) image in
    IfOk-weaker c.client_step.result
    (λ (calm : Bool). (i : ImageState) → LaneSteps c.args.in_settle c.args.disk A c.index_mut-lane.result.now i old
    calm new t i)
    (λ (calm : Bool). EndSteps c.args.in_settle c.args.disk A w old calm new v)
    (λ calm steps. end_steps c.args.in_settle w v c.args.disk A c.index_mut-lane.result.now t old calm new w.image
    (lane_there w lanes image c.args.disk c.index_mut-lane.result.now c.self.view_is c.requires.disk
    c.index_mut-lane.ensures.value)
    (steps w.image) (lane_set w lanes image c.args.disk t c.self.view_is))
    c.client_step.ensures.steps

pub returns-clause-there : goal.returns-clause-there
returns-clause-there g c =
    λ lane found few. c.client_step.ensures.there (subst (λ (s : LaneState). kept_bytes A s ≤ 16)
    (lane_is c.args.self.now c.self.inside.lanes.items
    (cached_image g.D.Store c.self.inside.image) c.args.disk c.index_mut-lane.result.now lane c.self.view_is
    c.requires.disk c.index_mut-lane.ensures.value found) few)
