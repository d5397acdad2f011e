use Rattle.std.proofs.Common.{slice_set}
use Rattle.disk_law.specs.ListState.{ImageState}
use Rattle.world_parts.specs.world_laws.World.{WorldState}
use Rattle.ldc_queue.specs.declared.end.End.TheVariants.{B}
use Rattle.recorded_lanes.proofs.Lifting.{end_steps}
use Rattle.recorded_lanes.proofs.Opened.{image_there, lane_there, one_set, over}
use Rattle.recorded_lanes.specs.OneLane.{LaneSteps}
use Rattle.recorded_lanes.specs.CachedImage.{cached_image}
use Rattle.recorded_lanes.proofs.disks.Disks.step_server.Goals as goal

pub returns : goal.returns
returns g c =
    let image : ImageState =
    cached_image g.D.Store c.self.inside.image in
    let behind : ImageState =
    cached_image g.D.Store c.server_step.new.image in
    let lanes = c.self.inside.lanes.items in
    let w : WorldState = c.args.self.now in
    let old = c.args.journal.now in
    let new = c.server_step.new.journal in
    let calm = c.server_step.result in
    let s = c.index_mut-lane.result.now in
    let t = c.server_step.new.lane in
    end_steps c.args.in_settle w (over (slice_set lanes c.args.disk t) behind) c.args.disk B s t old calm new behind
    (lane_there w lanes image c.args.disk s c.self.view_is c.requires.disk c.index_mut-lane.ensures.value)
    (image_there w lanes image
    (λ (i : ImageState). LaneSteps c.args.in_settle c.args.disk B s i old calm new t behind)
    c.self.view_is c.server_step.ensures.steps)
    (one_set w lanes image behind c.args.disk t c.self.view_is)
