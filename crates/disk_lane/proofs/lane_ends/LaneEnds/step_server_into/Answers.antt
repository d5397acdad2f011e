use Rattle.std.proofs.Common.{refl, subst, ap, ◌∙◌}
use Rattle.lane_models.specs.LaneState.{LaneState}
use Rattle.lane_models.specs.Served.{Served}
use Rattle.vdisk_server.specs.Answering.{server_event}
use Rattle.disk_lane.specs.Fields.{state_of}
use Rattle.disk_lane.proofs.NotedSteps.{server_lane}
use Rattle.disk_lane.proofs.lane_ends.LaneEnds.step_server_into.Goals as goal

pub returns-clause-step : goal.returns-clause-step
returns-clause-step g c =
    let left = c.step_into.new in
    let next = c.note_server.new.self in
    let told = g.D.Store.content c.args.store.now in
    subst (λ (s : LaneState). Served s told (server_event left.out) next (g.D.Store.content left.store)) c.self.view_is
    (server_lane (state_of c.self.inside) c.self.inside.channel left.self left.memory _ _ left.out left.channel next
    (ap (λ (s : LaneState). s.stopped) c.self.view_is ∙ c.requires.runs) (record { wire = refl; entries = refl })
    c.step_into.ensures.step c.step_into.ensures.channel c.note_server.ensures)
