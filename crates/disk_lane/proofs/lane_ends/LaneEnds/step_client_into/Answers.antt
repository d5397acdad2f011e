use Rattle.std.proofs.Common.{refl, subst}
use Rattle.lane_models.specs.LaneState.{LaneState}
use Rattle.lane_models.specs.LaneStep.{LaneStep}
use Rattle.vdisk_client.specs.Calls.{client_event}
use Rattle.disk_lane.specs.Fields.{state_of}
use Rattle.disk_lane.proofs.NotedSteps.{client_lane, client_own}
use Rattle.disk_lane.proofs.lane_ends.LaneEnds.step_client_into.Goals as goal

pub returns-clause-step : goal.returns-clause-step
returns-clause-step c =
    let left = c.step_into.new in
    let next = c.note_client.new.self in
    subst (λ (s : LaneState). LaneStep s (client_event left.out next.client.last) next) c.self.view_is
    (client_lane (state_of c.self.inside) c.self.inside.channel left.channel left.self left.memory left.out next
    (record { wire = refl; entries = refl }) c.step_into.ensures.step c.note_client.ensures)

pub returns-clause-own : goal.returns-clause-own
returns-clause-own c =
    let left = c.step_into.new in
    client_own (state_of c.self.inside) c.self.inside.channel left.channel left.self left.memory left.out
    c.step_into.ensures.step
