use Rattle.std.proofs.Common.{◌≡◌, subst}
use Rattle.ldc_queue.specs.declared.end.End.TheVariants.{B}
use Rattle.lane_models.specs.NetLaneState.{NetLaneState}
use Rattle.net_lane.specs.Events.{begun_anew}
use Rattle.net_lane.specs.Fields.{state_of}
use Rattle.net_lane.proofs.NotedSteps.{hub_begun}
use Rattle.net_lane.proofs.port_ends.PortEnds.begin_hub.Goals as goal

pub returns-clause-state : goal.returns-clause-state
returns-clause-state c =
    let next = c.configured.new.self in
    subst (λ (s : NetLaneState). next ≡ begun_anew B s) c.self.view_is
    (hub_begun (state_of c.self.inside) c.self.inside.channel c.reset-lost.new.channel c.reset-lost.new.self c.state-was.result next
    c.self.invariant.hub c.state-was.ensures c.reset-lost.ensures.state c.reset-lost.ensures.channel c.configured.ensures)
