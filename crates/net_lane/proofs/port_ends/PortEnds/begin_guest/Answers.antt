use Rattle.std.proofs.Common.{◌≡◌, subst}
use Rattle.ldc_queue.specs.declared.end.End.TheVariants.{A}
use Rattle.lane_models.specs.NetLaneState.{NetLaneState}
use Rattle.net_lane.specs.Events.{begun_anew}
use Rattle.net_lane.specs.Fields.{state_of}
use Rattle.net_lane.proofs.NotedSteps.{guest_begun}
use Rattle.net_lane.proofs.port_ends.PortEnds.begin_guest.Goals as goal

pub returns-clause-state : goal.returns-clause-state
returns-clause-state c =
    let next = c.configured.new.self in
    subst (λ (s : NetLaneState). next ≡ begun_anew A s) c.self.view_is
    (guest_begun (state_of c.self.inside) c.self.inside.channel c.reset-lost.new.channel c.reset-lost.new.self c.state-was.result next
    c.self.invariant.guest c.state-was.ensures c.reset-lost.ensures.state c.reset-lost.ensures.channel c.configured.ensures)
