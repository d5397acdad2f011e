use Rattle.std.proofs.Common.{ℕ, List, sym, ap, subst, ◌∙◌}
use Rattle.ldc_queue.specs.declared.end.End.TheVariants.{B}
use Rattle.lane_models.specs.NetEvent.{Steps}
use Rattle.lane_models.specs.NetLaneState.{NetLaneState}
use Rattle.lane_models.specs.NetLaneStep.{NetLaneStep}
use Rattle.vnet_port.specs.Stepping.{TellsLength, net_answer}
use Rattle.net_lane.specs.Fields.{state_of}
use Rattle.net_lane.proofs.NotedSteps.{hub_lane}
use Rattle.net_lane.proofs.port_ends.PortEnds.step_hub.Goals as goal

pub returns-clause-step : goal.returns-clause-step
returns-clause-step c =
    let left = c.step_into.new in
    let next = c.note.new.self in
    subst (λ (s : NetLaneState). NetLaneStep s (Steps B (net_answer left.out next.hub.last)) next) c.self.view_is
    (hub_lane (state_of c.self.inside) c.self.inside.channel left.channel left.self left.memory left.peer left.out c.state-was.result next
    c.self.invariant.hub c.state-was.ensures c.step_into.ensures.step c.note.ensures)

pub returns-clause-count : goal.returns-clause-count
returns-clause-count c =
    subst (λ (bytes : List ℕ). TellsLength c.step_into.new.out bytes) (sym (ap (λ (s : NetLaneState). s.hub.last) c.note.ensures)) c.step_into.ensures.step.count

pub returns-clause-ids : goal.returns-clause-ids
returns-clause-ids c = record {
  hub = ap (λ (s : NetLaneState). s.hub.next_id) c.note.ensures ∙ c.step_into.ensures.same_ids ∙ ap (λ (s : NetLaneState). s.hub.next_id) c.self.view_is;
  guest = ap (λ (s : NetLaneState). s.guest.next_id) c.note.ensures ∙ ap (λ (s : NetLaneState). s.guest.next_id) c.self.view_is;
}
