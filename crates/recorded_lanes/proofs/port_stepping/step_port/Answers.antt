use Rattle.std.proofs.Common.{ap, subst, sym, ◌∙◌}
use Rattle.domain_script.specs.declared.event.EndName.{EndName}
use Rattle.ldc_queue.specs.declared.end.End.{End}
use Rattle.ldom_report.specs.LaneEvents.{end_of}
use Rattle.recorded_lanes.proofs.PortLifting.{end_stepped, still_there, takes_frame}
use Rattle.recorded_lanes.specs.OnePort.{PortLeaves}
use Rattle.switched_ports.specs.Events.{is_switched, step_event}
use Rattle.switched_ports.specs.net_lane.Stepping.{net_answer}
use Rattle.recorded_lanes.proofs.port_stepping.step_port.Goals as goal

pub last_frame-frame-requires : goal.last_frame-frame-requires
last_frame-frame-requires c =
    still_there c.args.port c.args.lanes.now c.step_into-switched.new.self c.end_of.result _
    c.step_into-switched.result c.step_into-switched.ensures.entry

pub leave_port-requires-clause-frame : goal.leave_port-requires-clause-frame
leave_port-requires-clause-frame c =
    takes_frame c.args.port c.args.lanes.now c.step_into-switched.new.self c.end_of.result (end_of c.args.side)
    c.step_into-switched.new.out c.last_frame-frame.result.now c.step_into-switched.result c.end_of.ensures
    c.step_into-switched.ensures.entry c.step_into-switched.ensures.frame c.last_frame-frame.ensures

pub leave_port-requires-clause-switched : goal.leave_port-requires-clause-switched
leave_port-requires-clause-switched c =
    c.step_into-switched.ensures.switched
    ∙ ap (λ (e : End). is_switched e c.step_into-switched.new.out) c.end_of.ensures
    ∙ sym (ap (λ (n : EndName). is_switched (end_of n.side) c.step_into-switched.new.out) c.port_end-end.ensures)

pub returns : goal.returns
returns c =
    end_stepped c.args.port c.args.lanes.now c.step_into-switched.new.self c.end_of.result (end_of c.args.side)
    c.step_into-switched.new.out c.last_frame-frame.result.now c.step_into-switched.result c.end_of.ensures
    c.step_into-switched.ensures.entry c.args.in_settle c.args.journal.now c.leave_port.new.journal
    c.leave_port.result c.last_frame-frame.ensures c.step_into-switched.ensures.switched
    c.step_into-switched.ensures.ids c.step_into-switched.ensures.same_ids
    (subst (λ (n : EndName). PortLeaves c.args.in_settle n.lane.number
    (step_event (end_of n.side) (net_answer c.step_into-switched.new.out c.last_frame-frame.result.now)
    c.step_into-switched.result) c.args.journal.now c.leave_port.result c.leave_port.new.journal)
    c.port_end-end.ensures c.leave_port.ensures)
