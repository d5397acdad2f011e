use Rattle.recorded_lanes.proofs.PortLifting.{port_answer_given, port_answer_many}
use Rattle.recorded_lanes.proofs.ports.PortLanes.answer_call.Goals as goal

pub returns-clause-many : goal.returns-clause-many
returns-clause-many c =
    port_answer_many c.self.inside.lanes c.args.self.now c.call_port.new.lanes c.self.view_is c.args.port _ _ _ _
    c.in_ok-reserve.ensures.entries c.call_port.ensures.puts.entries _ _ c.call_port.ensures.answer

pub returns-clause-agrees : goal.returns-clause-agrees
returns-clause-agrees c =
    port_answer_given c.self.inside.lanes c.args.self.now c.call_port.new.lanes c.self.view_is c.args.port _ _ _ _
    c.in_ok-reserve.ensures.entries c.call_port.ensures.puts.entries _ _ c.call_port.ensures.answer c.requires.agrees
