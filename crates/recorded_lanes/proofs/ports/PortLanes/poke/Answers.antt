use Rattle.recorded_lanes.proofs.PortLifting.{port_answer_given, port_answer_many}
use Rattle.recorded_lanes.proofs.ports.PortLanes.poke.Goals as goal

pub returns-clause-many : goal.returns-clause-many
returns-clause-many c =
    port_answer_many c.self.inside.lanes c.args.self.now c.poke_port-entry.new.lanes c.self.view_is c.args.port _ _ _ _
    c.in_ok-reserve.ensures.entries c.push.ensures.entries _ _ c.poke_port-entry.ensures

pub returns-clause-agrees : goal.returns-clause-agrees
returns-clause-agrees c =
    port_answer_given c.self.inside.lanes c.args.self.now c.poke_port-entry.new.lanes c.self.view_is c.args.port _ _ _ _
    c.in_ok-reserve.ensures.entries c.push.ensures.entries _ _ c.poke_port-entry.ensures c.requires.agrees
