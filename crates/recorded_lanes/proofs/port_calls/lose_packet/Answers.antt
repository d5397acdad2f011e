use Rattle.recorded_lanes.proofs.PortAnswering.{port_lost, port_lost_none}
use Rattle.recorded_lanes.proofs.port_calls.lose_packet.Goals as goal

pub returns-in-Some : goal.returns-in-Some
returns-in-Some c =
    port_lost c.args.port c.args.lanes.now c.lose.new.self c.lose.ensures.ids
    c.args.side c.port_end-end.result c.end_of.result c.port_end-end.ensures c.end_of.ensures c.lose.result
    c.lose.ensures.entry c.in-Some.packet c.in-Some.is

pub returns-in-None : goal.returns-in-None
returns-in-None c =
    port_lost_none c.args.port c.args.lanes.now c.lose.new.self c.lose.ensures.ids
    c.args.side c.port_end-end.result c.end_of.result c.port_end-end.ensures c.end_of.ensures c.lose.result
    c.lose.ensures.entry c.in-None.is
