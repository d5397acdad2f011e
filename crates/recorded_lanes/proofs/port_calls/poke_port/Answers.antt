use Rattle.recorded_lanes.proofs.PortAnswering.{port_not_poked, port_poked}
use Rattle.recorded_lanes.proofs.port_calls.poke_port.Goals as goal

pub returns-then-poke : goal.returns-then-poke
returns-then-poke c =
    port_poked c.args.port c.args.lanes.now c.poke.new.self c.poke.ensures.ids
    c.args.side c.port_end-end.result c.end_of.result c.port_end-end.ensures c.end_of.ensures c.args.at
    c.args.bytes.now c.poke.result c.poke.ensures.entry c.args.kept c.if-poke.true c.requires.kept

pub returns-else-poke : goal.returns-else-poke
returns-else-poke c =
    port_not_poked c.args.port c.args.lanes.now c.poke.new.self c.poke.ensures.ids
    c.args.side c.port_end-end.result c.end_of.result c.port_end-end.ensures c.end_of.ensures c.args.at
    c.args.bytes.now c.poke.result c.poke.ensures.entry c.if-poke.false
