use Rattle.recorded_lanes.proofs.PortAnswering.{port_reset}
use Rattle.recorded_lanes.proofs.port_calls.reset_end.Goals as goal

pub returns : goal.returns
returns c =
    port_reset c.args.port c.args.lanes.now c.reset-lost.new.self
    c.reset-lost.ensures.ids c.args.side c.port_end.result c.end_of.result c.port_end.ensures c.end_of.ensures
    c.reset-lost.result c.reset-lost.ensures.entry
