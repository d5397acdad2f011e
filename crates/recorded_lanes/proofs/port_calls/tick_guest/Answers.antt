use Rattle.std.proofs.Common.{length}
use Rattle.switched_ports.specs.States.{queue_at}
use Rattle.recorded_lanes.proofs.PortAnswering.{port_calm_tick, port_ticked}
use Rattle.recorded_lanes.proofs.port_calls.tick_guest.Goals as goal

pub returns-in-Some : goal.returns-in-Some
returns-in-Some c =
    port_ticked c.args.port c.args.lanes.now c.tick.new.self c.tick.ensures.ids
    (length (queue_at c.args.port c.args.lanes.now)) c.tick.result c.tick.ensures.entry c.port_end.result
    c.in-Some.lost c.in-Some.is c.port_end.ensures

pub returns-in-None : goal.returns-in-None
returns-in-None c =
    port_calm_tick c.args.port c.args.lanes.now c.tick.new.self c.tick.ensures.ids
    (length (queue_at c.args.port c.args.lanes.now)) c.tick.result c.tick.ensures.entry c.port_lane.result
    c.in-None.is c.port_lane.ensures
