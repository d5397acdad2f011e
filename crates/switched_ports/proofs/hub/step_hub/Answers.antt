use Rattle.switched_ports.proofs.Switching.{hub_steps, still_differ, takes}
use Rattle.switched_ports.proofs.hub.step_hub.Goals as goal

pub hand_on-switched-requires-clause-frame : goal.hand_on-switched-requires-clause-frame
hand_on-switched-requires-clause-frame c =
    takes c.args.port c.args.lane.now c.hand_over.new.lane c.step_into.new.self c.args.switch.now.ports
    c.hand_over.new.switch.ports
    c.step_into.new.out c.hand_over.ensures c.step_into.ensures.step c.requires.reached

pub tell-requires-clause-differ : goal.tell-requires-clause-differ
tell-requires-clause-differ c =
    still_differ c.args.port c.args.lane.now c.hand_over.new.lane c.step_into.new.self c.args.switch.now.ports
    c.hand_over.new.switch.ports
    c.hand_on-switched.new.switch.ports c.step_into.new.out c.hand_on-switched.result c.hand_over.ensures
    c.step_into.ensures.step
    c.hand_on-switched.ensures.puts c.requires.differ

pub returns-clause-steps : goal.returns-clause-steps
returns-clause-steps c =
    hub_steps c.args.port c.args.lane.now c.hand_over.new.lane c.step_into.new.self c.args.switch.now.ports
    c.hand_over.new.switch.ports
    c.hand_on-switched.new.switch.ports c.step_into.new.out c.hand_on-switched.result c.hand_over.ensures
    c.step_into.ensures.step
    c.hand_on-switched.ensures.puts c.tell.new.switch.ports c.requires.known c.step_into.ensures.ids c.tell.ensures
