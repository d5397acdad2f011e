use Rattle.switched_ports.proofs.HubEvents.{reset_differs, reset_entry, reset_none, reset_tied}
use Rattle.switched_ports.proofs.ports.Ports.reset.Goals as goal

pub tell-requires-clause-differ : goal.tell-requires-clause-differ
tell-requires-clause-differ c =
    reset_differs c.self.inside.lanes.items c.self.inside.switch.ports c.args.self.now c.args.port
    c.index_mut-lane.result.now c.self.view_is c.self.invariant c.requires c.index_mut-lane.ensures.value
    c.args.end c.reset-lost.result c.reset-lost.new.self c.self.inside.switch.ports c.reset-lost.ensures.step

pub invariant_of-self : goal.invariant_of-self
invariant_of-self c =
    reset_tied c.self.inside.lanes.items c.self.inside.switch.ports c.args.self.now c.args.port
    c.index_mut-lane.result.now c.self.view_is c.self.invariant c.requires c.index_mut-lane.ensures.value
    c.args.end c.reset-lost.result c.reset-lost.new.self c.tell.new.switch.ports
    c.reset-lost.ensures.step c.tell.ensures

pub returns-clause-entry : goal.returns-clause-entry
returns-clause-entry c =
    reset_entry c.self.inside.lanes.items c.self.inside.switch.ports c.args.self.now c.args.port
    c.index_mut-lane.result.now c.self.view_is c.self.invariant c.requires c.index_mut-lane.ensures.value
    c.args.end c.reset-lost.result c.reset-lost.new.self c.tell.new.switch.ports
    c.reset-lost.ensures.step c.tell.ensures

pub returns-clause-ids : goal.returns-clause-ids
returns-clause-ids c =
    reset_none c.self.inside.lanes.items c.self.inside.switch.ports c.args.self.now c.args.port
    c.index_mut-lane.result.now c.self.view_is c.self.invariant c.requires c.index_mut-lane.ensures.value
    c.args.end c.reset-lost.result c.reset-lost.new.self c.tell.new.switch.ports
    c.reset-lost.ensures.step c.tell.ensures c.reset-lost.ensures.ids
