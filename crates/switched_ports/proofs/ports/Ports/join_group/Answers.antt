use Rattle.net_lane.specs.Calls.{joining}
use Rattle.lane_models.specs.NetEvent.{Joins}
use Rattle.switched_ports.proofs.Asides.{aside_entry, aside_none, aside_tied}
use Rattle.switched_ports.proofs.ports.Ports.join_group.Goals as goal

pub invariant_of-self : goal.invariant_of-self
invariant_of-self c =
    aside_tied c.self.inside.lanes.items c.self.inside.switch.ports c.args.self.now c.args.port c.index_mut.result.now
    c.join_group.new.self
    (Joins (joining c.join_group.result c.args.address)) c.self.view_is c.self.invariant c.requires
    c.index_mut.ensures.value
    (tt) c.join_group.ensures.step

pub returns-clause-entry : goal.returns-clause-entry
returns-clause-entry c =
    aside_entry c.self.inside.lanes.items c.self.inside.switch.ports c.args.self.now c.args.port c.index_mut.result.now
    c.join_group.new.self
    (Joins (joining c.join_group.result c.args.address)) c.self.view_is c.self.invariant c.requires
    c.index_mut.ensures.value
    (tt) c.join_group.ensures.step

pub returns-clause-ids : goal.returns-clause-ids
returns-clause-ids c =
    aside_none c.self.inside.lanes.items c.self.inside.switch.ports c.args.self.now c.args.port c.index_mut.result.now
    c.join_group.new.self
    (Joins (joining c.join_group.result c.args.address)) c.self.view_is c.self.invariant c.requires
    c.index_mut.ensures.value
    (tt) c.join_group.ensures.step c.join_group.ensures.ids
