use Rattle.net_lane.specs.Events.{lost_event}
use Rattle.switched_ports.specs.States.{queue_at}
use Rattle.switched_ports.proofs.Aside.{lost_aside}
use Rattle.switched_ports.proofs.Asides.{aside_entry, aside_none, aside_tied}
use Rattle.switched_ports.proofs.ports.Ports.lose.Goals as goal

pub invariant_of-self : goal.invariant_of-self
invariant_of-self c =
    aside_tied c.self.inside.lanes.items c.self.inside.switch.ports c.args.self.now c.args.port c.index_mut.result.now
    c.lose.new.self
    (lost_event c.args.end c.lose.result) c.self.view_is c.self.invariant c.requires c.index_mut.ensures.value
    (lost_aside (queue_at c.args.port c.args.self.now) c.args.end c.lose.result) c.lose.ensures.step

pub returns-clause-entry : goal.returns-clause-entry
returns-clause-entry c =
    aside_entry c.self.inside.lanes.items c.self.inside.switch.ports c.args.self.now c.args.port c.index_mut.result.now
    c.lose.new.self
    (lost_event c.args.end c.lose.result) c.self.view_is c.self.invariant c.requires c.index_mut.ensures.value
    (lost_aside (queue_at c.args.port c.args.self.now) c.args.end c.lose.result) c.lose.ensures.step

pub returns-clause-ids : goal.returns-clause-ids
returns-clause-ids c =
    aside_none c.self.inside.lanes.items c.self.inside.switch.ports c.args.self.now c.args.port c.index_mut.result.now
    c.lose.new.self
    (lost_event c.args.end c.lose.result) c.self.view_is c.self.invariant c.requires c.index_mut.ensures.value
    (lost_aside (queue_at c.args.port c.args.self.now) c.args.end c.lose.result) c.lose.ensures.step c.lose.ensures.ids
