use Rattle.std.proofs.Common.{◌∙◌, ap}
use Rattle.lane_models.specs.NetEndState.{NetEndState}
use Rattle.vnet_port.proofs.Keeping.{steps_keep}
use Rattle.vnet_port.proofs.KeptPuts.{Fixed}
use Rattle.vnet_port.proofs.net_end.NetEnd.step_into.Goals as goal

pub invariant_of-self : goal.invariant_of-self
invariant_of-self c =
    (steps_keep c.self.inside.end c.step.new.self c.args.channel.now c.step.new.channel c.args.memory.now c.step.new.memory c.args.peer.now c.step.new.peer
    c.args.table.now c.step.new.out c.self.invariant c.step.ensures.step).stands

pub returns-clause-same_role : goal.returns-clause-same_role
returns-clause-same_role c =
    ap (λ (x : Fixed). x.role)
    (steps_keep c.self.inside.end c.step.new.self c.args.channel.now c.step.new.channel c.args.memory.now c.step.new.memory c.args.peer.now c.step.new.peer
    c.args.table.now c.step.new.out c.self.invariant c.step.ensures.step).fixed
    ∙ ap (λ (s : NetEndState). s.link.role) c.self.view_is

pub returns-clause-same_slots : goal.returns-clause-same_slots
returns-clause-same_slots c =
    ap (λ (x : Fixed). x.slots)
    (steps_keep c.self.inside.end c.step.new.self c.args.channel.now c.step.new.channel c.args.memory.now c.step.new.memory c.args.peer.now c.step.new.peer
    c.args.table.now c.step.new.out c.self.invariant c.step.ensures.step).fixed
    ∙ ap (λ (s : NetEndState). s.slots) c.self.view_is

pub returns-clause-same_ids : goal.returns-clause-same_ids
returns-clause-same_ids c =
    ap (λ (x : Fixed). x.next_id)
    (steps_keep c.self.inside.end c.step.new.self c.args.channel.now c.step.new.channel c.args.memory.now c.step.new.memory c.args.peer.now c.step.new.peer
    c.args.table.now c.step.new.out c.self.invariant c.step.ensures.step).fixed
    ∙ ap (λ (s : NetEndState). s.next_id) c.self.view_is
