use Rattle.std.proofs.Common.{◌∙◌, ap}
use Rattle.lane_models.specs.ClientState.{ClientState}
use Rattle.vdisk_client.proofs.Keeping.{steps_keep}
use Rattle.vdisk_client.proofs.Unmoved.{Fixed}
use Rattle.vdisk_client.proofs.client.Client.step_into.Goals as goal

pub invariant_of-self : goal.invariant_of-self
invariant_of-self c =
    (steps_keep c.self.inside.end c.step.new.self c.args.channel.now c.step.new.channel c.args.memory.now c.step.new.memory c.step.new.out c.self.invariant c.step.ensures.step).0

pub returns-clause-same_slots : goal.returns-clause-same_slots
returns-clause-same_slots c =
    ap (λ (x : Fixed). x.slots)
    (steps_keep c.self.inside.end c.step.new.self c.args.channel.now c.step.new.channel c.args.memory.now c.step.new.memory c.step.new.out c.self.invariant c.step.ensures.step).1
    ∙ ap (λ (s : ClientState). s.slots) c.self.view_is

pub returns-clause-same_ids : goal.returns-clause-same_ids
returns-clause-same_ids c =
    ap (λ (x : Fixed). x.next_id)
    (steps_keep c.self.inside.end c.step.new.self c.args.channel.now c.step.new.channel c.args.memory.now c.step.new.memory c.step.new.out c.self.invariant c.step.ensures.step).1
    ∙ ap (λ (s : ClientState). s.next_id) c.self.view_is
