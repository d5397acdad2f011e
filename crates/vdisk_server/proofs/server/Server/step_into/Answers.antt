use Rattle.descriptor_work.specs.Calling.{reach_over}
use Rattle.vdisk_server.specs.Answering.{sees, server_event}
use Rattle.vdisk_server.proofs.StandStep.{stands_step}
use Rattle.vdisk_server.proofs.server.Server.step_into.Goals as goal

pub invariant_of-self : goal.invariant_of-self
invariant_of-self g c =
    stands_step c.self.inside.end (sees c.args.channel.now) (reach_over c.args.channel.now c.args.table.now c.args.memory.now)
    c.step.ensures.step.gave (server_event c.step.new.out) c.step.new.self c.step.new.memory c.self.invariant c.step.ensures.step.step
