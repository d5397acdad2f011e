use Rattle.std.proofs.Common.{ap, ◌∙◌}
use Rattle.lane_models.specs.ServerState.{ServerSession}
use Rattle.lane_models.specs.ServerWork.{slot_at}
use Rattle.vdisk_server.proofs.SlotSteps.{finish_resets, finish_step}
use Rattle.vdisk_server.proofs.end.ServerEnd.finish.Goals as goal

pub returns-in-Ok-clause-step : goal.returns-in-Ok-clause-step
returns-in-Ok-clause-step c =
    finish_step c.args.self.now c.args.channel.now c.args.table.now c.args.memory.now c.end_slot.new.memory c.args.session c.slot_at-slot.result c.args.status
    c.args.self.now.work c.requires.rule
    (c.slot_at-slot.ensures.slot ∙ ap (λ (s : ServerSession). slot_at c.args.self.now s.finished) c.session.view_is)
    c.requires.ends c.in-Ok.ensures.ended c.end_work.new.self c.requires.session c.end_work.ensures

pub returns-in-Err-clause-step : goal.returns-in-Err-clause-step
returns-in-Err-clause-step c =
    finish_resets c.args.self.now c.args.channel.now c.args.table.now c.args.memory.now c.end_slot.new.memory c.args.session c.slot_at-slot.result c.args.status
    c.args.self.now.work c.in-Err.cause c.reset_for.new.out c.reset_for.new.self c.requires.rule
    (c.slot_at-slot.ensures.slot ∙ ap (λ (s : ServerSession). slot_at c.args.self.now s.finished) c.session.view_is)
    c.requires.ends c.in-Err.ensures.ended c.reset_for.ensures.answer c.reset_for.ensures.state
