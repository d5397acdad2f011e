use Rattle.std.proofs.Common.{None, subst, ap, ◌∙◌}
use Rattle.disk_lane.specs.Events.{reset_event}
use Rattle.world_parts.specs.lane_models.LaneStep.{LaneStep}
use Rattle.domain_script.specs.declared.event.EndName.{EndName}
use Rattle.ldc_queue.specs.declared.end.End.{End}
use Rattle.ldom_entries.specs.declared.entry.Entry.TheVariants as entry
use Rattle.ldom_entries.specs.declared.entry.Who.TheVariants.{End as OfEnd}
use Rattle.vio_tag.specs.declared.cause.Cause.TheVariants as the_cause
use Rattle.recorded_lanes.proofs.Answering.{not_reset, was_reset}
use Rattle.recorded_lanes.proofs.calls.reset_end.Goals as goal

pub returns-then-reset-clause-answers : goal.returns-then-reset-clause-answers
returns-then-reset-clause-answers c =
    was_reset c.args.disk c.args.lane.now c.reset.new.self c.reset_entry.result c.args.side c.reset.result
    c.if-reset.true
    (subst (λ (e : End). LaneStep c.args.lane.now (reset_event e c.reset.result) c.reset.new.self) c.end_of.ensures
    c.reset.ensures.step)
    (c.reset_entry.ensures ∙ ap (λ (e : EndName). entry.Reset e the_cause.Asked None 0) c.disk_end-end.ensures)

pub returns-else-reset-clause-answers : goal.returns-else-reset-clause-answers
returns-else-reset-clause-answers c =
    not_reset c.args.disk c.args.lane.now c.reset.new.self (entry.Calm (OfEnd c.disk_end-end.result)) c.args.side
    c.reset.result c.if-reset.false
    (subst (λ (e : End). LaneStep c.args.lane.now (reset_event e c.reset.result) c.reset.new.self) c.end_of.ensures
    c.reset.ensures.step)
    (ap (λ (e : EndName). entry.Calm (OfEnd e)) c.disk_end-end.ensures)
