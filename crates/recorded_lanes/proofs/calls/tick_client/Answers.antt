use Rattle.std.proofs.Common.{None, ap, ◌∙◌}
use Rattle.domain_script.specs.declared.event.EndName.{EndName}
use Rattle.ldom_entries.specs.declared.entry.Entry.TheVariants as entry
use Rattle.vio_tag.specs.declared.cause.Cause.TheVariants as the_cause
use Rattle.recorded_lanes.proofs.Answering.{not_ticked, was_ticked}
use Rattle.recorded_lanes.proofs.calls.tick_client.Goals as goal

pub returns-then-tick-clause-answers : goal.returns-then-tick-clause-answers
returns-then-tick-clause-answers c =
    was_ticked c.args.disk c.args.lane.now c.tick.new.self c.reset_entry.result c.tick.result c.if-tick.true
    c.tick.ensures.step
    (c.reset_entry.ensures ∙ ap (λ (e : EndName). entry.Reset e the_cause.Tick None 0) c.client_of.ensures)

pub returns-else-tick-clause-answers : goal.returns-else-tick-clause-answers
returns-else-tick-clause-answers c =
    not_ticked c.args.disk c.args.lane.now c.tick.new.self c.calm_lane.result c.tick.result c.if-tick.false
    c.tick.ensures.step c.calm_lane.ensures
