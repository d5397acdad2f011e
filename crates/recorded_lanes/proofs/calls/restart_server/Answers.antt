use Rattle.std.proofs.Common.{None, ap, ◌∙◌}
use Rattle.domain_script.specs.declared.event.EndName.{EndName}
use Rattle.ldom_entries.specs.declared.entry.Entry.TheVariants as entry
use Rattle.ldom_entries.specs.declared.entry.Who.TheVariants.{End as OfEnd}
use Rattle.vio_tag.specs.declared.cause.Cause.TheVariants as the_cause
use Rattle.recorded_lanes.proofs.Answering.{not_restarted, was_restarted}
use Rattle.recorded_lanes.proofs.calls.restart_server.Goals as goal

pub returns-then-restart-clause-answers : goal.returns-then-restart-clause-answers
returns-then-restart-clause-answers c =
    was_restarted c.args.disk c.args.lane.now c.restart.new.self c.reset_entry.result c.restart.result
    c.if-restart.true c.restart.ensures.step
    (c.reset_entry.ensures ∙ ap (λ (e : EndName). entry.Reset e the_cause.Restart None 0) c.server_of-end.ensures)

pub returns-else-restart-clause-answers : goal.returns-else-restart-clause-answers
returns-else-restart-clause-answers c =
    not_restarted c.args.disk c.args.lane.now c.restart.new.self (entry.Calm (OfEnd c.server_of-end.result))
    c.restart.result c.if-restart.false c.restart.ensures.step
    (ap (λ (e : EndName). entry.Calm (OfEnd e)) c.server_of-end.ensures)
