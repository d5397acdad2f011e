use Rattle.std.proofs.Common.{[], ◌∷◌}
use Rattle.recorded_lanes.specs.world_parts.domain_laws.Lines.{turn}
use Rattle.recorded_lanes.specs.world_parts.Lines.{lane_named}
use Rattle.ldc_queue.specs.declared.end.End.TheVariants.{A, B}
use Rattle.ldom_world.proofs.Turning.{at_error, both_made, first_alone, none_begun}
use Rattle.ldom_world.proofs.world.World.step_both.Goals as goal

pub returns-in_err-step-clause-begun : goal.returns-in_err-step-clause-begun
returns-in_err-step-clause-begun g c =
    at_error c.from_residual.result _
    (none_begun (turn (lane_named c.args.lane) A) (turn (lane_named c.args.lane) B ∷ []) c.args.self.now c.step.new.self
    c.args.journal.now.entries c.step.new.journal.entries
    c.in_err-step.ensures.same.0 c.in_err-step.ensures.same.1)

pub returns-in_err-step-2-clause-begun : goal.returns-in_err-step-2-clause-begun
returns-in_err-step-2-clause-begun g c =
    at_error c.from_residual-in_err-step-2.result _
    (first_alone (lane_named c.args.lane) c.args.self.now c.step.new.self c.step-2.new.self c.args.journal.now.entries
    c.step.new.journal.entries c.step-2.new.journal.entries
    c.in_ok-step.ensures.made c.in_err-step-2.ensures.same.0 c.in_err-step-2.ensures.same.1)

pub returns-clause-made : goal.returns-clause-made
returns-clause-made g c =
    both_made (lane_named c.args.lane) c.args.self.now c.step.new.self c.step-2.new.self c.args.journal.now.entries
    c.step.new.journal.entries c.step-2.new.journal.entries
    c.in_ok-step.ensures.made c.in_ok-step-2.ensures.made
