use Rattle.std.proofs.Common.{◌∙◌}
use Rattle.vio_io.specs.FaultPlan.{after_calls}
use Rattle.vio_io.proofs.Unfailing.{failing_stays, never_fails, count_stays}
use Rattle.vio_io.proofs.laws.a_plan_of_no_call_never_fails.Goals as goal

pub returns-clause-fails : goal.returns-clause-fails
returns-clause-fails c = λ n p none. never_fails (after_calls n p) (failing_stays n p ∙ none)

pub returns-clause-count : goal.returns-clause-count
returns-clause-count c = count_stays
