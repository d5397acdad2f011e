use Rattle.kind_cases.proofs.PortCounting.{runs_out_moving, some_named}
use Rattle.kind_cases.proofs.switches.rounds_that_run_out_move_and_name.Goals as goal

pub returns : goal.returns
returns c = record { moving = runs_out_moving; named = some_named }
