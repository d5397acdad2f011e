use Rattle.switch_laws.proofs.Counting.{runs_out_moving}
use Rattle.switch_laws.proofs.Settling.{some_named}
use Rattle.switch_laws.proofs.settle_laws.rounds_of_a_switch_that_run_out_move_and_name.Goals as goal

pub returns : goal.returns
returns c = record { moving = runs_out_moving; named = some_named }
