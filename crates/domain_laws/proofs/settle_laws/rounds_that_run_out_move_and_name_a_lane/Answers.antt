use Rattle.domain_laws.proofs.Counting.{disk_never, port_never, runs_out_moving, some_named}
use Rattle.domain_laws.proofs.settle_laws.rounds_that_run_out_move_and_name_a_lane.Goals as goal

pub returns : goal.returns
returns c = record { moving = runs_out_moving; named = some_named; disks = disk_never; ports = port_never }
