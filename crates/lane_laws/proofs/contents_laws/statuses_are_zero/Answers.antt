use Rattle.lane_laws.proofs.Statuses.{run_done_zero, run_finished_zero, run_moved_none, run_zero}
use Rattle.lane_laws.proofs.contents_laws.statuses_are_zero.Goals as goal

pub returns : goal.returns
returns c = record { moved = run_moved_none; finished = run_finished_zero; done = run_done_zero; logged = run_zero }
