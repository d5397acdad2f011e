use Rattle.lane_laws.proofs.BufferRuns.{run_buffers, run_work, run_written}
use Rattle.lane_laws.proofs.contents_laws.buffers_hold_what_was_asked.Goals as goal

pub returns : goal.returns
returns c = record { contents = run_buffers; written = run_written; work = run_work }
