use Rattle.world_laws.proofs.ImageFaults.{run_calls, run_flushes, run_writes}
use Rattle.world_laws.proofs.fault_laws.calls_of_the_image_are_told.Goals as goal

pub returns : goal.returns
returns c = record { calls = run_calls; flushes = run_flushes; writes = run_writes }
