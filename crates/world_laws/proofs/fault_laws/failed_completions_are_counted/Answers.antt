use Rattle.world_laws.proofs.Counted.{lane_counted}
use Rattle.world_laws.proofs.ImageFaults.{run_faults}
use Rattle.world_laws.proofs.WorldLaws.{disk_counted, world_counted}
use Rattle.world_laws.proofs.fault_laws.failed_completions_are_counted.Goals as goal

pub returns : goal.returns
returns c = record { lane = lane_counted; image = run_faults; disk = disk_counted; world = world_counted }
