use Rattle.world_laws.proofs.StatusLaws.{done_tells, finished_tells, run_tells}
use Rattle.world_laws.proofs.WorldLaws.{world_tells}
use Rattle.world_laws.proofs.fault_laws.statuses_tell_failing_stores.Goals as goal

pub returns : goal.returns
returns c = record { finished = finished_tells; done = done_tells; run = run_tells; world = world_tells }
