use Rattle.world_laws.proofs.Along.{lanes_run}
use Rattle.world_laws.proofs.moves_laws.each_lane_runs_by_its_events.Goals as goal

pub returns : goal.returns
returns c = lanes_run
