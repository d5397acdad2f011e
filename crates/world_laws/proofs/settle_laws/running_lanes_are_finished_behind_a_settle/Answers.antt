use Rattle.world_laws.proofs.Behind.{ends_finished}
use Rattle.world_laws.proofs.SettledLanes.{settled_lanes}
use Rattle.world_laws.proofs.settle_laws.running_lanes_are_finished_behind_a_settle.Goals as goal

pub returns : goal.returns
returns c = record { part = settled_lanes; rounds = ends_finished }
