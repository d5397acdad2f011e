use Rattle.lane_laws.proofs.LaneResets.{gaps_lawful, resets_lawful}
use Rattle.lane_laws.proofs.run_laws.resets_say_why.Goals as goal

pub returns : goal.returns
returns c = record { says = resets_lawful; gap = gaps_lawful }
