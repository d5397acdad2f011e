use Rattle.world_laws.proofs.WorldWords.{lane_agrees, lane_lawful, lane_one, lane_up}
use Rattle.world_laws.proofs.word_laws.lanes_are_lawful.Goals as goal

pub returns : goal.returns
returns c = record { lawful = lane_lawful; agrees = lane_agrees; up = lane_up; one = lane_one }
