use Rattle.lane_models.proofs.CoreLaws.{links_placed}
use Rattle.lane_models.proofs.pair_laws.links_stand_at_one_place.Goals as goal

pub returns : goal.returns
returns c = links_placed
