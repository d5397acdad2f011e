use Rattle.lane_models.proofs.GroupSets.{among, comes, joined, left, once, refused}
use Rattle.lane_models.proofs.port_laws.lists_of_groups_are_sets.Goals as goal

pub returns : goal.returns
returns c = record {
  among = among;
  joined = joined;
  left = left;
  once = once;
  refused = refused;
  comes = λ set count seven groups behind is. comes set count seven groups behind is;
}
