use Rattle.lane_models.proofs.Sids.{last_sid_counts, last_sid_none}
use Rattle.lane_models.proofs.end_laws.sids_count_how_often_a_link_came_up.Goals as goal

pub returns : goal.returns
returns c = record { counts = last_sid_counts; none = last_sid_none }
