use Rattle.lane_laws.proofs.CountedRuns.{ids_count_up}
use Rattle.lane_laws.proofs.StandingRuns.{admission_lawful, once_lawful, runs_lawful}
use Rattle.lane_laws.proofs.invariant_laws.requests_complete_once_in_order_on_a_lane.Goals as goal

pub returns : goal.returns
returns c = record { admission = admission_lawful; once = once_lawful; ids = ids_count_up; runs = runs_lawful }
