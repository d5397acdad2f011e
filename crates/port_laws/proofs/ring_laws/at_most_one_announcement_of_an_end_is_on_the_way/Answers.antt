use Rattle.port_laws.proofs.WayRuns.{ways_stand}
use Rattle.port_laws.proofs.ring_laws.at_most_one_announcement_of_an_end_is_on_the_way.Goals as goal

pub returns : goal.returns
returns c = ways_stand
