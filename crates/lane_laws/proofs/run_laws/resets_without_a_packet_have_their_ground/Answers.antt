use Rattle.lane_laws.proofs.WorkRuns.{own_resets_lawful}
use Rattle.lane_laws.proofs.run_laws.resets_without_a_packet_have_their_ground.Goals as goal

pub returns : goal.returns
returns c = own_resets_lawful
