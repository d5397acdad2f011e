use Rattle.port_laws.proofs.RingRuns.{rings_stand}
use Rattle.port_laws.proofs.ring_laws.the_ring_of_each_end_holds_its_frames.Goals as goal

pub returns : goal.returns
returns c = rings_stand
