use Rattle.lane_laws.proofs.FramesLost.{lost_lawful}
use Rattle.lane_laws.proofs.run_laws.no_frames_are_lost.Goals as goal

pub returns : goal.returns
returns c = lost_lawful
