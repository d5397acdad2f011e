use Rattle.lane_laws.proofs.WorkRuns.{pieces_lawful}
use Rattle.lane_laws.proofs.run_laws.what_is_done_is_the_next_piece.Goals as goal

pub returns : goal.returns
returns c = pieces_lawful
