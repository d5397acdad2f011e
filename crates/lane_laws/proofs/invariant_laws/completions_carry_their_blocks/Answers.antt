use Rattle.lane_laws.proofs.CarriedRuns.{carries_lawful}
use Rattle.lane_laws.proofs.invariant_laws.completions_carry_their_blocks.Goals as goal

pub returns : goal.returns
returns c = carries_lawful
