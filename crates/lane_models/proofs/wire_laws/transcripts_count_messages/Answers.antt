use Rattle.lane_models.proofs.SameSayings.{half_heard_is, half_said_is, heard_is, said_is}
use Rattle.lane_models.proofs.wire_laws.transcripts_count_messages.Goals as goal

pub returns : goal.returns
returns c = record { said = said_is; heard = heard_is; half_said = half_said_is; half_heard = half_heard_is }
