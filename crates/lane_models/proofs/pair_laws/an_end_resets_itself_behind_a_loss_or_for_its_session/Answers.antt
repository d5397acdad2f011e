use Rattle.lane_models.proofs.UnforgedResets.{unforged_reset}
use Rattle.lane_models.proofs.pair_laws.an_end_resets_itself_behind_a_loss_or_for_its_session.Goals as goal

pub returns : goal.returns
returns c = unforged_reset
