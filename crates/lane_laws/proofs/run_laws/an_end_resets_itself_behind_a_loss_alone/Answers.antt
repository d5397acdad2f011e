use Rattle.lane_laws.proofs.OwnResets.{own_reset, unforged_lawful}
use Rattle.lane_laws.proofs.run_laws.an_end_resets_itself_behind_a_loss_alone.Goals as goal

pub returns : goal.returns
returns c = record { step = own_reset; run = unforged_lawful }
