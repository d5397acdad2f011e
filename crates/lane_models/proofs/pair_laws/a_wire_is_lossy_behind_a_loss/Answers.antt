use Rattle.lane_models.proofs.LossesTold.{loss_kept, loss_told, queues_emptied}
use Rattle.lane_models.proofs.pair_laws.a_wire_is_lossy_behind_a_loss.Goals as goal

pub returns : goal.returns
returns c = record { lossy = loss_told; lost = loss_kept; emptied = queues_emptied }
