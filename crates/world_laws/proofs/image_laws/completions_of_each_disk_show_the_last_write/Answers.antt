use Rattle.world_laws.proofs.Contents.{own_completion}
use Rattle.world_laws.proofs.Fronts.{front_completion}
use Rattle.world_laws.proofs.image_laws.completions_of_each_disk_show_the_last_write.Goals as goal

pub returns : goal.returns
returns c = record { steps = own_completion; fronts = front_completion }
