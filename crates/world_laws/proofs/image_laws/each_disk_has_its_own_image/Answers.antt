use Rattle.world_laws.proofs.OwnImages.{has_own}
use Rattle.world_laws.proofs.image_laws.each_disk_has_its_own_image.Goals as goal

pub returns : goal.returns
returns c = has_own
