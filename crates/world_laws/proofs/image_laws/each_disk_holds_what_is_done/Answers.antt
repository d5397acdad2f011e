use Rattle.world_laws.proofs.Contents.{own_all, own_holds}
use Rattle.world_laws.proofs.image_laws.each_disk_holds_what_is_done.Goals as goal

pub returns : goal.returns
returns c = record { holds = own_holds; all = own_all }
