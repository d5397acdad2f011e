use Rattle.world_laws.proofs.RequestLaws.{disk_admits, disk_completes}
use Rattle.world_laws.proofs.request_laws.requests_of_each_disk_are_admitted_and_complete_once.Goals as goal

pub returns : goal.returns
returns c = record { once = disk_completes; admission = disk_admits }
