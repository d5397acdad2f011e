use Rattle.disk_law.proofs.OnceInOrder.{admission}
use Rattle.disk_law.proofs.laws.each_request_is_admitted.Goals as goal

pub returns : goal.returns
returns c = admission
