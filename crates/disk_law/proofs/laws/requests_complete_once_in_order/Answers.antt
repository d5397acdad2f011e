use Rattle.disk_law.proofs.OnceInOrder.{once_in_order}
use Rattle.disk_law.proofs.laws.requests_complete_once_in_order.Goals as goal

pub returns : goal.returns
returns c = once_in_order
