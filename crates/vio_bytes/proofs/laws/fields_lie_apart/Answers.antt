use Rattle.vio_bytes.proofs.InOrder.{sound_apart}
use Rattle.vio_bytes.proofs.laws.fields_lie_apart.Goals as goal

pub returns : goal.returns
returns c = sound_apart
