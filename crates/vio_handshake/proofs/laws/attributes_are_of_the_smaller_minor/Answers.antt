use Rattle.vio_handshake.proofs.Attributing.{of_smaller_minor}
use Rattle.vio_handshake.proofs.laws.attributes_are_of_the_smaller_minor.Goals as goal

pub returns : goal.returns
returns c = of_smaller_minor
