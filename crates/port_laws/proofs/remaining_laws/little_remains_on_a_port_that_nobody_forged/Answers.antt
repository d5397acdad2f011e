use Rattle.port_laws.proofs.RemainingBound.{lossy_most, settle_most, whole_most}
use Rattle.port_laws.proofs.remaining_laws.little_remains_on_a_port_that_nobody_forged.Goals as goal

pub returns : goal.returns
returns c = record { whole = whole_most; lossy = lossy_most; allowed = settle_most }
