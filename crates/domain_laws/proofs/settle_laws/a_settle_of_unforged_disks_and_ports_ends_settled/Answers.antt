use Rattle.domain_laws.proofs.Settling.{remains_most, settles}
use Rattle.domain_laws.proofs.settle_laws.a_settle_of_unforged_disks_and_ports_ends_settled.Goals as goal

pub returns : goal.returns
returns c = record { settled = settles; bound = remains_most }
