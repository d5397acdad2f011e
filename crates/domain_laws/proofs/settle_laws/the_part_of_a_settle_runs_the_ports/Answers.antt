use Rattle.domain_laws.proofs.Parts.{ports_by_part}
use Rattle.domain_laws.proofs.settle_laws.the_part_of_a_settle_runs_the_ports.Goals as goal

pub returns : goal.returns
returns c = ports_by_part
