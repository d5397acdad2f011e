use Rattle.domain_laws.proofs.Isolating.{only_port, port_part}
use Rattle.domain_laws.proofs.run_laws.an_entry_of_a_port_leaves_all_other_lanes.Goals as goal

pub returns : goal.returns
returns c = record { entry = only_port; part = port_part }
