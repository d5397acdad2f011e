use Rattle.port_laws.proofs.EveryRun.{every_run}
use Rattle.port_laws.proofs.wire_laws.every_run_of_a_port_is_lawful.Goals as goal

pub returns : goal.returns
returns c = every_run
