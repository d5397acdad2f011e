use Rattle.lane_kinds.proofs.Both.{run_of_both}
use Rattle.world_laws.specs.World.{WorldStep}
use Rattle.domain_laws.specs.Domain.{PortsStep}
use Rattle.domain_laws.proofs.Running.{disks_run, ports_run}
use Rattle.domain_laws.proofs.run_laws.each_kind_runs_by_the_one_journal.Goals as goal

pub returns : goal.returns
returns c = record { disks = disks_run; ports = ports_run; both = run_of_both WorldStep PortsStep }
