use Rattle.world_laws.proofs.BehindDisks.{world_around}
use Rattle.domain_laws.specs.Domain.{fresh_domain}
use Rattle.domain_laws.proofs.Isolating.{disk_part, only_disk}
use Rattle.domain_laws.proofs.Running.{disks_run}
use Rattle.domain_laws.proofs.run_laws.an_entry_of_a_disk_leaves_all_other_lanes.Goals as goal

pub returns : goal.returns
returns c = record {
  entry = only_disk;
  part = disk_part;
  image = λ shapes image nets first store entries w k event v shape world told run step there now.
      world_around shapes image first store entries w.first k event v.first shape world told (disks_run (fresh_domain shapes image nets) entries w run) step.of_first there now;
}
