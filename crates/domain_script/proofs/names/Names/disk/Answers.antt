use Rattle.std.proofs.Common.{ap, arith}
use Rattle.domain_script.proofs.Taken.{none_past}
use Rattle.domain_script.proofs.names.Names.disk.Goals as goal

pub returns-else-k-self-clause-value : goal.returns-else-k-self-clause-value
returns-else-k-self-clause-value c =
    none_past c.self.inside.disks c.args.self.now.disks c.self.inside.disk_count c.args.k (ap (λ s. s.disks) c.self.view_is) (omega arith) (omega arith)
