use Rattle.std.proofs.Common.{ap}
use Rattle.vnet_msg.specs.Descriptor.{canonical}
use Rattle.vnet_msg.proofs.Spelling.{canonical_reads_back, same_bytes}
use Rattle.vnet_msg.proofs.laws.descriptors_read_back.Goals as goal

pub returns-clause-reads_back : goal.returns-clause-reads_back
returns-clause-reads_back c = canonical_reads_back

pub returns-clause-same_bytes : goal.returns-clause-same_bytes
returns-clause-same_bytes c = λ one other fits_one fits_other. (λ same. ap canonical same, same_bytes one other fits_one fits_other)
