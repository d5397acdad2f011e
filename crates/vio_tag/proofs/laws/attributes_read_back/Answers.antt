use Rattle.vio_tag.proofs.AttributeBytes.{disk_attr_reads_back, net_attr_reads_back}
use Rattle.vio_tag.proofs.laws.attributes_read_back.Goals as goal

pub returns-clause-disk : goal.returns-clause-disk
returns-clause-disk c = disk_attr_reads_back

pub returns-clause-net : goal.returns-clause-net
returns-clause-net c = net_attr_reads_back
