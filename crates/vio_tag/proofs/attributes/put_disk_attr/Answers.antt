use Rattle.std.proofs.Common.{ap, ◌∙◌}
use Rattle.vio_tag.specs.Attributes.{disk_attr_of}
use Rattle.vio_tag.proofs.AttributeBytes.{disk_attr_reads_back}
use Rattle.vio_tag.proofs.attributes.put_disk_attr.Goals as goal

pub returns-clause-reads_back : goal.returns-clause-reads_back
returns-clause-reads_back c = ap disk_attr_of c.disk_bytes_of.ensures.written ∙ disk_attr_reads_back c.args.attr.now c.disk_bytes_of.ensures.widths
