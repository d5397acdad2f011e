use Rattle.std.proofs.Common.{ap, ◌∙◌}
use Rattle.vio_tag.specs.Attributes.{net_attr_of}
use Rattle.vio_tag.proofs.AttributeBytes.{net_attr_reads_back}
use Rattle.vio_tag.proofs.attributes.put_net_attr.Goals as goal

pub returns-clause-reads_back : goal.returns-clause-reads_back
returns-clause-reads_back c = ap net_attr_of c.net_bytes_of.ensures.written ∙ net_attr_reads_back c.args.attr.now c.net_bytes_of.ensures.widths
