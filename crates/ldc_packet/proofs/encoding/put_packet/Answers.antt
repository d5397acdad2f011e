use Rattle.std.proofs.Common.{arith}
use Rattle.ldc_packet.proofs.encoding.put_packet.Goals as goal

pub returns-clause-widths : goal.returns-clause-widths
returns-clause-widths c = (omega arith, c.put_payload.ensures.widths)
