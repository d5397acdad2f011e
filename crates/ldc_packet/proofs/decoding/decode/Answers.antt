use Rattle.ldc_packet.proofs.Reading.{only_spelled}
use Rattle.ldc_packet.proofs.decoding.decode.Goals as goal

pub returns-in-2-clause-only : goal.returns-in-2-clause-only
returns-in-2-clause-only c = only_spelled c.args.bytes.now c.data.result c.data.ensures.decodes
