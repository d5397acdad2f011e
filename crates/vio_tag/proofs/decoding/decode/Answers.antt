use Rattle.std.proofs.Common.{Ok}
use Rattle.vio_tag.proofs.Reading.{only_refused}
use Rattle.vio_tag.proofs.decoding.decode.Goals as goal

pub returns-in-Ok-clause-refused : goal.returns-in-Ok-clause-refused
returns-in-Ok-clause-refused c = only_refused c.args.bytes.now (Ok c.message_into.new.message) c.in-Ok.ensures.decodes
