use Rattle.ldom_dump.proofs.DumpLemmas.{tells_carried}
use Rattle.ldom_dump.proofs.lines.push_carried.Goals as goal

pub returns-in-Some : goal.returns-in-Some
returns-in-Some c = tells_carried _ c.in-Some.bytes.now _ _ c.in-Some.ensures.some c.push_message_of.ensures
