use Rattle.std.proofs.Common.{arith, length}
use Rattle.ldc_link.specs.LinkState.{offered}
use Rattle.ldc_link.proofs.Saying.{all_said, said_are_parts}
use Rattle.ldc_link.proofs.laws.messages_are_said_as_their_fragments.Goals as goal

pub returns-clause-fragments : goal.returns-clause-fragments
returns-clause-fragments c = said_are_parts

pub returns-clause-whole : goal.returns-clause-whole
returns-clause-whole c = λ k message up some. all_said (length message) (offered message k) up some (omega arith)
