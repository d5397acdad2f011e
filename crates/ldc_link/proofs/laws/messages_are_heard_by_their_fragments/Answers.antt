use Rattle.ldc_link.proofs.Hearing.{heard_are_parts}
use Rattle.ldc_link.proofs.laws.messages_are_heard_by_their_fragments.Goals as goal

pub returns : goal.returns
returns c = heard_are_parts
