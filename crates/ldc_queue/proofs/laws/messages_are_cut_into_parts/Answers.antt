use Rattle.ldc_queue.proofs.Cuts.{cut_into}
use Rattle.ldc_queue.proofs.laws.messages_are_cut_into_parts.Goals as goal

pub returns : goal.returns
returns c = cut_into
