use Rattle.port_laws.proofs.RuleUnforged.{port_unforged}
use Rattle.port_laws.proofs.ring_laws.a_frame_that_is_taken_is_the_next_that_was_published.Goals as goal

pub returns : goal.returns
returns c = port_unforged
