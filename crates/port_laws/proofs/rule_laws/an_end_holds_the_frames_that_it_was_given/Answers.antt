use Rattle.port_laws.proofs.RuleFrames.{guest_holds, hub_holds}
use Rattle.port_laws.proofs.rule_laws.an_end_holds_the_frames_that_it_was_given.Goals as goal

pub returns : goal.returns
returns c = record { guest = guest_holds; hub = hub_holds }
