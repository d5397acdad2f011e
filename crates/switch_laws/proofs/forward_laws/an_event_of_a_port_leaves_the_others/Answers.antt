use Rattle.switch_laws.proofs.Forwarding.{leaves_others}
use Rattle.switch_laws.proofs.forward_laws.an_event_of_a_port_leaves_the_others.Goals as goal

pub returns : goal.returns
returns c = leaves_others
