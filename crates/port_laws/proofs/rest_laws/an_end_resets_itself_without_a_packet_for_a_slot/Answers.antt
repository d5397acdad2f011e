use Rattle.port_laws.proofs.RuleRest.{port_resets}
use Rattle.port_laws.proofs.rest_laws.an_end_resets_itself_without_a_packet_for_a_slot.Goals as goal

pub returns : goal.returns
returns c = port_resets
