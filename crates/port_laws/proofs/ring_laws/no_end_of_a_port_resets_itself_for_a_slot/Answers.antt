use Rattle.port_laws.proofs.RuleSlots.{port_slots}
use Rattle.port_laws.proofs.ring_laws.no_end_of_a_port_resets_itself_for_a_slot.Goals as goal

pub returns : goal.returns
returns c = port_slots
