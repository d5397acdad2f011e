use Rattle.port_laws.proofs.NoRefusal.{port_unforged_wire}
use Rattle.port_laws.proofs.wire_laws.an_end_of_a_port_resets_itself_behind_a_loss_alone.Goals as goal

pub returns : goal.returns
returns c = port_unforged_wire
