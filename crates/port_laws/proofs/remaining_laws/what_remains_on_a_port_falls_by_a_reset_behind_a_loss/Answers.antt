use Rattle.port_laws.proofs.RemainingResets.{port_again, port_begins, port_own}
use Rattle.port_laws.proofs.remaining_laws.what_remains_on_a_port_falls_by_a_reset_behind_a_loss.Goals as goal

pub returns : goal.returns
returns c = record { resets = port_begins; again = port_again; own = port_own }
