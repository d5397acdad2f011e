use Rattle.switched_ports.proofs.Entries.{one_more}
use Rattle.switched_ports.proofs.ports.Ports.step_into.Goals as goal

pub returns-in-A-clause-ids : goal.returns-in-A-clause-ids
returns-in-A-clause-ids c = one_more c.args.self.now c.step_guest.new.self c.step_guest.ensures.ids
