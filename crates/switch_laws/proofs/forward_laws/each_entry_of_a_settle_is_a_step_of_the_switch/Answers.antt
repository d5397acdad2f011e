use Rattle.switch_laws.proofs.Entries.{part_runs}
use Rattle.switch_laws.proofs.forward_laws.each_entry_of_a_settle_is_a_step_of_the_switch.Goals as goal

pub returns : goal.returns
returns c = part_runs
