use Rattle.kind_cases.proofs.Settling.{ports_move, twins_move}
use Rattle.kind_cases.proofs.switches.each_port_is_run_by_what_happened_to_it.Goals as goal

pub returns : goal.returns
returns c = record { one = ports_move; other = twins_move }
