use Rattle.switch_laws.proofs.Moving.{ports_move}
use Rattle.switch_laws.proofs.settle_laws.each_port_is_run_by_what_happened_to_it.Goals as goal

pub returns : goal.returns
returns c = ports_move
