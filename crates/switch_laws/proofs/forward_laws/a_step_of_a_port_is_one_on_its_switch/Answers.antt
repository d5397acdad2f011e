use Rattle.switch_laws.proofs.Steps.{as_on_switch, on_port, run_on_port}
use Rattle.switch_laws.proofs.forward_laws.a_step_of_a_port_is_one_on_its_switch.Goals as goal

pub returns : goal.returns
returns c = record { alone = as_on_switch; step = on_port; run = run_on_port }
