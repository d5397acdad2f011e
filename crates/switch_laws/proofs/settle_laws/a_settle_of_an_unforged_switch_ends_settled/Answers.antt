use Rattle.switch_laws.proofs.Falling.{port_falls}
use Rattle.switch_laws.proofs.Settling.{ports_bound, switch_settles}
use Rattle.switch_laws.proofs.settle_laws.a_settle_of_an_unforged_switch_ends_settled.Goals as goal

pub returns : goal.returns
returns c = record { settled = switch_settles; falls = port_falls; bound = ports_bound }
