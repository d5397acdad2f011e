use Rattle.port_laws.proofs.CalmTurns.{calm_turn}
use Rattle.port_laws.proofs.rest_laws.a_calm_turn_finishes_a_port.Goals as goal

pub returns : goal.returns
returns c = calm_turn
