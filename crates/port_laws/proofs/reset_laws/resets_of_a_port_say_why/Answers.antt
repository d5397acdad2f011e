use Rattle.lane_models.specs.WireAt.{WireGapAt}
use Rattle.lane_models.specs.ResetSays.{WireResetAt}
use Rattle.port_laws.proofs.PortResets.{port_resets_so}
use Rattle.port_laws.proofs.reset_laws.resets_of_a_port_say_why.Goals as goal

pub returns : goal.returns
returns c = record { says = port_resets_so WireResetAt (λ l x both. both.0); gaps = port_resets_so WireGapAt (λ l x both. both.1) }
