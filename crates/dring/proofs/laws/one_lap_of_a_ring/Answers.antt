use Rattle.dring.proofs.Laps.{one_lap, slots_same}
use Rattle.dring.proofs.laws.one_lap_of_a_ring.Goals as goal

pub returns : goal.returns
returns c = record { apart = one_lap; stays = slots_same }
