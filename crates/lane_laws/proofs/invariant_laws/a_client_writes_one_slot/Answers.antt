use Rattle.lane_laws.proofs.SlotsWriting.{clears, frees, publishes}
use Rattle.lane_laws.proofs.invariant_laws.a_client_writes_one_slot.Goals as goal

pub returns : goal.returns
returns c = record { opens = clears; publishes = publishes; frees = frees }
