use Rattle.dring.proofs.Laps.{behind_put, one_slot_put, slot_put}
use Rattle.dring.proofs.laws.one_slot_at_a_time.Goals as goal

pub returns : goal.returns
returns c = record { alone = one_slot_put; there = slot_put; behind = behind_put }
