-- The shape of the lane whose calls are tried: rings of 8 slots and queues of 16 packets.
use Rattle.std.specs.Prelude.{ℕ, List, [], ◌∷◌}
use Rattle.std.proofs.Common.{refl, arith}
use Rattle.net_lane.specs.NetLaneState.{IsNetShape}

pub of_eight : IsNetShape (record { address = 0 ∷ 20 ∷ 79 ∷ 248 ∷ 0 ∷ 1 ∷ []; slots = 8; entries = 16 })
of_eight = record {
  address = refl;
  bytes = (omega arith, (omega arith, (omega arith, (omega arith, (omega arith, (omega arith, tt))))));
  some_slots = omega arith;
  most_slots = omega arith;
  slots = (3, refl);
  some_entries = omega arith;
  most_entries = omega arith;
  entries = (4, refl);
}
