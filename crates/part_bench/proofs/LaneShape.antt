-- The shapes of both ports: rings of 64 slots and queues of 64 packets.
use Rattle.std.specs.Prelude.{ℕ, ◌<◌, [], ◌∷◌}
use Rattle.std.proofs.Common.{refl, arith}
use Rattle.net_lane.specs.NetLaneState.{IsNetShape}

of_port : (n : ℕ) → n < 256 → IsNetShape (record { address = 2 ∷ 0 ∷ 0 ∷ 0 ∷ 0 ∷ n ∷ []; slots = 64; entries = 64 })
of_port n byte = record {
  address = refl;
  bytes = (omega arith, (omega arith, (omega arith, (omega arith, (omega arith, (byte, tt))))));
  some_slots = omega arith;
  most_slots = omega arith;
  slots = (6, refl);
  some_entries = omega arith;
  most_entries = omega arith;
  entries = (6, refl);
}

pub of_first : IsNetShape (record { address = 2 ∷ 0 ∷ 0 ∷ 0 ∷ 0 ∷ 1 ∷ []; slots = 64; entries = 64 })
of_first = of_port 1 (omega arith)

pub of_second : IsNetShape (record { address = 2 ∷ 0 ∷ 0 ∷ 0 ∷ 0 ∷ 2 ∷ []; slots = 64; entries = 64 })
of_second = of_port 2 (omega arith)
