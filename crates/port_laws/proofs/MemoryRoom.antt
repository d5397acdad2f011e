-- The room of both memories of a port's lane for their rings.
use Rattle.std.proofs.Common.{◌≡◌, ℕ, zero, suc, ◌+◌, ◌≤◌, List, length, sym, subst, arith, length-append, length-drop}
use Rattle.std.specs.Prelude.{◌*◌, ◌^◌}
use Rattle.std.proofs.lemmas.List.{length-take}
use Rattle.vio_bytes.specs.Place.{put_at}
use Rattle.vnet_msg.specs.Frames.{memory_pages}
use Rattle.lane_models.proofs.Moving.{before_keeps}
use Rattle.lane_models.specs.NetEvent.{NetEvent}
use Rattle.lane_models.specs.NetLaneState.{NetLaneState}
use Rattle.lane_models.specs.PortState.{PortState, before}

-- WRITES
pub put_longer : (at : ℕ) (piece bytes : List ℕ) → length bytes ≤ length (put_at at piece bytes)
put_longer at piece bytes = grind (arith, length-append, length-take, length-drop)

-- BOTH MEMORIES have room for the ring and its buffers
pub record MemoryHasRoom (slots : ℕ) (s : NetLaneState) : Type 0 where
  pub guest : 8192 + 2048 * slots ≤ length s.guest_memory
  pub hub : 8192 + 2048 * slots ≤ length s.hub_memory

pub before_room : (slots : ℕ) (event : NetEvent) (s : PortState) → MemoryHasRoom slots s.lane → MemoryHasRoom slots (before event s).lane
before_room slots event s room = before_keeps (λ (x : PortState). MemoryHasRoom slots x.lane) event s (λ frame frames. record { guest = room.guest; hub = room.hub }) room

-- the pages of a ring of 2 to 64 slots
power_some : (n : ℕ) → 1 ≤ 2 ^ n
power_some zero = omega arith
power_some (suc n) = omega (arith, power_some n)

abbrev pub Enough : ℕ → Type 0
Enough slots = 8192 + 2048 * slots ≤ 8192 * memory_pages slots

pub power_room : (k slots : ℕ) → slots ≡ 2 ^ k → 2 ≤ slots → slots ≤ 64 → Enough slots
power_room zero slots is some most = absurd (omega (arith, is, some))
power_room (suc (suc (suc (suc (suc (suc (suc k))))))) slots is some most = absurd (omega (arith, is, most, power_some k))
power_room _ slots is some most = subst Enough (sym is) (omega arith)
