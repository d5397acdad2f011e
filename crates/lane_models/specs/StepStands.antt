-- Where an end can make a step, whatever waits for it and whatever the memories and tables have.
use Rattle.std.specs.Prelude.{◌≡◌, ◌≢◌, ℕ, ◌<◌, true, List, length, Option, Some, None, ⊤}
use Rattle.std.specs.List.{AllByRecursion}
use Rattle.ldc_link.specs.LinkState.{is_up}
use Rattle.lane_models.specs.Seeing.{Seen}
use Rattle.lane_models.specs.NetEndState.{NetEndState}

-- a packet is 64 bytes
abbrev pub IsPacket : Option (List ℕ) → Type 0
IsPacket None = ⊤
IsPacket (Some packet) = (length packet ≡ 64) × AllByRecursion (λ (byte : ℕ). byte < 256) packet

-- its link is up where its handshake owes a message, and where its session is open
pub record CanStep (s : NetEndState) (at : Seen) : Type 0 where
  pub owed : s.handshake.owed ≢ None → is_up s.link ≡ true
  pub opened : s.session ≢ None → is_up s.link ≡ true
  pub first : IsPacket at.first
