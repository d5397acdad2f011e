-- What no step of a client changes: the ring's slots and the next id.
use Rattle.std.proofs.Common.{ℕ}
use Rattle.lane_models.specs.ClientState.{ClientState}

pub record Fixed : Type 0 where
  pub slots : ℕ
  pub next_id : ℕ

abbrev pub fixed_of : ClientState → Fixed
fixed_of s = record { slots = s.slots; next_id = s.next_id }
