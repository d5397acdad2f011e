-- What always holds of a client's session and its requests, also where somebody forges packets and memory.
use Rattle.std.specs.Prelude.{◌≡◌, ℕ, ◌+◌, ◌<◌, ◌≤◌, true, length, Option, Some, None, ⊤}
use Rattle.lane_models.specs.ClientPutting.{is_announcing}
use Rattle.lane_models.specs.ClientState.{ClientSession, ClientState}

-- THE COUNTS of a client's session stand in this order, over so many pending requests
pub record SessionInOrder (pending : ℕ) (s : ClientSession) : Type 0 where
  pub completed : s.completed ≤ s.acked
  pub acked : s.acked ≤ s.announced
  pub announced : s.announced ≤ s.published
  pub published : s.published ≤ s.completed + pending
  pub own : s.announcing ≡ true → s.announced < s.published

abbrev pub CountsInOrder : ℕ → Option ClientSession → Type 0
CountsInOrder pending None = ⊤
CountsInOrder pending (Some s) = SessionInOrder pending s

-- What its channel doesn't see of a client: its ring holds what is pending, its counts stand in order, and what its link holds is an INFO that
-- isn't wholly put.
pub record ClientSound (c : ClientState) : Type 0 where
  pub own : is_announcing c.session ≡ true → 1 ≤ length c.link.to_send
  pub slots : c.slots ≤ 256
  pub pending : length c.pending ≤ c.slots
  pub counts : CountsInOrder (length c.pending) c.session
