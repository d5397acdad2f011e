-- What an end sees of the channel as it makes a step.
use Rattle.std.specs.Prelude.{ℕ, ◌+◌, Bool, List, length, Option, nat_lt, slice_get}
use Rattle.cookie_copy.specs.Faults.{both_up}
use Rattle.ldc_queue.specs.declared.end.ChannelState.{ChannelState}
use Rattle.ldc_queue.specs.declared.end.End.{End}
use Rattle.ldc_queue.specs.Wire.{Wire, peer_of, state_of, waiting_for}

pub record Seen : Type 0 where
  -- the end's own state
  pub state : ChannelState
  -- the packet that has waited longest for it
  pub first : Option (List ℕ)
  -- whether the other end's queue has room, and whether both ends are up
  pub room : Bool
  pub both : Bool

-- at a channel whose queues have so many entries, one of which always stays free
abbrev pub seen : End → ℕ → Wire → Seen
seen e entries w = record {
  state = state_of e w;
  first = slice_get (waiting_for e w) 0;
  room = nat_lt (length (waiting_for (peer_of e) w) + 1) entries;
  both = both_up w;
}
