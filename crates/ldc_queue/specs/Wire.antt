-- A channel as its two ends see it: whether each is configured, and the packets that wait for it, 64 bytes each.
use Rattle.std.specs.Prelude.{ℕ, List, [], ◌∷◌, ◌++◌, drop}
use Rattle.ldc_queue.specs.declared.end.ChannelState.{ChannelState}
use Rattle.ldc_queue.specs.declared.end.ChannelState.TheVariants.{Down, Up, Resetting}
use Rattle.ldc_queue.specs.declared.end.End.{End}
use Rattle.ldc_queue.specs.declared.end.End.TheVariants.{A, B}

pub record Wire : Type 0 where
  pub end_a : ChannelState
  pub end_b : ChannelState
  -- what waits for each end, first what has waited longest
  pub to_a : List (List ℕ)
  pub to_b : List (List ℕ)

-- no end is configured and nothing waits
abbrev pub fresh_wire : Wire
fresh_wire = record { end_a = Down; end_b = Down; to_a = []; to_b = [] }

abbrev pub peer_of : End → End
peer_of A = B
peer_of B = A

abbrev pub state_of : End → Wire → ChannelState
state_of A w = w.end_a
state_of B w = w.end_b

abbrev pub with_state : End → ChannelState → Wire → Wire
with_state A state w = record w { end_a = state }
with_state B state w = record w { end_b = state }

abbrev pub waiting_for : End → Wire → List (List ℕ)
waiting_for A w = w.to_a
waiting_for B w = w.to_b

-- a configured end whose queues were emptied by the other is told so
abbrev pub upset : ChannelState → ChannelState
upset Up = Resetting
upset Down = Down
upset Resetting = Resetting

-- the other end, and a queue, after configuring an end that was in the first state: only one that was `Up` gives anything up
abbrev pub peer_behind : ChannelState → ChannelState → ChannelState
peer_behind Up peer = upset peer
peer_behind Down peer = peer
peer_behind Resetting peer = peer

abbrev pub queue_behind : ChannelState → List (List ℕ) → List (List ℕ)
queue_behind Up packets = []
queue_behind Down packets = packets
queue_behind Resetting packets = packets

-- the end is configured
abbrev pub configured : End → Wire → Wire
configured A w = record {
  end_a = Up;
  end_b = peer_behind w.end_a w.end_b;
  to_a = queue_behind w.end_a w.to_a;
  to_b = queue_behind w.end_a w.to_b;
}
configured B w = record {
  end_a = peer_behind w.end_b w.end_a;
  end_b = Up;
  to_a = queue_behind w.end_b w.to_a;
  to_b = queue_behind w.end_b w.to_b;
}

-- the end is closed
abbrev pub closed : End → Wire → Wire
closed A w = record { end_a = Down; end_b = upset w.end_b; to_a = []; to_b = [] }
closed B w = record { end_a = upset w.end_a; end_b = Down; to_a = []; to_b = [] }

-- a packet waits last for the end
abbrev pub put_for : End → List ℕ → Wire → Wire
put_for A packet w = record w { to_a = w.to_a ++ packet ∷ [] }
put_for B packet w = record w { to_b = w.to_b ++ packet ∷ [] }

-- the packet that has waited longest for the end is gone
abbrev pub taken_for : End → Wire → Wire
taken_for A w = record w { to_a = drop 1 w.to_a }
taken_for B w = record w { to_b = drop 1 w.to_b }
