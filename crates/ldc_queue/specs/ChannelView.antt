-- A channel: its ends and what waits for them, and for each queue its places and its entries. The queue of an end holds what waits
-- for it; a packet is there as soon as it is put, so the same queue is the other end's transmit queue.
use Rattle.std.specs.Prelude.{◌≡◌, ℕ, ◌<◌, ◌+◌, List, [], length}
use Rattle.ldc_queue.specs.declared.end.ChannelState.{ChannelState}
use Rattle.ldc_queue.specs.declared.end.ChannelState.TheVariants.{Down, Up, Resetting}
use Rattle.ldc_queue.specs.declared.end.End.{End}
use Rattle.ldc_queue.specs.declared.end.End.TheVariants.{A, B}
use Rattle.ldc_queue.specs.declared.end.QueueState.{QueueState}
use Rattle.ldc_queue.specs.Waiting.{head_past, tail_place}
use Rattle.ldc_queue.specs.Wire.{Wire, closed, configured, fresh_wire, peer_of, put_for, state_of, taken_for, waiting_for}

pub record ChannelView : Type 0 where
  pub wire : Wire
  -- where each end takes next, in bytes modulo 64 times the entries
  pub head_a : ℕ
  pub head_b : ℕ
  pub entries : ℕ

abbrev pub fresh_channel : ℕ → ChannelView
fresh_channel entries = record { wire = fresh_wire; head_a = 0; head_b = 0; entries = entries }

abbrev pub head_for : End → ChannelView → ℕ
head_for A c = c.head_a
head_for B c = c.head_b

-- where the other end puts next
abbrev pub tail_for : End → ChannelView → ℕ
tail_for e c = tail_place c.entries (head_for e c) (waiting_for e c.wire)

-- the queue that the end takes from, and the one that it puts into, each with the end's own state
abbrev pub receive_queue : End → ChannelView → QueueState
receive_queue e c = record { head = head_for e c; tail = tail_for e c; state = state_of e c.wire }

abbrev pub transmit_queue : End → ChannelView → QueueState
transmit_queue e c = record { head = head_for (peer_of e) c; tail = tail_for (peer_of e) c; state = state_of e c.wire }

-- one entry always stays free
abbrev pub HasRoom : End → ChannelView → Type 0
HasRoom e c = length (waiting_for e c.wire) + 1 < c.entries

abbrev pub IsFull : End → ChannelView → Type 0
IsFull e c = length (waiting_for e c.wire) + 1 ≡ c.entries

-- a place after configuring an end that was in the state
abbrev pub place_behind : ChannelState → ℕ → ℕ
place_behind Up place = 0
place_behind Down place = place
place_behind Resetting place = place

abbrev pub configured_channel : End → ChannelView → ChannelView
configured_channel e c = record {
  wire = configured e c.wire;
  head_a = place_behind (state_of e c.wire) c.head_a;
  head_b = place_behind (state_of e c.wire) c.head_b;
  entries = c.entries;
}

abbrev pub closed_channel : End → ChannelView → ChannelView
closed_channel e c = record { wire = closed e c.wire; head_a = 0; head_b = 0; entries = c.entries }

-- both queues are empty, and the ends as they were
abbrev pub emptied_channel : ChannelView → ChannelView
emptied_channel c = record { wire = record c.wire { to_a = []; to_b = [] }; head_a = 0; head_b = 0; entries = c.entries }

abbrev pub channel_with : End → List ℕ → ChannelView → ChannelView
channel_with e packet c = record c { wire = put_for e packet c.wire }

abbrev pub channel_without_first : End → ChannelView → ChannelView
channel_without_first A c = record c { wire = taken_for A c.wire; head_a = head_past c.entries c.head_a c.wire.to_a }
channel_without_first B c = record c { wire = taken_for B c.wire; head_b = head_past c.entries c.head_b c.wire.to_b }
