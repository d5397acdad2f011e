-- What of a lane its contents speak of.
use Rattle.std.specs.Prelude.{ℕ, ◌+◌, ◌*◌, ◌%◌, List, drop, Option, None}
use Rattle.ldc_queue.specs.declared.end.ChannelState.{ChannelState}
use Rattle.ldc_queue.specs.declared.end.ChannelState.TheVariants.{Down, Resetting, Up}
use Rattle.vdisk_msg.specs.Check.{most_bytes}
use Rattle.vdisk_msg.specs.declared.request.Request.{Request}
use Rattle.vdisk_msg.specs.Requested.{ring_pages}
use Rattle.lane_models.specs.ClientState.{ClientSession}
use Rattle.lane_models.specs.LaneState.{LaneState}
use Rattle.lane_models.specs.ServerState.{Work}

pub record View : Type 0 where
  -- the requests that are pending, and the slots of the ring
  pub pending : List Request
  pub slots : ℕ
  pub session : Option ClientSession
  -- the descriptor in work, while the server's end is up
  pub work : Option Work
  pub k : ℕ
  pub m : ℕ
  pub u : ℕ
  -- the client's memory after the ring: each slot's four pages
  pub buffers : List ℕ

-- a server whose end isn't up does nothing more with its descriptor
abbrev pub work_while : ChannelState → Option Work → Option Work
work_while Up work = work
work_while Down work = None
work_while Resetting work = None

abbrev pub view_of : LaneState → View
view_of s = record {
  pending = s.client.pending;
  slots = s.client.slots;
  session = s.client.session;
  work = work_while s.wire.wire.end_b s.server.work;
  k = s.near.k;
  m = s.near.m;
  u = s.near.u;
  buffers = drop (8192 * ring_pages s.client.slots) s.memory;
}

-- where the buffer of the i-th pending request begins, that of the slot of its number
abbrev pub place_of : ℕ → ClientSession → ℕ → ℕ
place_of slots session i = most_bytes * ((session.completed + i) % slots)
