-- The parts of a lane, as the state of a disk's lane.
use Rattle.std.specs.Prelude.{◌≡◌, length}
use Rattle.cookie_copy.specs.Faults.{PagesWithin}
use Rattle.lane_models.specs.LaneState.{LaneState, Shape}
use Rattle.disk_requests.specs.Room.{HoldsRing}
use Rattle.disk_lane.specs.declared.lane_ends.LaneEnds.TheInside.{Inside}

abbrev pub shape_of : Inside → Shape
shape_of l = record { first = l.region.first; blocks = l.region.blocks; slots = l.slots; entries = l.channel.entries }

abbrev pub state_of : Inside → LaneState
state_of l = record {
  shape = shape_of l;
  wire = record { wire = l.channel.wire; forged = l.forged; lossy = l.lossy };
  client = l.client;
  server = l.server;
  memory = l.memory;
  table = l.table;
  stopped = l.stopped;
  failed = l.failed;
  near = l.near;
}

-- the memory holds the ring and the buffers, the table grants none of another's, and the server's disk is the lane's
pub record FitsShape (l : Inside) : Type 0 where
  pub ring : HoldsRing l.client.slots l.memory
  pub pages : PagesWithin l.table (length l.memory)
  pub first : l.server.first ≡ l.region.first
  pub blocks : l.server.blocks ≡ l.region.blocks
