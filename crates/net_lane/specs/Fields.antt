-- The parts of a lane, as the state of a port's lane.
use Rattle.std.specs.Prelude.{◌≡◌, length}
use Rattle.cookie_copy.specs.Faults.{PagesWithin}
use Rattle.ldc_link.specs.declared.phase.Role.TheVariants.{Initiator, Responder}
use Rattle.vnet_port.specs.Memories.{HoldsRing}
use Rattle.lane_models.specs.NetLaneState.{NetLaneState, NetShape}
use Rattle.vnet_port.specs.Calls.{role_of}
use Rattle.net_lane.specs.declared.port_ends.PortEnds.TheInside.{Inside}

abbrev pub shape_of : Inside → NetShape
shape_of l = record { address = l.address; slots = l.slots; entries = l.channel.entries }

abbrev pub state_of : Inside → NetLaneState
state_of l = record {
  shape = shape_of l;
  wire = record { wire = l.channel.wire; forged = l.forged; lossy = l.lossy };
  guest = l.guest;
  hub = l.hub;
  guest_memory = l.guest_memory;
  hub_memory = l.hub_memory;
  guest_table = l.guest_table;
  hub_table = l.hub_table;
}

-- the ends have their roles, each memory holds its ring and its buffers, and each table grants no page of another's
pub record FitsShape (l : Inside) : Type 0 where
  pub guest : role_of l.guest ≡ Initiator
  pub hub : role_of l.hub ≡ Responder
  pub guest_ring : HoldsRing l.guest.slots l.guest_memory
  pub hub_ring : HoldsRing l.hub.slots l.hub_memory
  pub guest_pages : PagesWithin l.guest_table (length l.guest_memory)
  pub hub_pages : PagesWithin l.hub_table (length l.hub_memory)
