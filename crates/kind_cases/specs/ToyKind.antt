-- A toy kind of lane with rings both ways, which no program has: a kind gives what its ends offer, and how many messages of a session each
-- may say, and nothing else.
use Rattle.std.specs.Prelude.{ℕ, ◌-◌, true, ◌&&◌, is_none, is_some, not, ◌∷◌, replicate, Option, Some, None}
use Rattle.ldc_link.specs.declared.phase.Role.TheVariants.{Initiator, Responder}
use Rattle.ldc_link.specs.LinkState.{LinkState, fresh_link}
use Rattle.ldc_queue.specs.Messages.{is_empty}
use Rattle.map_table.specs.Cookies.{no_cookie}
use Rattle.map_table.specs.declared.cookie.Cookie.{Cookie}
use Rattle.vio_handshake.specs.declared.handshake.Handshake.{Handshake}
use Rattle.vio_handshake.specs.declared.session.Offer.{Offer}
use Rattle.vio_handshake.specs.State.{fresh_handshake}
use Rattle.lane_models.specs.WireLog.{WireLog, nothing_on_wire}
use Rattle.lane_models.specs.EndCore.{EndCore}
use Rattle.lane_models.specs.LaneCore.{CoreEvent, CoreStep, LaneCore}

-- both ends offer a ring of eight slots of 64 bytes, and expect such a one
abbrev pub toy_cookie : Cookie
toy_cookie = record { address = 0; size = 512 }

abbrev pub toy_offer : Offer
toy_offer = record {
  minor = 1;
  class = 1;
  attr = replicate 48 0;
  slots = 8;
  slot_size = 64;
  count = 1;
  cookies = toy_cookie ∷ replicate 13 no_cookie;
  both_rings = true;
  peer_slots = 8;
}

-- An end, and how many messages of its session it said, where that is open: four at most before it takes a packet
pub record ToyEnd : Type 0 where
  pub link : LinkState
  pub handshake : Handshake
  pub told : Option ℕ

abbrev pub toy_left : Option ℕ → ℕ
toy_left None = 0
toy_left (Some told) = 4 - told

abbrev pub toy_core : ToyEnd → EndCore
toy_core e = record {
  link = e.link;
  handshake = e.handshake;
  offer = toy_offer;
  is_open = is_some e.told;
  own = not (is_empty e.link.to_send) && is_none e.handshake.owed;
  more = toy_left e.told;
}

pub record ToyLane : Type 0 where
  pub wire : WireLog
  pub a : ToyEnd
  pub b : ToyEnd

abbrev pub toy_lane : ToyLane → LaneCore
toy_lane s = record { entries = 8; wire = s.wire; a = toy_core s.a; b = toy_core s.b }

abbrev pub fresh_toys : ToyLane
fresh_toys = record {
  wire = nothing_on_wire;
  a = record { link = fresh_link Initiator; handshake = fresh_handshake Initiator toy_offer; told = None };
  b = record { link = fresh_link Responder; handshake = fresh_handshake Responder toy_offer; told = None };
}

abbrev pub ToyStep : ToyLane → CoreEvent → ToyLane → Type 0
ToyStep s event t = CoreStep (toy_lane s) event (toy_lane t)
