-- A disk's lane as two ends on a channel: its client begins, and its server answers.
use Rattle.std.specs.Prelude.{ℕ, Bool, true, false, ◌&&◌, is_none, is_some, not}
use Rattle.lane_models.specs.EndCore.{EndCore, holds}
use Rattle.lane_models.specs.LaneCore.{Beside, Closes, CoreEvent, LaneCore, OnChannel}
use Rattle.ldc_queue.specs.declared.end.End.TheVariants.{B}
use Rattle.ldc_queue.specs.Messages.{is_empty}
use Rattle.lane_models.specs.ClientPutting.{is_announcing}
use Rattle.lane_models.specs.ClientState.{ClientState}
use Rattle.lane_models.specs.DiskEvent.{DiskEvent, OnWire, Stopped, Switches}
use Rattle.lane_models.specs.LaneState.{LaneState}
use Rattle.lane_models.specs.Offering.{client_offer, server_offer}
use Rattle.lane_models.specs.ServerState.{ServerState}
use Rattle.lane_laws.specs.Budget.{infos_left, range_packets}

-- the messages of a client's session are its INFO: the link's is one where it announces
abbrev pub client_core : ClientState → EndCore
client_core c = record {
  link = c.link;
  handshake = c.handshake;
  offer = client_offer c.blocks c.slots;
  is_open = is_some c.session;
  own = is_announcing c.session;
  more = infos_left c.slots c.session;
}

-- Those of a server's are the answers to ranges, one each, which is begun once its link holds it. It takes nothing while it owes anything, so that
-- the link's is one where its handshake owes none.
abbrev pub answers_to_begin : Bool → ℕ → ℕ
answers_to_begin true ranges = 0
answers_to_begin false ranges = ranges

abbrev pub server_core : ServerState → EndCore
server_core v = record {
  link = v.link;
  handshake = v.handshake;
  offer = server_offer v.blocks v.slots;
  is_open = is_some v.session;
  own = not (is_empty v.link.to_send) && is_none v.handshake.owed;
  more = answers_to_begin (holds v.link && is_none v.handshake.owed) (range_packets v.session);
}

abbrev pub core_of : LaneState → LaneCore
core_of s = record { entries = s.shape.entries; wire = s.wire; a = client_core s.client; b = server_core s.server }

-- a stop of the server closes its end
abbrev pub core_event : DiskEvent → CoreEvent
core_event (OnWire event) = OnChannel event
core_event (Switches Stopped) = Closes B
core_event _ = Beside
