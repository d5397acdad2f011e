-- The state of a disk's server: its link and handshake, its region of the store, the session that is open, and the descriptor in work.
use Rattle.std.specs.Prelude.{ℕ, List, Option, None}
use Rattle.dring.specs.declared.peer.PeerRing.{PeerRing}
use Rattle.ldc_link.specs.declared.phase.Role.TheVariants.{Responder}
use Rattle.ldc_link.specs.LinkState.{LinkState, fresh_link, joined_link}
use Rattle.vio_handshake.specs.declared.handshake.Handshake.{Handshake}
use Rattle.vio_handshake.specs.State.{fresh_handshake, joined_handshake}
use Rattle.lane_models.specs.Offering.{server_offer}

-- a range of slots as an INFO named it
pub record SlotRange : Type 0 where
  pub seq : ℕ
  pub start : ℕ
  pub end : ℕ
  pub state : ℕ

-- Counts of a session, modulo 2^64: descriptor number j stands in slot j modulo the ring.
pub record ServerSession : Type 0 where
  -- those that the INFO it took named, that it fetched, that it finished, and that the ACK it put named
  pub asked : ℕ
  pub descs : ℕ
  pub finished : ℕ
  pub answered : ℕ
  -- the number that the next INFO has
  pub seq : ℕ
  -- the INFO that isn't answered yet
  pub range : Option SlotRange

-- What comes next of a descriptor: of a read the store is read and then the unit copied out, of a write the unit is copied in and then
-- stored. The bytes of a unit are held between its two pieces alone.
pub data Progress : Type 0 where
  Reads : (unit : ℕ) → Progress
  Gives : (unit : ℕ) (bytes : List ℕ) → Progress
  Gathers : (unit : ℕ) → Progress
  Writes : (unit : ℕ) (bytes : List ℕ) → Progress
  Flushes : Progress
  Ends : (status : ℕ) → Progress

pub record Work : Type 0 where
  -- the descriptor as it was fetched
  pub bytes : List ℕ
  pub progress : Progress

pub record ServerState : Type 0 where
  pub link : LinkState
  pub handshake : Handshake
  -- the disk's first block in the store, its blocks, and the slots of the ring that it expects
  pub first : ℕ
  pub blocks : ℕ
  pub slots : ℕ
  pub session : Option ServerSession
  pub work : Option Work

abbrev pub fresh_server : ℕ → ℕ → ℕ → ServerState
fresh_server first blocks slots = record {
  link = fresh_link Responder;
  handshake = fresh_handshake Responder (server_offer blocks slots);
  first = first;
  blocks = blocks;
  slots = slots;
  session = None;
  work = None;
}

-- it begins anew, and drops all half-done work
abbrev pub joined_server : ServerState → ServerState
joined_server s = record s { link = joined_link s.link; handshake = joined_handshake s.handshake; session = None; work = None }

-- all its values are made new
abbrev pub restarted_server : ServerState → ServerState
restarted_server s = fresh_server s.first s.blocks s.slots

abbrev pub opened_server : ServerSession
opened_server = record { asked = 0; descs = 0; finished = 0; answered = 0; seq = 1; range = None }

-- the ring that the client registered
abbrev pub peer_ring : ServerState → PeerRing
peer_ring s = record { slots = s.handshake.draft.peer_slots; count = s.handshake.draft.peer_count; cookies = s.handshake.draft.peer_cookies }
