-- The state of a disk's client: its link and handshake, the requests that are pending, and the session that is open.
use Rattle.std.specs.Prelude.{ℕ, ◌-◌, ◌%◌, Bool, true, false, ◌&&◌, is_some, List, [], ◌∷◌, length, Option, None}
use Rattle.ldc_link.specs.declared.phase.Role.TheVariants.{Initiator}
use Rattle.ldc_link.specs.LinkState.{LinkState, fresh_link, joined_link}
use Rattle.vdisk_msg.specs.declared.request.Request.{Request}
use Rattle.vio_handshake.specs.declared.handshake.Handshake.{Handshake}
use Rattle.vio_handshake.specs.State.{fresh_handshake, joined_handshake}
use Rattle.lane_models.specs.Offering.{client_offer}

-- Counts of a session, from the base on: the id `base + j` has the number j, and stands in slot j modulo the ring.
pub record ClientSession : Type 0 where
  -- the first id that may be published in it
  pub base : ℕ
  pub published : ℕ
  -- those named by an INFO that was put, by an ACK that was taken, and those that are done
  pub announced : ℕ
  pub acked : ℕ
  pub completed : ℕ
  -- how many INFO were put, and whether the link holds another, which isn't wholly put
  pub infos : ℕ
  pub announcing : Bool

pub record ClientState : Type 0 where
  pub link : LinkState
  pub handshake : Handshake
  -- the blocks of the disk, and the slots of the ring
  pub blocks : ℕ
  pub slots : ℕ
  -- the requests that were accepted and aren't done, in order, and the id of the next
  pub pending : List Request
  pub next_id : ℕ
  -- the ids below it were published, in this session or an earlier one
  pub ever_published : ℕ
  pub session : Option ClientSession
  -- the bytes of the last completion
  pub last : List ℕ

abbrev pub fresh_client : ℕ → ℕ → ClientState
fresh_client blocks slots = record {
  link = fresh_link Initiator;
  handshake = fresh_handshake Initiator (client_offer blocks slots);
  blocks = blocks;
  slots = slots;
  pending = [];
  next_id = 0;
  ever_published = 0;
  session = None;
  last = [];
}

-- it begins anew, and keeps its requests and all ids
abbrev pub joined_client : ClientState → ClientState
joined_client s = record s { link = joined_link s.link; handshake = joined_handshake s.handshake; session = None }

-- the id of the first pending request, or of the next where none is pending
abbrev pub first_id : ClientState → ℕ
first_id s = s.next_id - length s.pending

-- how many of the pending requests were ever published: they are the first ones
abbrev pub ever_published_count : ClientState → ℕ
ever_published_count s = s.ever_published - first_id s

abbrev pub is_nothing : List Request → Bool
is_nothing [] = true
is_nothing (request ∷ requests) = false

-- the session is open and nothing is pending
abbrev pub is_finished : ClientState → Bool
is_finished s = is_some s.session && is_nothing s.pending

-- a session with nothing published
abbrev pub opened_session : ℕ → ClientSession
opened_session base = record { base = base; published = 0; announced = 0; acked = 0; completed = 0; infos = 0; announcing = false }

-- the slot of a number
abbrev pub slot_in : ClientState → ℕ → ℕ
slot_in s number = number % s.slots
