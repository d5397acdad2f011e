-- The state of an end of a port: of a guest, which is the initiator, or of the switch's end, the responder.
use Rattle.std.specs.Prelude.{ℕ, ◌+◌, ◌-◌, Bool, true, false, List, [], ◌∷◌, ◌++◌, drop, length, Option, Some, None}
use Rattle.dring.specs.declared.peer.PeerRing.{PeerRing}
use Rattle.ldc_link.specs.declared.phase.Role.{Role}
use Rattle.ldc_link.specs.declared.phase.Role.TheVariants.{Initiator, Responder}
use Rattle.ldc_link.specs.LinkState.{LinkState, fresh_link, joined_link}
use Rattle.vio_handshake.specs.declared.handshake.Handshake.{Handshake}
use Rattle.vio_handshake.specs.State.{fresh_handshake, joined_handshake}
use Rattle.ldc_packet.specs.declared.packet.Subtype.{Subtype}
use Rattle.lane_models.specs.Offers.{port_offer}

-- The peer's ring is active: the number and the first slot that its INFO named, and the last slot that was taken since,
-- if one was.
pub record Activity : Type 0 where
  pub seq : ℕ
  pub start : ℕ
  pub last : Option ℕ

-- The answer to an MCAST_INFO that the switch's end took: the same fields, and whether it agrees.
pub record GroupsReply : Type 0 where
  pub subtype : Subtype
  pub set : ℕ
  pub count : ℕ
  pub addresses : List (List ℕ)

-- A session. A flag or a count of what the end says changes as the message is formed, also where the link can't put it
-- yet.
pub record NetSession : Type 0 where
  -- ITS OWN RING: frame number j of the session has the id base + j, and stands in slot j modulo the ring
  pub base : ℕ
  pub published : ℕ
  -- those that an ACK named which it took
  pub seen : ℕ
  -- how many INFO it said, and whether one of them is unanswered
  pub infos : ℕ
  pub asking : Bool
  -- THE PEER'S RING: the slot of the next frame, the number of the next INFO, and the INFO that it took and didn't
  -- answer
  pub place : ℕ
  pub seq : ℕ
  pub active : Option Activity
  -- GROUPS: a guest's list isn't told as it is; an MCAST_INFO is unanswered; a switch's end owes an answer to one
  pub untold : Bool
  pub telling : Bool
  pub reply : Option GroupsReply

pub record NetEndState : Type 0 where
  pub link : LinkState
  pub handshake : Handshake
  -- the address of the port, and the slots of its own ring
  pub address : List ℕ
  pub slots : ℕ
  -- the frames that it holds, in order: first those that are published in the session and not acknowledged
  pub frames : List (List ℕ)
  -- the id of the next frame that it is given
  pub next_id : ℕ
  -- of a guest its own groups, of the switch's end those that the session told it
  pub groups : List (List ℕ)
  pub session : Option NetSession
  -- the frame that it took last
  pub last : List ℕ

abbrev pub fresh_net_end : Role → List ℕ → ℕ → NetEndState
fresh_net_end role address slots = record {
  link = fresh_link role;
  handshake = fresh_handshake role (port_offer role address slots);
  address = address;
  slots = slots;
  frames = [];
  next_id = 0;
  groups = [];
  session = None;
  last = [];
}

-- how many of its frames are published and not acknowledged
abbrev pub unseen_in : NetSession → ℕ
unseen_in session = session.published - session.seen

abbrev pub unseen : Option NetSession → ℕ
unseen None = 0
unseen (Some session) = unseen_in session

-- what the switch's end was told of groups ends with the session
abbrev pub kept_groups : Role → List (List ℕ) → List (List ℕ)
kept_groups Initiator groups = groups
kept_groups Responder groups = []

-- it begins anew: frames that are published and not acknowledged are lost, and all ids stay
abbrev pub joined_net_end : Role → NetEndState → NetEndState
joined_net_end role s = record s {
  link = joined_link s.link;
  handshake = joined_handshake s.handshake;
  frames = drop (unseen s.session) s.frames;
  groups = kept_groups role s.groups;
  session = None;
}

-- the id of its first frame, or of the next where it holds none
abbrev pub first_id : NetEndState → ℕ
first_id s = s.next_id - length s.frames

-- a session with nothing published, taken or told
abbrev pub opened_session : ℕ → NetSession
opened_session base = record {
  base = base;
  published = 0;
  seen = 0;
  infos = 0;
  asking = false;
  place = 0;
  seq = 1;
  active = None;
  untold = true;
  telling = false;
  reply = None;
}

abbrev pub with_session : NetSession → NetEndState → NetEndState
with_session session s = record s { session = Some session }

abbrev pub opened_net_end : NetEndState → NetEndState
opened_net_end s = with_session (opened_session (first_id s)) s

-- it holds one more frame
abbrev pub with_frame : List ℕ → NetEndState → NetEndState
with_frame frame s = record s { frames = s.frames ++ frame ∷ []; next_id = s.next_id + 1 }

-- the ring that the peer registered
abbrev pub peer_ring : NetEndState → PeerRing
peer_ring s = record { slots = s.handshake.draft.peer_slots; count = s.handshake.draft.peer_count; cookies = s.handshake.draft.peer_cookies }
