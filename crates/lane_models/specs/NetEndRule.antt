-- Which rule is the next step of an end of a port: the first that applies.
use Rattle.std.specs.Prelude.{ℕ, ◌&&◌, not, nat_lt, if◌then◌else◌, List, Option, Some, None, slice_get}
use Rattle.cookie_copy.specs.Faults.{is_up}
use Rattle.ldc_link.specs.declared.phase.Role.{Role}
use Rattle.ldc_link.specs.declared.phase.Role.TheVariants.{Initiator, Responder}
use Rattle.ldc_link.specs.Putting.{owes}
use Rattle.vio_tag.specs.declared.message.Message.{Message}
use Rattle.lane_models.specs.Seeing.{Seen}
use Rattle.lane_models.specs.NetEndState.{Activity, GroupsReply, NetEndState, NetSession, unseen_in}

pub data NetRule : Type 0 where
  -- its channel end isn't up
  Joins : NetRule
  -- the link has a packet to put
  Puts : NetRule
  -- a message of the handshake is owed, or the answer to an MCAST_INFO
  Says : Message → NetRule
  Replies : NetSession → GroupsReply → NetRule
  -- the peer's ring is active: its next slot is looked at
  Fetches : NetSession → Activity → NetRule
  Takes : (packet : List ℕ) → NetRule
  -- a guest's groups aren't told as they are, and no MCAST_INFO is unanswered
  Tells : NetSession → NetRule
  -- a frame that it holds isn't published
  Publishes : NetSession → (frame : List ℕ) → NetRule
  -- published frames aren't acknowledged, and no INFO is unanswered
  Announces : NetSession → NetRule
  Idles : NetRule

abbrev pub announces : NetSession → NetRule
announces session = if nat_lt session.seen session.published && not session.asking then Announces session else Idles

-- the next frame that isn't published in this session, and where there is none, the announcement
abbrev pub publishes : NetSession → Option (List ℕ) → NetRule
publishes session None = announces session
publishes session (Some frame) = Publishes session frame

abbrev pub tells_first : Role → NetSession → NetRule → NetRule
tells_first Initiator session otherwise = if session.untold && not session.telling then Tells session else otherwise
tells_first Responder session otherwise = otherwise

abbrev pub takes_first : Option (List ℕ) → NetRule → NetRule
takes_first None otherwise = otherwise
takes_first (Some packet) otherwise = Takes packet

abbrev pub fetches_first : NetSession → Option Activity → NetRule → NetRule
fetches_first session None otherwise = otherwise
fetches_first session (Some activity) otherwise = Fetches session activity

abbrev pub replies_first : NetSession → Option GroupsReply → NetRule → NetRule
replies_first session None otherwise = otherwise
replies_first session (Some reply) otherwise = Replies session reply

abbrev pub in_session : Role → NetEndState → Seen → Option NetSession → NetRule
in_session role s at None = takes_first at.first Idles
in_session role s at (Some session) =
    replies_first session session.reply
    (fetches_first session session.active
    (takes_first at.first
    (tells_first role session
    (publishes session (slice_get s.frames (unseen_in session))))))

abbrev pub says : Role → NetEndState → Seen → Option Message → NetRule
says role s at (Some message) = Says message
says role s at None = in_session role s at s.session

-- THE RULES, in their order
abbrev pub port_rule : Role → NetEndState → Seen → NetRule
port_rule role s at = if is_up at.state then (if owes s.link then Puts else says role s at s.handshake.owed) else Joins
