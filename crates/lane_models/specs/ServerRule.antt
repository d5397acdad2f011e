-- Which rule is a server's next step: the first that applies.
use Rattle.std.specs.Prelude.{ℕ, ◌==◌, if◌then◌else◌, List, Option, Some, None}
use Rattle.cookie_copy.specs.Faults.{is_up}
use Rattle.ldc_link.specs.Putting.{owes}
use Rattle.vio_tag.specs.declared.message.Message.{Message}
use Rattle.vio_tag.specs.declared.message.MsgBody.TheVariants.{DringData}
use Rattle.vio_handshake.specs.Messages.{ack}
use Rattle.lane_models.specs.Seeing.{Seen}
use Rattle.lane_models.specs.ServerState.{ServerSession, ServerState, SlotRange, Work}

pub data ServerRule : Type 0 where
  -- its end isn't up
  Joins : ServerRule
  -- the link has a packet to put
  Puts : ServerRule
  -- a message is owed, of the handshake or the answer to a range
  Says : Message → ServerRule
  -- a range is in work: its next descriptor is fetched, or the next piece of the one in work is done
  Fetches : ServerSession → ServerRule
  Serves : ServerSession → Work → ServerRule
  Takes : (packet : List ℕ) → ServerRule
  Idles : ServerRule

abbrev pub takes_first : Option (List ℕ) → ServerRule
takes_first None = Idles
takes_first (Some packet) = Takes packet

-- the INFO's fields, acknowledged
abbrev pub answer : ServerState → SlotRange → Message
answer s range = ack s.handshake.draft.sid (DringData range.seq s.handshake.draft.ident_peer range.start range.end range.state)

abbrev pub serves : ServerSession → Option Work → ServerRule
serves session None = Fetches session
serves session (Some work) = Serves session work

abbrev pub in_range : ServerState → ServerSession → Option SlotRange → Seen → ServerRule
in_range s session None at = takes_first at.first
in_range s session (Some range) at = if session.finished == session.asked then Says (answer s range) else serves session s.work

abbrev pub in_session : ServerState → Option ServerSession → Seen → ServerRule
in_session s None at = takes_first at.first
in_session s (Some session) at = in_range s session session.range at

abbrev pub says : ServerState → Option Message → Seen → ServerRule
says s (Some message) at = Says message
says s None at = in_session s s.session at

-- THE RULES, in their order
abbrev pub server_rule : ServerState → Seen → ServerRule
server_rule s at = if is_up at.state then (if owes s.link then Puts else says s s.handshake.owed at) else Joins
