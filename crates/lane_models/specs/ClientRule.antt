-- Which rule is a client's next step: the first that applies.
use Rattle.std.specs.Prelude.{ℕ, ◌-◌, Bool, ◌&&◌, ◌||◌, nat_lt, is_some, is_none, if◌then◌else◌, List, Option, Some, None, slice_get}
use Rattle.cookie_copy.specs.Faults.{is_up}
use Rattle.ldc_link.specs.Putting.{owes, owes_control}
use Rattle.vdisk_msg.specs.declared.request.Request.{Request}
use Rattle.vio_tag.specs.declared.message.Message.{Message}
use Rattle.lane_models.specs.ClientState.{ClientSession, ClientState}
use Rattle.lane_models.specs.Seeing.{Seen}

pub data ClientRule : Type 0 where
  -- its end isn't up
  Joins : ClientRule
  -- an acknowledged request isn't done: its slot is looked at
  Completes : ClientSession → ClientRule
  Takes : (packet : List ℕ) → ClientRule
  -- the link has a packet to put
  Puts : ClientRule
  -- the handshake owes a message
  Says : Message → ClientRule
  -- a pending request isn't published
  Publishes : ClientSession → Request → ClientRule
  -- published requests aren't announced
  Announces : ClientSession → ClientRule
  Idles : ClientRule

-- the requests that are published and aren't announced, all at once
abbrev pub announces : ClientSession → ClientRule
announces session = if nat_lt session.announced session.published then Announces session else Idles

-- the next request that isn't published in this session, and where there is none, the announcement
abbrev pub publishes : ClientSession → Option Request → ClientRule
publishes session None = announces session
publishes session (Some request) = Publishes session request

abbrev pub in_session : ClientState → Option ClientSession → ClientRule
in_session s None = Idles
in_session s (Some session) = publishes session (slice_get s.pending (session.published - session.completed))

abbrev pub says : ClientState → Option Message → ClientRule
says s None = in_session s s.session
says s (Some message) = Says message

abbrev pub puts_first : ClientState → ClientRule
puts_first s = if owes s.link then Puts else says s s.handshake.owed

abbrev pub takes_first : Option (List ℕ) → ClientRule → ClientRule
takes_first None otherwise = otherwise
takes_first (Some packet) otherwise = Takes packet

-- What goes before taking: a packet of the link's handshake, all of the handshake of the session, and in session a refusal, which the
-- handshake owes until it is wholly put.
abbrev pub is_urgent : ClientState → Bool
is_urgent s = owes_control s.link || is_some s.handshake.owed || (is_none s.session && owes s.link)

abbrev pub puts_or_takes : ClientState → Seen → ClientRule
puts_or_takes s at = if is_urgent s then puts_first s else takes_first at.first (puts_first s)

abbrev pub completes_first : Option ClientSession → ClientRule → ClientRule
completes_first None otherwise = otherwise
completes_first (Some session) otherwise = if nat_lt session.completed session.acked then Completes session else otherwise

-- THE RULES, in their order
abbrev pub client_rule : ClientState → Seen → ClientRule
client_rule s at = if is_up at.state then completes_first s.session (puts_or_takes s at) else Joins
