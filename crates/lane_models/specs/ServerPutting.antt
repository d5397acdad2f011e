-- What a server puts: the rest of a message, a message of its handshake, or the answer to a range.
use Rattle.std.specs.Prelude.{Bool, is_none, Option, Some, None}
use Rattle.ldc_link.specs.LinkState.{offered}
use Rattle.ldc_link.specs.Putting.{behind_put}
use Rattle.vio_tag.specs.Spelling.{canonical}
use Rattle.lane_models.specs.EndPuts.{ComesUp, EndsOwn, EndsHandshake, Goes, PutKind, put_kind, put_opens, handshake_behind}
use Rattle.lane_models.specs.ServerRule.{Puts, Says, ServerRule}
use Rattle.lane_models.specs.ServerState.{ServerSession, ServerState}

-- the server with the message in its link that the rule is to put
abbrev pub server_holds : ServerRule → ServerState → Option ServerState
server_holds Puts s = Some s
server_holds (Says message) s = Some (record s { link = offered (canonical message) s.link })
server_holds _ s = None

-- the link's message is the answer to a range where the handshake owes none: a server takes nothing while it owes anything
abbrev pub server_kind : ServerState → PutKind
server_kind s = put_kind s.link (is_none s.handshake.owed)

-- the range is answered once the ACK is wholly put
abbrev pub answered : Option ServerSession → Option ServerSession
answered None = None
answered (Some session) = Some (record session { answered = session.asked; range = None })

abbrev pub session_behind : PutKind → Option ServerSession → Option ServerSession
session_behind EndsOwn session = answered session
session_behind Goes session = session
session_behind ComesUp session = session
session_behind EndsHandshake session = session

-- the server after putting what its link owes
abbrev pub server_put : ServerState → ServerState
server_put s = record s {
  link = behind_put s.link;
  handshake = handshake_behind (server_kind s) s.handshake;
  session = session_behind (server_kind s) s.session;
}

-- a responder's session never opens by what it puts
abbrev pub server_opens : ServerState → Bool
server_opens s = put_opens (server_kind s) s.handshake
