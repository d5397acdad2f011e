-- What a client puts: the rest of a message, a message of its handshake, or the INFO that announces what it published.
use Rattle.std.specs.Prelude.{ℕ, ◌+◌, ◌-◌, Bool, true, false, List, Option, Some, None, if◌then◌else◌}
use Rattle.dring.specs.Slots.{free_slots}
use Rattle.ldc_link.specs.LinkState.{offered}
use Rattle.ldc_link.specs.Putting.{behind_put}
use Rattle.vio_bytes.specs.Place.{put_at}
use Rattle.vio_tag.specs.declared.message.Message.{Message}
use Rattle.vio_tag.specs.declared.message.MsgBody.TheVariants.{DringData}
use Rattle.vio_tag.specs.Spelling.{canonical}
use Rattle.vio_handshake.specs.Messages.{info}
use Rattle.lane_models.specs.ClientRule.{Announces, ClientRule, Puts, Says}
use Rattle.lane_models.specs.ClientState.{ClientSession, ClientState, first_id, opened_session, slot_in}
use Rattle.lane_models.specs.EndPuts.{ComesUp, EndsOwn, EndsHandshake, Goes, PutKind, put_kind, put_opens, handshake_behind}
use Rattle.lane_models.specs.Ranges.{ring_active, wrapped}

-- the slots from the first that isn't announced to the last that is published
abbrev pub announcement : ClientState → ClientSession → Message
announcement s session =
    info s.handshake.draft.sid
    (DringData (wrapped (session.infos + 1)) s.handshake.draft.ident_own (slot_in s session.announced) (slot_in s (session.published - 1)) ring_active)

abbrev pub holding : Message → ClientState → ClientState
holding message s = record s { link = offered (canonical message) s.link }

abbrev pub announcing : ClientSession → ClientState → ClientState
announcing session s = record s { session = Some (record session { announcing = true }) }

-- the client with the message in its link that the rule is to put
abbrev pub client_holds : ClientRule → ClientState → Option ClientState
client_holds Puts s = Some s
client_holds (Says message) s = Some (holding message s)
client_holds (Announces session) s = Some (announcing session (holding (announcement s session) s))
client_holds _ s = None

-- whether the link's message is the client's own INFO
abbrev pub is_announcing : Option ClientSession → Bool
is_announcing None = false
is_announcing (Some session) = session.announcing

abbrev pub client_kind : ClientState → PutKind
client_kind s = put_kind s.link (is_announcing s.session)

-- all that is published is announced once the INFO is wholly put
abbrev pub announced : Option ClientSession → Option ClientSession
announced None = None
announced (Some session) = Some (record session { announced = session.published; infos = session.infos + 1; announcing = false })

abbrev pub opened_if : Bool → ClientState → Option ClientSession
opened_if true s = Some (opened_session (first_id s))
opened_if false s = s.session

abbrev pub session_behind : PutKind → ClientState → Option ClientSession
session_behind EndsOwn s = announced s.session
session_behind Goes s = s.session
session_behind ComesUp s = s.session
session_behind EndsHandshake s = opened_if (put_opens EndsHandshake s.handshake) s

-- the client after putting what its link owes
abbrev pub client_put : ClientState → ClientState
client_put s = record s {
  link = behind_put s.link;
  handshake = handshake_behind (client_kind s) s.handshake;
  session = session_behind (client_kind s) s;
}

abbrev pub client_opens : ClientState → Bool
client_opens s = put_opens (client_kind s) s.handshake

-- the ring is cleared as the session opens
abbrev pub memory_put : ClientState → List ℕ → List ℕ
memory_put s memory = if client_opens s then put_at 0 (free_slots 128 s.slots) memory else memory
