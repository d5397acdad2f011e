-- A handshake's state: before its link is up, and as a session begins.
use Rattle.std.specs.Prelude.{ℕ, ◌+◌, ◌%◌, ◌^◌, Option, Some, None, replicate, ⊤}
use Rattle.ldc_link.specs.declared.phase.Role.{Role}
use Rattle.ldc_link.specs.declared.phase.Role.TheVariants.{Initiator, Responder}
use Rattle.vio_tag.specs.Form.{AreCookies, IsWellFormed}
use Rattle.vio_tag.specs.declared.message.Message.{Message}
use Rattle.vio_tag.specs.declared.message.MsgBody.TheVariants.{Ver}
use Rattle.vio_handshake.specs.Messages.{info}
use Rattle.vio_handshake.specs.declared.session.Offer.{Offer}
use Rattle.vio_handshake.specs.declared.session.Session.{Session}
use Rattle.vio_handshake.specs.declared.session.HsOut.{HsOut}
use Rattle.vio_handshake.specs.declared.session.HsOut.TheVariants.{Nothing, Opens, Fault}
use Rattle.vio_handshake.specs.declared.handshake.Handshake.{Handshake}
use Rattle.vio_handshake.specs.declared.handshake.Phase.{Phase}
use Rattle.vio_handshake.specs.declared.handshake.Phase.TheVariants.{Down, Version, Attributes, OwnRing, PeerRing, PeerRingTaken, OwnReady, PeerReady, PeerReadyTaken, Open}
use Rattle.map_table.specs.Cookies.{no_cookie}

-- nothing is agreed on
abbrev pub no_session : Session
no_session = record {
  sid = 0;
  minor = 0;
  ident_own = 0;
  ident_peer = 0;
  peer_slots = 0;
  peer_count = 0;
  peer_cookies = replicate 14 no_cookie;
}

-- the end of a link that was never up
abbrev pub fresh_handshake : Role → Offer → Handshake
fresh_handshake role offer = record {
  role = role;
  offer = offer;
  phase = Down;
  sid = None;
  last_sid = 0;
  owed = None;
  draft = no_session;
}

-- the link goes down: the session and the handshake end, and the count of sids stays
abbrev pub joined_handshake : Handshake → Handshake
joined_handshake s = record s { phase = Down; sid = None; owed = None; draft = no_session }

-- the count of sids goes too
abbrev pub forgotten_handshake : Handshake → Handshake
forgotten_handshake s = fresh_handshake s.role s.offer

-- the sid of the next session
abbrev pub next_sid : Handshake → ℕ
next_sid s = (s.last_sid + 1) % 2 ^ 32

-- the link is up: the initiator owes VER INFO with a new sid and its highest version, and the responder waits for it
abbrev pub begun : Role → Handshake → Handshake
begun Initiator s = record s {
  phase = Version;
  sid = Some (next_sid s);
  last_sid = next_sid s;
  owed = Some (info (next_sid s) (Ver 1 s.offer.minor s.offer.class));
  draft = record no_session { sid = next_sid s };
}
begun Responder s = record s { phase = Version }

abbrev pub handshake_up : Handshake → Handshake
handshake_up s = begun s.role (joined_handshake s)

-- the session that is open, or none
abbrev pub session_in : Phase → Session → Option Session
session_in Open session = Some session
session_in Down session = None
session_in Version session = None
session_in Attributes session = None
session_in OwnRing session = None
session_in PeerRing session = None
session_in PeerRingTaken session = None
session_in OwnReady session = None
session_in PeerReady session = None
session_in PeerReadyTaken session = None

abbrev pub session_of : Handshake → Option Session
session_of s = session_in s.phase s.draft

-- a program's answer is a fault
abbrev pub IsFault : HsOut → Type 0
IsFault Nothing = ⊥
IsFault Opens = ⊥
IsFault (Fault cause) = ⊤

-- what is owed can be encoded, also what will be: the offer's ring has at most 14 cookies and none after them
abbrev pub OwedHasForm : Option Message → Type 0
OwedHasForm None = ⊤
OwedHasForm (Some message) = IsWellFormed message

pub record OwesWell (s : Handshake) : Type 0 where
  pub offer : AreCookies s.offer.count s.offer.cookies
  pub owed : OwedHasForm s.owed
