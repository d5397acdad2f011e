-- What always holds of an end by itself, whatever its peer puts and whoever meddles with the channel and the memories.
use Rattle.std.specs.Prelude.{◌≡◌, ◌≢◌, ℕ, ◌^◌, ◌<◌, ◌≤◌, true, false, List, [], length, Option, Some, None, ⊤}
use Rattle.ldc_link.specs.declared.phase.LinkPhase.{LinkPhase}
use Rattle.ldc_link.specs.declared.phase.LinkPhase.TheVariants as phase
use Rattle.ldc_link.specs.declared.phase.Role.{Role}
use Rattle.ldc_link.specs.declared.phase.Role.TheVariants.{Initiator, Responder}
use Rattle.ldc_link.specs.LinkState.{LinkState, is_up}
use Rattle.vio_handshake.specs.declared.handshake.Handshake.{Handshake}
use Rattle.vio_handshake.specs.declared.handshake.Phase.{Phase}
use Rattle.vio_handshake.specs.declared.handshake.Phase.TheVariants as handshake
use Rattle.vio_handshake.specs.declared.session.Session.{Session}
use Rattle.vio_handshake.specs.State.{OwesWell}
use Rattle.lane_models.specs.FramesStand.{FramesStand}
use Rattle.lane_models.specs.NetEndState.{NetEndState, NetSession}
use Rattle.lane_models.specs.Offers.{port_offer}

-- THE LINK: the phases of a guest are those of the end that begins, and a message that became whole is looked at in the
-- same step
abbrev pub Begins : LinkPhase → Type 0
Begins phase.AwaitsVersInfo = ⊥
Begins phase.OwesVersAck = ⊥
Begins (phase.OwesVersNack major) = ⊥
Begins phase.AwaitsRts = ⊥
Begins phase.OwesRtr = ⊥
Begins phase.AwaitsRdx = ⊥
Begins _ = ⊤

abbrev pub IsPhaseOf : Role → LinkPhase → Type 0
IsPhaseOf Initiator phase = Begins phase
IsPhaseOf Responder phase = ⊤

pub record LinkStands (k : LinkState) : Type 0 where
  pub phase : IsPhaseOf k.role k.phase
  pub seen : k.whole ≡ None

-- THE HANDSHAKE knows by its phase the number of its session, and then the peer's ring, which is as this end expects it.
-- A guest names the number, and its peer's ring is registered after its own.
pub record KnowsSid (known : Option ℕ) (agreed : Session) : Type 0 where
  pub sid : known ≡ Some agreed.sid

pub record KnowsRing (known : Option ℕ) (agreed : Session) (expected : ℕ) : Type 0 where
  pub sid : known ≡ Some agreed.sid
  pub slots : agreed.peer_slots ≡ expected
  pub most : agreed.peer_count ≤ 14

abbrev pub Knows : Role → Phase → Option ℕ → Session → ℕ → Type 0
Knows role handshake.Down known agreed expected = ⊤
Knows Initiator handshake.Version known agreed expected = KnowsSid known agreed
Knows Responder handshake.Version known agreed expected = ⊤
Knows role handshake.Attributes known agreed expected = KnowsSid known agreed
Knows Initiator handshake.OwnRing known agreed expected = KnowsSid known agreed
Knows Responder handshake.OwnRing known agreed expected = KnowsRing known agreed expected
Knows role handshake.PeerRing known agreed expected = KnowsSid known agreed
Knows role _ known agreed expected = KnowsRing known agreed expected

pub record HandshakeStands (role : Role) (address : List ℕ) (slots : ℕ) (h : Handshake) : Type 0 where
  pub same_role : h.role ≡ role
  pub offer : h.offer ≡ port_offer role address slots
  pub form : OwesWell h
  pub knows : Knows role h.phase h.sid h.draft slots

-- Something is owed, a message is left to be sent, or a session is open only where the link is up; the handshake began
-- with the link.
pub record IsQuiet (k : LinkState) (h : Handshake) (session : Option NetSession) : Type 0 where
  pub phase : h.phase ≡ handshake.Down
  pub owed : h.owed ≡ None
  pub to_send : k.to_send ≡ []
  pub closed : session ≡ None

pub record Began (k : LinkState) (h : Handshake) (session : Option NetSession) : Type 0 where
  pub down : is_up k ≡ false → IsQuiet k h session
  pub up : is_up k ≡ true → h.phase ≢ handshake.Down

-- A SESSION is open only where the handshake's is, and its place in the peer's ring is a slot
abbrev pub SessionStands : ℕ → Phase → Option NetSession → Type 0
SessionStands slots phase None = ⊤
SessionStands slots phase (Some session) = (phase ≡ handshake.Open) × (session.place < slots)

-- a ring of 2 to 64 slots, ids of 8 bytes, and at most seven groups
pub record IsSized (slots next_id joined : ℕ) : Type 0 where
  pub some_slots : 2 ≤ slots
  pub most_slots : slots ≤ 64
  pub ids : next_id < 2 ^ 64
  pub groups : joined ≤ 7

pub record Stands (s : NetEndState) : Type 0 where
  pub sized : IsSized s.slots s.next_id (length s.groups)
  pub frames : FramesStand s
  pub link : LinkStands s.link
  pub handshake : HandshakeStands s.link.role s.address s.slots s.handshake
  pub began : Began s.link s.handshake s.session
  pub session : SessionStands s.slots s.handshake.phase s.session
