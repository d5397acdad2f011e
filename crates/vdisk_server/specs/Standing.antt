-- What always holds of a server by itself.
use Rattle.std.specs.Prelude.{◌≡◌, ◌≢◌, ℕ, ◌<◌, ◌≤◌, true, false, [], length, Option, Some, None, ⊤}
use Rattle.ldc_link.specs.declared.phase.LinkPhase.{LinkPhase}
use Rattle.ldc_link.specs.declared.phase.LinkPhase.TheVariants as link
use Rattle.ldc_link.specs.declared.phase.Role.TheVariants.{Responder}
use Rattle.ldc_link.specs.LinkState.{LinkState, is_up}
use Rattle.vio_handshake.specs.declared.handshake.Handshake.{Handshake}
use Rattle.vio_handshake.specs.declared.handshake.Phase.{Phase}
use Rattle.vio_handshake.specs.declared.handshake.Phase.TheVariants as handshake
use Rattle.vio_handshake.specs.declared.session.Session.{Session}
use Rattle.vio_handshake.specs.State.{OwesWell}
use Rattle.lane_models.specs.Offering.{server_offer}
use Rattle.lane_models.specs.ServerState.{Ends, Flushes, Gathers, Gives, Progress, Reads, ServerSession, ServerState, SlotRange, Work, Writes}
use Rattle.lane_models.specs.ServerWork.{desc_of, length_of}
use Rattle.descriptor_work.specs.Units.{IsUnit}

-- it is the responder of its link and of its handshake
abbrev pub AnswersLink : LinkPhase → Type 0
AnswersLink link.OwesVersInfo = ⊥
AnswersLink link.AwaitsVersAck = ⊥
AnswersLink link.OwesRts = ⊥
AnswersLink link.AwaitsRtr = ⊥
AnswersLink link.OwesRdx = ⊥
AnswersLink _ = ⊤

pub record LinkStands (k : LinkState) : Type 0 where
  pub role : k.role ≡ Responder
  pub phase : AnswersLink k.phase
  -- a message that became whole is looked at in the same step
  pub seen : k.whole ≡ None

-- What a handshake knows by its phase: the number of its session, and then the client's ring, which is as this end expects it.
pub record KnowsSid (known : Option ℕ) (agreed : Session) : Type 0 where
  pub sid : known ≡ Some agreed.sid

pub record KnowsRing (known : Option ℕ) (agreed : Session) (expected : ℕ) : Type 0 where
  pub sid : known ≡ Some agreed.sid
  pub slots : agreed.peer_slots ≡ expected
  pub some : 1 ≤ agreed.peer_count
  pub most : agreed.peer_count ≤ 14

abbrev pub Knows : Phase → Option ℕ → Session → ℕ → Type 0
Knows handshake.Down known agreed expected = ⊤
Knows handshake.Version known agreed expected = ⊤
Knows handshake.Attributes known agreed expected = KnowsSid known agreed
Knows handshake.PeerRing known agreed expected = KnowsSid known agreed
Knows _ known agreed expected = KnowsRing known agreed expected

pub record HandshakeStands (blocks slots : ℕ) (h : Handshake) : Type 0 where
  pub role : h.role ≡ Responder
  pub offer : h.offer ≡ server_offer blocks slots
  pub form : OwesWell h
  pub knows : Knows h.phase h.sid h.draft h.offer.peer_slots

-- something is owed, a message is left to be sent, or a session is open only where the link is up; its handshake began with the link
pub record IsQuiet (s : ServerState) : Type 0 where
  pub phase : s.handshake.phase ≡ handshake.Down
  pub owed : s.handshake.owed ≡ None
  pub to_send : s.link.to_send ≡ []
  pub session : s.session ≡ None

pub record Began (s : ServerState) : Type 0 where
  pub down : is_up s.link ≡ false → IsQuiet s
  pub up : is_up s.link ≡ true → s.handshake.phase ≢ handshake.Down

-- the client's ring is known, with as many slots and cookies as a ring may have
pub record RingStands (h : Handshake) : Type 0 where
  pub open_phase : h.phase ≡ handshake.Open
  pub some_slots : 0 < h.draft.peer_slots
  pub few_slots : h.draft.peer_slots ≤ 256
  pub few_cookies : h.draft.peer_count ≤ 14

-- a session is open only where the handshake's is
abbrev pub IsOpen : Option ServerSession → Phase → Type 0
IsOpen None phase = ⊤
IsOpen (Some session) phase = phase ≡ handshake.Open

-- a unit in work is one of its descriptor, and the bytes between its two pieces are as many as it has
abbrev pub WorksRightly : ℕ → Progress → Work → Type 0
WorksRightly blocks (Reads unit) work = IsUnit blocks unit (desc_of work)
WorksRightly blocks (Gives unit bytes) work = IsUnit blocks unit (desc_of work) × (length bytes ≡ length_of work unit)
WorksRightly blocks (Gathers unit) work = IsUnit blocks unit (desc_of work)
WorksRightly blocks (Writes unit bytes) work = IsUnit blocks unit (desc_of work) × (length bytes ≡ length_of work unit)
WorksRightly blocks Flushes work = ⊤
WorksRightly blocks (Ends status) work = ⊤

-- a descriptor is in work only for a range that isn't finished, and while nothing is owed or to be sent
abbrev pub IsUnfinished : Option SlotRange → ServerSession → Type 0
IsUnfinished None session = ⊥
IsUnfinished (Some range) session = session.finished ≢ session.asked

abbrev pub HasRange : Option ServerSession → Type 0
HasRange None = ⊥
HasRange (Some session) = IsUnfinished session.range session

pub record WorkStands (s : ServerState) (work : Work) : Type 0 where
  pub range : HasRange s.session
  pub owed : s.handshake.owed ≡ None
  pub to_send : s.link.to_send ≡ []
  pub rightly : WorksRightly s.blocks work.progress work

abbrev pub WorkIn : ServerState → Option Work → Type 0
WorkIn s None = ⊤
WorkIn s (Some work) = WorkStands s work

-- a disk of 1 to 65,536 blocks, and a ring of 2 to 256 slots
pub record IsDisk (blocks slots : ℕ) : Type 0 where
  pub some_blocks : 1 ≤ blocks
  pub most_blocks : blocks ≤ 65536
  pub some_slots : 2 ≤ slots
  pub most_slots : slots ≤ 256

pub record Stands (s : ServerState) : Type 0 where
  pub disk : IsDisk s.blocks s.slots
  pub link : LinkStands s.link
  pub handshake : HandshakeStands s.blocks s.slots s.handshake
  pub began : Began s
  pub session : IsOpen s.session s.handshake.phase
  pub work : WorkIn s s.work
