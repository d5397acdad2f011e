-- What always holds of a disk's client by itself, whatever its peer puts and whoever meddles with the channel and the
-- memory.
use Rattle.std.specs.Prelude.{◌≡◌, ◌≢◌, ℕ, ◌+◌, ◌^◌, ◌<◌, ◌≤◌, true, false, List, [], length, Option, Some, None, is_some, ⊤}
use Rattle.ldc_link.specs.declared.phase.LinkPhase.{LinkPhase}
use Rattle.ldc_link.specs.declared.phase.LinkPhase.TheVariants as phase
use Rattle.ldc_link.specs.declared.phase.Role.TheVariants.{Initiator}
use Rattle.ldc_link.specs.LinkState.{LinkState, is_up}
use Rattle.vdisk_msg.specs.declared.request.Request.{Request}
use Rattle.vdisk_msg.specs.Requests.{AreSound}
use Rattle.vio_handshake.specs.declared.handshake.Handshake.{Handshake}
use Rattle.vio_handshake.specs.declared.handshake.Phase.TheVariants.{Down, Open}
use Rattle.vio_handshake.specs.State.{OwesWell}
use Rattle.lane_models.specs.ClientPutting.{is_announcing}
use Rattle.lane_models.specs.ClientState.{ClientSession, ClientState}

-- the phases of the end that begins the link's handshake
abbrev pub IsInitiators : LinkPhase → Type 0
IsInitiators phase.AwaitsVersInfo = ⊥
IsInitiators phase.OwesVersAck = ⊥
IsInitiators (phase.OwesVersNack major) = ⊥
IsInitiators phase.AwaitsRts = ⊥
IsInitiators phase.OwesRtr = ⊥
IsInitiators phase.AwaitsRdx = ⊥
IsInitiators _ = ⊤

-- The counts of a session in their order, with so many pending requests and this next id. An INFO that the link holds
-- announces something.
pub record CountsStand (pending next : ℕ) (session : ClientSession) : Type 0 where
  pub completed : session.completed ≤ session.acked
  pub acked : session.acked ≤ session.announced
  pub announced : session.announced ≤ session.published
  pub published : session.published ≤ session.completed + pending
  pub ids : session.base + session.completed + pending ≡ next
  pub infos : session.infos ≤ session.announced
  pub announcing : session.announcing ≡ true → session.announced < session.published

abbrev pub SessionStands : ℕ → ℕ → Option ClientSession → Type 0
SessionStands pending next None = ⊤
SessionStands pending next (Some session) = CountsStand pending next session

-- before the link is up nothing is owed, no session is open and no message is to be sent
pub record IsQuiet (k : LinkState) (h : Handshake) (session : Option ClientSession) : Type 0 where
  pub owed : h.owed ≡ None
  pub closed : session ≡ None
  pub to_send : k.to_send ≡ []

-- a handshake that began knows the session's number
pub record IsBegun (h : Handshake) : Type 0 where
  pub phase : h.phase ≢ Down
  pub known : h.sid ≡ Some h.draft.sid

-- THE LINK AND THE HANDSHAKE, each an initiator's, the link without a whole message between calls: a handshake that
-- began where the link is up, and is through where the session is open. A message that the link holds is the client's
-- own, or the handshake owes it; and where the client announces, the link holds its INFO.
pub record Transcripts (k : LinkState) (h : Handshake) (session : Option ClientSession) : Type 0 where
  pub link : k.role ≡ Initiator
  pub phase : IsInitiators k.phase
  pub no_message : k.whole ≡ None
  pub handshake : h.role ≡ Initiator
  pub begun : is_up k ≡ true → IsBegun h
  pub opened : is_some session ≡ true → h.phase ≡ Open
  pub quiet : is_up k ≡ false → IsQuiet k h session
  pub holds : k.to_send ≢ [] → is_announcing session ≡ false → is_some h.owed ≡ true
  pub announces : is_announcing session ≡ true → k.to_send ≢ []
  pub owed : OwesWell h

abbrev pub TranscriptStands : ClientState → Type 0
TranscriptStands s = Transcripts s.link s.handshake s.session

-- THE REQUESTS: at most as many as the ring has slots, all within the disk, and the last of them with the id before
-- the next
pub record RequestsWait (blocks slots next_id ever_published : ℕ) (pending : List Request) : Type 0 where
  pub some_slots : 2 ≤ slots
  pub most_slots : slots ≤ 256
  pub few_blocks : blocks ≤ 65536
  pub few : length pending ≤ slots
  pub sound : AreSound blocks pending
  pub ids : length pending ≤ next_id
  pub next : next_id < 2 ^ 64
  pub ever : ever_published ≤ next_id

abbrev pub RequestsStand : ClientState → Type 0
RequestsStand s = RequestsWait s.blocks s.slots s.next_id s.ever_published s.pending

pub record Stands (s : ClientState) : Type 0 where
  pub transcript : TranscriptStands s
  pub requests : RequestsStand s
  pub session : SessionStands (length s.pending) s.next_id s.session
