-- How far the two links of a channel that nobody forged have come in their handshake: one place for both, with what waits there for each end,
-- and what was said and heard of packets with numbers. An end that isn't up is as one that begins.
use Rattle.std.specs.Prelude.{◌≡◌, ◌⊎◌, ◌<◌, ◌≤◌, ℕ, Bool, true, List, [], ◌∷◌, length, ⊤}
use Rattle.ldc_packet.specs.declared.packet.Body.TheVariants.{Rdx, Rtr, Rts, Vers}
use Rattle.ldc_packet.specs.declared.packet.Packet.{Packet}
use Rattle.ldc_packet.specs.declared.packet.Subtype.TheVariants.{Ack, Info}
use Rattle.ldc_packet.specs.Form.{HasWidths, IsWellFormed}
use Rattle.ldc_packet.specs.Spelling.{canonical}
use Rattle.ldc_link.specs.declared.phase.LinkPhase.{LinkPhase}
use Rattle.ldc_link.specs.declared.phase.LinkPhase.TheVariants as phase
use Rattle.ldc_link.specs.declared.phase.Role.{Role}
use Rattle.ldc_link.specs.declared.phase.Role.TheVariants.{Initiator, Responder}
use Rattle.ldc_link.specs.Conversing.{IsData}
use Rattle.ldc_link.specs.LinkState.{first_phase}
use Rattle.ldc_link.specs.Putting.{control}
use Rattle.ldc_queue.specs.declared.end.ChannelState.{ChannelState}
use Rattle.ldc_queue.specs.declared.end.ChannelState.TheVariants.{Down, Resetting, Up}
use Rattle.ldc_queue.specs.Numbered.{is_numbered}
use Rattle.ldc_queue.specs.OneStream.{live}
use Rattle.ldc_queue.specs.Transcript.{numbered_heard, numbered_said}
use Rattle.lane_models.specs.Sides.{Sides, other}

-- each is named by what was done last
pub data LinkPlace : Type 0 where
  NothingPut : LinkPlace
  VersionPut : LinkPlace
  VersionTaken : LinkPlace
  VersionAnswered : LinkPlace
  AnswerTaken : LinkPlace
  ModePut : LinkPlace
  ModeTaken : LinkPlace
  ModeAnswered : LinkPlace
  ModeAgreed : LinkPlace
  ReadyPut : LinkPlace
  BothUp : LinkPlace

abbrev pub phase_at : Role → LinkPlace → LinkPhase
phase_at Initiator NothingPut = phase.OwesVersInfo
phase_at Initiator VersionPut = phase.AwaitsVersAck
phase_at Initiator VersionTaken = phase.AwaitsVersAck
phase_at Initiator VersionAnswered = phase.AwaitsVersAck
phase_at Initiator AnswerTaken = phase.OwesRts
phase_at Initiator ModePut = phase.AwaitsRtr
phase_at Initiator ModeTaken = phase.AwaitsRtr
phase_at Initiator ModeAnswered = phase.AwaitsRtr
phase_at Initiator ModeAgreed = phase.OwesRdx
phase_at Initiator ReadyPut = phase.Established
phase_at Initiator BothUp = phase.Established
phase_at Responder NothingPut = phase.AwaitsVersInfo
phase_at Responder VersionPut = phase.AwaitsVersInfo
phase_at Responder VersionTaken = phase.OwesVersAck
phase_at Responder VersionAnswered = phase.AwaitsRts
phase_at Responder AnswerTaken = phase.AwaitsRts
phase_at Responder ModePut = phase.AwaitsRts
phase_at Responder ModeTaken = phase.OwesRtr
phase_at Responder ModeAnswered = phase.AwaitsRdx
phase_at Responder ModeAgreed = phase.AwaitsRdx
phase_at Responder ReadyPut = phase.AwaitsRdx
phase_at Responder BothUp = phase.Established

-- the packets without a number
abbrev pub version_offer : Packet
version_offer = control Info 0 (Vers 1 0)

abbrev pub version_answer : Packet
version_answer = control Ack 0 (Vers 1 0)

abbrev pub mode_offer : Packet
mode_offer = control Info 0 (Rts 1)

abbrev pub mode_answer : Packet
mode_answer = control Info 0 (Rtr 1)

-- WHAT WAITS for an end of this role: the packet that was put last, unless it was lost; where both links have put all those without a number,
-- only packets with one
abbrev pub AtMost : Bool → Packet → List (List ℕ) → Type 0
AtMost lossy packet waiting = ((waiting ≡ []) × (lossy ≡ true)) ⊎ (waiting ≡ canonical packet ∷ [])

abbrev pub AllNumbered : List (List ℕ) → Type 0
AllNumbered [] = ⊤
AllNumbered (packet ∷ packets) = (is_numbered packet ≡ true) × AllNumbered packets

abbrev pub WaitsAt : Role → Bool → LinkPlace → List (List ℕ) → Type 0
WaitsAt Initiator lossy VersionAnswered waiting = AtMost lossy version_answer waiting
WaitsAt Initiator lossy ModeAnswered waiting = AtMost lossy mode_answer waiting
WaitsAt Initiator lossy BothUp waiting = AllNumbered waiting
WaitsAt Initiator lossy _ waiting = waiting ≡ []
WaitsAt Responder lossy VersionPut waiting = AtMost lossy version_offer waiting
WaitsAt Responder lossy ModePut waiting = AtMost lossy mode_offer waiting
WaitsAt Responder lossy ReadyPut waiting = AllNumbered waiting
WaitsAt Responder lossy BothUp waiting = AllNumbered waiting
WaitsAt Responder lossy _ waiting = waiting ≡ []

-- WHAT WAS SAID AND HEARD with numbers: by an initiator RDX, with which its link is up, and parts after it; by a responder parts, once it
-- heard RDX
pub record IsReady (bytes : List ℕ) : Type 0 where
  pub number : ℕ
  pub small : number < 4294967296
  pub is : bytes ≡ canonical (control Info number Rdx)

pub record IsPartOf (bytes : List ℕ) : Type 0 where
  pub packet : Packet
  pub formed : IsWellFormed packet
  pub widths : HasWidths packet
  pub carries : IsData packet.body
  pub is : bytes ≡ canonical packet

abbrev pub EachPart : List (List ℕ) → Type 0
EachPart [] = ⊤
EachPart (packet ∷ packets) = IsPartOf packet × EachPart packets

abbrev pub ReadyFirst : List (List ℕ) → Type 0
ReadyFirst [] = ⊥
ReadyFirst (packet ∷ packets) = IsReady packet × EachPart packets

abbrev pub SaidInPlace : Role → LinkPlace → List (List ℕ) → Type 0
SaidInPlace Initiator ReadyPut packets = ReadyFirst packets
SaidInPlace Initiator BothUp packets = ReadyFirst packets
SaidInPlace Initiator _ packets = packets ≡ []
SaidInPlace Responder BothUp packets = EachPart packets
SaidInPlace Responder _ packets = packets ≡ []

abbrev pub HeardInPlace : Role → LinkPlace → List (List ℕ) → Type 0
HeardInPlace Initiator place packets = ⊤
HeardInPlace Responder BothUp packets = 1 ≤ length packets
HeardInPlace Responder _ packets = packets ≡ []

-- a phase counts where the end is up
abbrev pub live_phase : ChannelState → LinkPhase → LinkPhase → LinkPhase
live_phase Up first now = now
live_phase Down first now = first
live_phase Resetting first now = first

-- BOTH LINKS, an end of this role and its peer
pub record LinksAt (role : Role) (s : Sides) : Type 0 where
  pub place : LinkPlace
  pub mine : live_phase s.mine.state (first_phase role) s.mine.core.link.phase ≡ phase_at role place
  pub theirs : live_phase s.theirs.state (first_phase (other role)) s.theirs.core.link.phase ≡ phase_at (other role) place
  pub to_mine : WaitsAt role s.lossy place s.mine.waiting
  pub to_theirs : WaitsAt (other role) s.lossy place s.theirs.waiting
  pub said_mine : SaidInPlace role place (live s.mine.state (numbered_said s.mine.utterances))
  pub said_theirs : SaidInPlace (other role) place (live s.theirs.state (numbered_said s.theirs.utterances))
  pub heard_mine : HeardInPlace role place (live s.mine.state (numbered_heard s.mine.utterances))
  pub heard_theirs : HeardInPlace (other role) place (live s.theirs.state (numbered_heard s.theirs.utterances))
