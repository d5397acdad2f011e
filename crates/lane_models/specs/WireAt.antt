-- Where an event of the wire may stand, after those before it, also where somebody forges packets. Each law is a predicate of its
-- own; what they say of one packet is read from its bytes by their places.
use Rattle.std.specs.Prelude.{◌≡◌, ◌≢◌, ℕ, ◌+◌, ◌%◌, ◌<◌, ◌≤◌, true, false, List, length, Option, Some, None, slice_get, ⊤}
use Rattle.ldc_packet.specs.declared.packet.Packet.{Packet}
use Rattle.ldc_packet.specs.Fault.{first_fault}
use Rattle.ldc_packet.specs.Form.{HasWidths, IsWellFormed}
use Rattle.ldc_packet.specs.Spelling.{canonical, seqid_at}
use Rattle.ldc_queue.specs.declared.end.ChannelState.TheVariants.{Up}
use Rattle.ldc_queue.specs.declared.end.End.{End}
use Rattle.ldc_queue.specs.Fragments.{Fragment, fragment_at, is_part}
use Rattle.ldc_queue.specs.Messages.{is_empty}
use Rattle.ldc_queue.specs.Numbered.{is_numbered}
use Rattle.ldc_queue.specs.Transcript.{Utterance}
use Rattle.ldc_queue.specs.Wire.{Wire, peer_of, state_of, waiting_for}
use Rattle.vio_tag.specs.declared.cause.Cause.{Cause}
use Rattle.vio_tag.specs.declared.cause.Cause.TheVariants as the_cause
use Rattle.lane_models.specs.Sayings.{count_heard, count_said, half_heard, half_said}
use Rattle.lane_models.specs.TranscriptLog.{TranscriptLog, transcript_of}
use Rattle.lane_models.specs.WireEvent.{Blocked, ByRestart, ByScript, ByStep, ByTick, Declined, Declines, Giver, Idle, Injected, InjectedFull, Joined, Lost, NotInjected, NothingLost, PokeRefused, Poked, Reset, Sent, Took, WireEvent, giver}
use Rattle.lane_models.specs.WireLog.{WireLog}

-- the entries of each queue, of which one always stays free, and the bytes of an end's memory
pub record Sizes : Type 0 where
  pub entries : ℕ
  pub memory : ℕ

abbrev pub IsUp : End → Wire → Type 0
IsUp e w = state_of e w ≡ Up

-- fewer packets wait for the end than its queue holds, or as many
abbrev pub HasRoomFor : Sizes → End → Wire → Type 0
HasRoomFor n e w = length (waiting_for e w) + 1 < n.entries

abbrev pub IsFull : Sizes → End → Wire → Type 0
IsFull n e w = length (waiting_for e w) + 1 ≡ n.entries

-- the packet has waited longest for the end
abbrev pub IsFirstOn : List ℕ → End → Wire → Type 0
IsFirstOn packet e w = slice_get (waiting_for e w) 0 ≡ Some packet

abbrev pub MayCarry : Option (List ℕ) → End → Wire → Type 0
MayCarry None e w = ⊤
MayCarry (Some packet) e w = IsFirstOn packet e w

-- only a step's reset carries a packet, and only an end that is up takes one
abbrev pub MayReset : Giver → Option (List ℕ) → End → Wire → Type 0
MayReset ByStep packet e w = IsUp e w × MayCarry packet e w
MayReset ByScript packet e w = packet ≡ None
MayReset ByRestart packet e w = packet ≡ None
MayReset ByTick packet e w = packet ≡ None

-- THE TABLE: the states of the ends, and what waits for them
abbrev pub WireTableAt : Sizes → WireLog → WireEvent → Type 0
WireTableAt n l (Joined e lost) = state_of e l.wire ≢ Up
WireTableAt n l (Reset e cause packet lost) = MayReset (giver cause) packet e l.wire
WireTableAt n l (Took e packet opens) = IsUp e l.wire × IsFirstOn packet e l.wire
WireTableAt n l (Sent e packet opens) = IsUp e l.wire × HasRoomFor n (peer_of e) l.wire
WireTableAt n l (Idle e) = IsUp e l.wire
WireTableAt n l (Blocked e) = IsUp e l.wire × IsFull n (peer_of e) l.wire
WireTableAt n l (Lost e packet) = IsFirstOn packet e l.wire
WireTableAt n l (Injected e packet) = IsUp e l.wire × HasRoomFor n e l.wire
WireTableAt n l (Poked e at bytes) = at + length bytes ≤ n.memory
WireTableAt n l (Declines d) = ⊤

-- THE ANSWERS that change nothing, each exactly where it is said
abbrev pub DeclinesAt : Sizes → WireLog → Declined → Type 0
DeclinesAt n l (NothingLost e) = slice_get (waiting_for e l.wire) 0 ≡ None
DeclinesAt n l (NotInjected e packet) = state_of e l.wire ≢ Up
DeclinesAt n l (InjectedFull e packet) = IsUp e l.wire × IsFull n e l.wire
DeclinesAt n l (PokeRefused e at count) = n.memory < at + count

abbrev pub WireAnswersAt : Sizes → WireLog → WireEvent → Type 0
WireAnswersAt n l (Declines d) = DeclinesAt n l d
WireAnswersAt n l _ = ⊤

-- WHAT IS SAID: canonical packets; RDX and parts count up from 1 modulo 2^32; a message is cut into parts of 56 bytes and a last one,
-- START on the first, STOP on the last, and has at most 256 bytes
abbrev pub counts_next : ℕ → ℕ
counts_next count = (count + 1) % 4294967296

pub record IsSaidPart (half : List ℕ) (part : Fragment) : Type 0 where
  pub start : part.start ≡ is_empty half
  pub long : part.stop ≡ false → length part.bytes ≡ 56
  pub most : length half + length part.bytes ≤ 256

pub record IsSaid (utterances : List Utterance) (bytes : List ℕ) : Type 0 where
  pub packet : Packet
  pub formed : IsWellFormed packet
  pub widths : HasWidths packet
  pub spelled : bytes ≡ canonical packet
  pub number : is_numbered bytes ≡ true → seqid_at bytes ≡ counts_next (count_said utterances)
  pub part : is_part bytes ≡ true → IsSaidPart (half_said utterances) (fragment_at bytes)

abbrev pub WireSaidAt : TranscriptLog → WireEvent → Type 0
WireSaidAt l (Sent e packet opens) = IsSaid (transcript_of e l) packet
WireSaidAt l _ = ⊤

-- WHAT IS HEARD: 64 bytes that spell a packet, with the next number where it has one; a part has START exactly where nothing of a
-- message has come, and makes no message above 256 bytes
pub record IsHeardPart (half : List ℕ) (part : Fragment) : Type 0 where
  pub start : part.start ≡ is_empty half
  pub most : length half + length part.bytes ≤ 256

pub record IsHeard (utterances : List Utterance) (bytes : List ℕ) : Type 0 where
  pub whole : length bytes ≡ 64
  pub sound : first_fault bytes ≡ None
  pub number : is_numbered bytes ≡ true → seqid_at bytes ≡ counts_next (count_heard utterances)
  pub part : is_part bytes ≡ true → IsHeardPart (half_heard utterances) (fragment_at bytes)

abbrev pub WireHeardAt : TranscriptLog → WireEvent → Type 0
WireHeardAt l (Took e packet opens) = IsHeard (transcript_of e l) packet
WireHeardAt l _ = ⊤

-- THE GAP: the packet has a number, which is another than the next
pub record IsGap (utterances : List Utterance) (expected found : ℕ) (packet : List ℕ) : Type 0 where
  pub has_number : is_numbered packet ≡ true
  pub next : expected ≡ counts_next (count_heard utterances)
  pub is : found ≡ seqid_at packet
  pub other : expected ≢ found

abbrev pub GapCarries : List Utterance → ℕ → ℕ → Option (List ℕ) → Type 0
GapCarries utterances expected found None = ⊥
GapCarries utterances expected found (Some packet) = IsGap utterances expected found packet

abbrev pub GapOf : List Utterance → Cause → Option (List ℕ) → Type 0
GapOf utterances (the_cause.Gap expected found) packet = GapCarries utterances expected found packet
GapOf utterances _ packet = ⊤

abbrev pub WireGapAt : TranscriptLog → WireEvent → Type 0
WireGapAt l (Reset e cause packet lost) = GapOf (transcript_of e l) cause packet
WireGapAt l _ = ⊤

-- UNFORGED: where nobody meddled, an end resets itself for a gap alone, and only once a packet was lost
pub record IsOwnReset (l : WireLog) (cause : Cause) : Type 0 where
  pub expected : ℕ
  pub found : ℕ
  pub gap : cause ≡ the_cause.Gap expected found
  pub lossy : l.lossy ≡ true

abbrev pub UnforgedReset : Giver → WireLog → Cause → Type 0
UnforgedReset ByStep l cause = l.forged ≡ false → IsOwnReset l cause
UnforgedReset ByScript l cause = ⊤
UnforgedReset ByRestart l cause = ⊤
UnforgedReset ByTick l cause = ⊤

abbrev pub WireUnforgedAt : WireLog → WireEvent → Type 0
WireUnforgedAt l (Reset e cause packet lost) = UnforgedReset (giver cause) l cause
WireUnforgedAt l _ = ⊤

-- NO FRAMES are lost as an end is configured, by its own step or by a reset: the ends of a disk hold none
abbrev pub WireLostAt : WireEvent → Type 0
WireLostAt (Joined e lost) = lost ≡ 0
WireLostAt (Reset e cause packet lost) = lost ≡ 0
WireLostAt _ = ⊤
