-- What an end's session counts, also where somebody forges packets and memory: the ranges of slots that the end said and heard, each message
-- of the link being the one that is owed or the end's own.
use Rattle.std.specs.Prelude.{◌≡◌, ℕ, ◌+◌, ◌%◌, ◌^◌, ◌<◌, ◌≤◌, Bool, true, false, List, [], ◌∷◌, ◌++◌, length, Option, Some, None, ⊤}
use Rattle.ldc_queue.specs.Transcript.{Utterance}
use Rattle.vdisk_msg.specs.Pieces.{unit_count}
use Rattle.vio_tag.specs.Spelling.{canonical}
use Rattle.lane_models.specs.Sayings.{half_said, heard, said}
use Rattle.lane_laws.specs.Agreement.{ClientAgrees, ServerAgrees}
use Rattle.lane_laws.specs.DiskLog.{DiskLog}
use Rattle.lane_models.specs.Messages.{range_in}
use Rattle.lane_laws.specs.WorkLog.{ClientCounts, ServerCounts, length_in, one_in}
use Rattle.lane_models.specs.ClientPutting.{announcement}
use Rattle.lane_models.specs.ClientState.{ClientSession, ClientState}
use Rattle.lane_models.specs.LaneState.{LaneState, Shape}
use Rattle.lane_models.specs.Ranges.{wrapped}
use Rattle.dring.specs.Slots.{range_length}
use Rattle.lane_models.specs.ServerRule.{answer}
use Rattle.lane_models.specs.ServerState.{Gathers, Gives, Progress, Reads, ServerSession, ServerState, SlotRange, Work, Writes}
use Rattle.lane_models.specs.ServerWork.{desc_of}
use Rattle.lane_laws.specs.Budget.{one_range}

-- SUMS over messages: the slots of their ranges, INFO 1 or ACK 2, and how many ranges
abbrev pub range_sum : ℕ → ℕ → List (List ℕ) → ℕ
range_sum slots subtype [] = 0
range_sum slots subtype (message ∷ messages) = length_in slots (range_in subtype (Some message)) + range_sum slots subtype messages

abbrev pub range_count : ℕ → List (List ℕ) → ℕ
range_count subtype [] = 0
range_count subtype (message ∷ messages) = one_in (range_in subtype (Some message)) + range_count subtype messages

-- THE CLIENT: where it announces, what was put of a message and what is left of it are the INFO that does
abbrev pub ClientHolds : ClientState → List Utterance → Type 0
ClientHolds c utterances =
    (session : ClientSession) → c.session ≡ Some session → session.announcing ≡ true → half_said utterances ++ c.link.to_send ≡ canonical (announcement c session)

abbrev pub announced_of : Option ClientSession → ℕ
announced_of None = 0
announced_of (Some session) = session.announced

abbrev pub infos_of : Option ClientSession → ℕ
infos_of None = 0
infos_of (Some session) = session.infos

abbrev pub acked_of : Option ClientSession → ℕ
acked_of None = 0
acked_of (Some session) = session.acked

-- its session counts what was said and heard, as the log does
pub record ClientCounted (shape : Shape) (c : ClientState) (utterances : List Utterance) (done : ℕ) (k : Option ClientCounts) : Type 0 where
  pub slots : c.slots ≡ shape.slots
  pub holds : ClientHolds c utterances
  pub announced : announced_of c.session ≡ range_sum shape.slots 1 (said utterances)
  pub infos : infos_of c.session ≡ range_count 1 (said utterances)
  pub acked : acked_of c.session ≡ range_sum shape.slots 2 (heard utterances)
  pub agrees : ClientAgrees c.session done k

-- THE SERVER: where its handshake owes nothing, they are the answer to its range, whose descriptors all are finished
pub record HoldsAnswer (v : ServerState) (bytes : List ℕ) : Type 0 where
  pub session : ServerSession
  pub range : SlotRange
  pub session_is : v.session ≡ Some session
  pub range_is : session.range ≡ Some range
  pub finished : session.finished ≡ session.asked
  pub bytes_are : bytes ≡ canonical (answer v range)

abbrev pub ServerHolds : ServerState → List Utterance → Type 0
ServerHolds v utterances = v.handshake.owed ≡ None → 1 ≤ length v.link.to_send → HoldsAnswer v (half_said utterances ++ v.link.to_send)

-- without a range all that was asked for is answered; a range is what isn't, begins where so many slots went before, and has a number of 8
-- bytes; each range that was heard before it has its answer
abbrev pub RangeStands : ℕ → Option SlotRange → ServerCounts → Type 0
RangeStands slots None d = d.answered ≡ d.asked
RangeStands slots (Some range) d =
    (d.asked ≡ d.answered + range_length slots range.start range.end) × (range.start < slots) × (range.end < slots) × (range.start ≡ wrapped d.answered % slots)
    × (range.seq < 2 ^ 64)

pub record InServerOrder (slots : ℕ) (session : ServerSession) (d : ServerCounts) (utterances : List Utterance) : Type 0 where
  pub asked : d.asked ≡ range_sum slots 1 (heard utterances)
  pub answered : d.answered ≡ range_sum slots 2 (said utterances)
  pub finished : d.answered ≤ d.finished
  pub descs : d.descs ≤ d.asked
  pub range : RangeStands slots session.range d
  pub seq : session.seq ≡ wrapped (range_count 1 (heard utterances) + 1)
  pub replies : range_count 1 (heard utterances) ≤ range_count 2 (said utterances) + one_range session.range

pub record NothingAsked (slots : ℕ) (utterances : List Utterance) : Type 0 where
  pub asked : range_sum slots 1 (heard utterances) ≡ 0
  pub answered : range_sum slots 2 (said utterances) ≡ 0
  pub infos : range_count 1 (heard utterances) ≡ 0

abbrev pub ServerOrder : ℕ → Option ServerSession → Option ServerCounts → List Utterance → Type 0
ServerOrder slots None d utterances = NothingAsked slots utterances
ServerOrder slots (Some session) None utterances = ⊥
ServerOrder slots (Some session) (Some d) utterances = InServerOrder slots session d utterances

-- the unit in work is one of the descriptor's
abbrev pub UnitIn : ℕ → Progress → Type 0
UnitIn units (Reads unit) = unit < units
UnitIn units (Gives unit bytes) = unit < units
UnitIn units (Gathers unit) = unit < units
UnitIn units (Writes unit bytes) = unit < units
UnitIn units _ = ⊤

abbrev pub UnitFits : Option Work → Type 0
UnitFits None = ⊤
UnitFits (Some work) = UnitIn (unit_count (desc_of work).size) work.progress

pub record ServerCounted (shape : Shape) (v : ServerState) (utterances : List Utterance) (d : Option ServerCounts) : Type 0 where
  pub slots : v.slots ≡ shape.slots
  pub blocks : v.blocks ≡ shape.blocks
  pub holds : ServerHolds v utterances
  pub order : ServerOrder shape.slots v.session d utterances
  pub unit : UnitFits v.work
  pub agrees : ServerAgrees v.session v.work d

-- BOTH ENDS of a lane, and its log
pub record LaneCounted (s : LaneState) (l : DiskLog) : Type 0 where
  pub client : ClientCounted l.shape s.client l.transcript.a l.work.done l.work.client
  pub server : ServerCounted l.shape s.server l.transcript.b l.work.server
