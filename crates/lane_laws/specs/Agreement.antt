-- How a lane's log and its state agree: what is a part of both is equal, and what one has less of is told by the other.
use Rattle.std.specs.Prelude.{◌≡◌, ℕ, ◌+◌, ◌-◌, ◌%◌, ◌^◌, ◌&&◌, false, is_some, not, List, [], ◌∷◌, ◌++◌, drop, length, replicate, Option, Some, None, slice_get, slice_index, ⊤}
use Rattle.dring.specs.Slots.{free_state, slot_bytes}
use Rattle.ldc_link.specs.declared.phase.Role.TheVariants.{Initiator, Responder}
use Rattle.ldc_link.specs.Following.{OffersLittle}
use Rattle.ldc_link.specs.LinkState.{LinkState, is_up}
use Rattle.ldc_queue.specs.declared.end.End.{End}
use Rattle.ldc_queue.specs.declared.end.End.TheVariants.{A, B}
use Rattle.ldc_queue.specs.Messages.{is_empty}
use Rattle.ldc_queue.specs.Transcript.{Utterance}
use Rattle.vdisk_msg.specs.declared.desc.DiskDesc.{DiskDesc}
use Rattle.vdisk_msg.specs.declared.request.Request.{Request}
use Rattle.vdisk_msg.specs.Descriptor as slot_says
use Rattle.vdisk_msg.specs.Pieces.{Finishes, Moves, Piece, Stores, read_pieces, unit_count, write_pieces}
use Rattle.vdisk_msg.specs.Requested as asks_for
use Rattle.lane_models.specs.Sayings.{count_heard, count_said, half_heard, half_said}
use Rattle.lane_models.specs.WireAt.{counts_next}
use Rattle.lane_models.specs.Blockage.{Blockage, is_stuck_with_own}
use Rattle.lane_models.specs.ClientPutting.{is_announcing}
use Rattle.lane_models.specs.ClientRule as client_rules
use Rattle.lane_models.specs.ClientState.{ClientSession, ClientState, ever_published_count}
use Rattle.lane_models.specs.EndFold.{handshake_of, link_phase}
use Rattle.lane_laws.specs.EndLog.{client_left, infos_heard, range_in_work, server_left}
use Rattle.lane_models.specs.LaneState.{LaneState, Shape, pages_of}
use Rattle.lane_models.specs.Offering.{client_offer, server_offer}
use Rattle.lane_models.specs.Ranges.{wrapped}
use Rattle.lane_models.specs.Seeing.{seen}
use Rattle.lane_models.specs.ServerRule as server_rules
use Rattle.lane_models.specs.ServerState.{Ends, Flushes, Gathers, Gives, Progress, Reads, ServerSession, ServerState, Work, Writes}
use Rattle.lane_laws.specs.DiskLog.{DiskLog}
use Rattle.lane_models.specs.TranscriptLog.{TranscriptLog}
use Rattle.lane_laws.specs.NearLog.{NearLog}
use Rattle.lane_laws.specs.RingLog.{Accepted, Done, Free, Ready, SlotLog, Zeros}
use Rattle.lane_laws.specs.WorkLog.{ClientCounts, ServerCounts, WorkLog}
use Rattle.lane_laws.specs.WorkNext.{bytes_held, count_held, next_by, without_bytes}
use Rattle.lane_models.specs.OwnMemory.{own_table}

-- A LINK counts what was said and heard, and holds what came of a message that isn't whole; part of its own message is put where part of
-- one was said; before it is up it has heard nothing and holds nothing; the version that it offers in place of a refused one is 1.0 or 0.0.
pub record LinkAgrees (k : LinkState) (utterances : List Utterance) : Type 0 where
  pub put : k.put_next ≡ counts_next (count_said utterances)
  pub take : k.take_next ≡ counts_next (count_heard utterances)
  pub heard : k.half_heard ≡ half_heard utterances
  pub seen : k.whole ≡ None
  pub begun : k.begun ≡ not (is_empty (half_said utterances))
  pub nothing_below : is_up k ≡ false → k.to_send ≡ []
  pub offers : OffersLittle k.phase

-- THE REQUESTS that are pending are those that were accepted and aren't done
pub record RequestsAgree (c : ClientState) (w : WorkLog) : Type 0 where
  pub pending : c.pending ≡ drop w.done w.issued
  pub next : c.next_id ≡ length w.issued

-- THE CLIENT'S SESSION has the log's counts, and counts what is done from its base on
pub record ClientCountsAgree (s : ClientSession) (done : ℕ) (c : ClientCounts) : Type 0 where
  pub base : s.base ≡ c.base
  pub published : s.published ≡ c.published
  pub announced : s.announced ≡ c.announced
  pub infos : s.infos ≡ c.infos
  pub acked : s.acked ≡ c.acked
  pub completed : done ≡ c.base + s.completed

abbrev pub ClientAgrees : Option ClientSession → ℕ → Option ClientCounts → Type 0
ClientAgrees None done None = ⊤
ClientAgrees (Some s) done (Some c) = ClientCountsAgree s done c
ClientAgrees None done (Some c) = ⊥
ClientAgrees (Some s) done None = ⊥

-- THE SERVER'S SESSION counts modulo 2^64
pub record ServerCountsAgree (s : ServerSession) (c : ServerCounts) : Type 0 where
  pub asked : s.asked ≡ wrapped c.asked
  pub descs : s.descs ≡ wrapped c.descs
  pub finished : s.finished ≡ wrapped c.finished
  pub answered : s.answered ≡ wrapped c.answered

-- what a descriptor in work owes yet
abbrev pub owed_of : DiskDesc → Progress → List Piece
owed_of desc (Reads unit) = read_pieces unit (unit_count desc.size - unit) ++ Finishes 0 ∷ []
owed_of desc (Gives unit bytes) = Moves unit ∷ (read_pieces (unit + 1) (unit_count desc.size - (unit + 1)) ++ Finishes 0 ∷ [])
owed_of desc (Gathers unit) = write_pieces unit (unit_count desc.size - unit) ++ Finishes 0 ∷ []
owed_of desc (Writes unit bytes) = Stores unit ∷ (write_pieces (unit + 1) (unit_count desc.size - (unit + 1)) ++ Finishes 0 ∷ [])
owed_of desc Flushes = Stores 0 ∷ Finishes 0 ∷ []
owed_of desc (Ends status) = Finishes status ∷ []

abbrev pub WorkAgrees : Option Work → ServerCounts → Type 0
WorkAgrees None c = (c.owed ≡ []) × (c.descs ≡ c.finished)
WorkAgrees (Some work) c =
    (c.desc ≡ work.bytes) × (c.owed ≡ owed_of (slot_says.disk_desc_of work.bytes) work.progress) × (c.descs ≡ c.finished + 1)

-- WHAT COMES NEXT of it is told by its operation and by that; of the bytes that are held of a unit the log tells only how many they are
pub record NextAgrees (work : Work) (c : ServerCounts) : Type 0 where
  pub next : without_bytes work.progress ≡ next_by (slot_says.disk_desc_of c.desc).operation c.owed
  pub held : length (bytes_held work.progress) ≡ count_held (slot_says.disk_desc_of c.desc).size (next_by (slot_says.disk_desc_of c.desc).operation c.owed)

abbrev pub WorkNextAgrees : Option Work → Option ServerCounts → Type 0
WorkNextAgrees None d = ⊤
WorkNextAgrees (Some work) None = ⊥
WorkNextAgrees (Some work) (Some c) = NextAgrees work c

abbrev pub ServerAgrees : Option ServerSession → Option Work → Option ServerCounts → Type 0
ServerAgrees None work None = work ≡ None
ServerAgrees (Some s) work (Some c) = ServerCountsAgree s c × WorkAgrees work c
ServerAgrees None work (Some c) = ⊥
ServerAgrees (Some s) work None = ⊥

-- HOW NEAR the image is, where nobody meddles
pub record NearAgrees (s : LaneState) (n : NearLog) : Type 0 where
  pub k : s.near.k ≡ n.k
  pub m : s.near.m ≡ n.m
  pub u : s.near.u ≡ n.u
  pub p : ever_published_count s.client ≡ n.p

-- A SLOT of the ring, where nobody meddles: the bytes of a request's descriptor with the state and the status that it has; of a free one
-- its state alone
pub record HoldsRequest (issued : List Request) (id slot slots state status : ℕ) (bytes : List ℕ) : Type 0 where
  pub request : Request
  pub accepted : slice_get issued id ≡ Some request
  pub bytes_are : bytes ≡ slot_says.canonical (record (asks_for.descriptor_of id request slot slots) { state = state; status = status })

abbrev pub SlotAgrees : List Request → ℕ → ℕ → SlotLog → List ℕ → Type 0
SlotAgrees issued slots slot Zeros bytes = bytes ≡ replicate 128 0
SlotAgrees issued slots slot Free bytes = slice_index bytes 0 ≡ free_state
SlotAgrees issued slots slot (Ready id) bytes = HoldsRequest issued id slot slots 2 0 bytes
SlotAgrees issued slots slot (Accepted id) bytes = HoldsRequest issued id slot slots 3 0 bytes
SlotAgrees issued slots slot (Done id status) bytes = HoldsRequest issued id slot slots 4 status bytes

pub record RingAgrees (memory : List ℕ) (slots : ℕ) (issued : List Request) (ring : List SlotLog) : Type 0 where
  pub long : length ring ≡ slots
  pub each : (slot : ℕ) (is : SlotLog) → slice_get ring slot ≡ Some is → SlotAgrees issued slots slot is (slot_bytes 128 slot memory)

-- AN END THAT WAS IDLE in the last event has nothing to do yet
abbrev pub IdleAgrees : LaneState → Option End → Type 0
IdleAgrees s None = ⊤
IdleAgrees s (Some A) = client_rules.client_rule s.client (seen A s.shape.entries s.wire.wire) ≡ client_rules.Idles
IdleAgrees s (Some B) = (s.stopped ≡ false) × (server_rules.server_rule s.server (seen B s.shape.entries s.wire.wire) ≡ server_rules.Idles)

-- AN END is what it said and heard since it last began anew, and whether it is stuck: the client's last sid is how
-- often its link came up
pub record ClientEndAgrees (c : ClientState) (shape : Shape) (transcript : TranscriptLog) (blockage : Blockage) : Type 0 where
  pub blocks : c.blocks ≡ shape.blocks
  pub slots : c.slots ≡ shape.slots
  pub role : c.link.role ≡ Initiator
  pub phase : c.link.phase ≡ link_phase Initiator transcript.a
  pub handshake : c.handshake ≡ handshake_of Initiator (client_offer shape.blocks shape.slots) (transcript.links % 2 ^ 32) transcript.a
  pub announcing : is_announcing c.session ≡ (is_some c.session && is_stuck_with_own blockage c.handshake.owed)
  pub left : c.link.to_send ≡ client_left c c.session (half_said transcript.a) blockage

abbrev pub RangeAgrees : Option ServerSession → List Utterance → Type 0
RangeAgrees None utterances = ⊤
RangeAgrees (Some s) utterances = (s.seq ≡ wrapped (infos_heard utterances + 1)) × (s.range ≡ range_in_work utterances)

-- and the server has its region of the store
pub record ServerEndAgrees (v : ServerState) (shape : Shape) (transcript : TranscriptLog) (blockage : Blockage) : Type 0 where
  pub first : v.first ≡ shape.first
  pub blocks : v.blocks ≡ shape.blocks
  pub slots : v.slots ≡ shape.slots
  pub role : v.link.role ≡ Responder
  pub phase : v.link.phase ≡ link_phase Responder transcript.b
  pub handshake : v.handshake ≡ handshake_of Responder (server_offer shape.blocks shape.slots) 0 transcript.b
  pub range : RangeAgrees v.session transcript.b
  pub left : v.link.to_send ≡ server_left v v.handshake.owed (half_said transcript.b) blockage

pub record AgreesWithLog (s : LaneState) (l : DiskLog) : Type 0 where
  pub shape : s.shape ≡ l.shape
  pub wire : s.wire ≡ l.wire
  pub table : s.table ≡ own_table (pages_of l.shape)
  pub stopped : s.stopped ≡ l.work.stopped
  pub failed : s.failed ≡ l.failed
  pub client_link : LinkAgrees s.client.link l.transcript.a
  pub server_link : LinkAgrees s.server.link l.transcript.b
  pub sids : s.client.handshake.last_sid ≡ l.transcript.links % 2 ^ 32
  pub client_end : ClientEndAgrees s.client l.shape l.transcript l.blocked.client
  pub server_end : ServerEndAgrees s.server l.shape l.transcript l.blocked.server
  pub requests : RequestsAgree s.client l.work
  pub client : ClientAgrees s.client.session l.work.done l.work.client
  pub server : ServerAgrees s.server.session s.server.work l.work.server
  pub next : WorkNextAgrees s.server.work l.work.server
  pub near : l.wire.forged ≡ false → NearAgrees s l.near
  pub idle : IdleAgrees s l.last_idle
  pub ring : l.wire.forged ≡ false → RingAgrees s.memory l.shape.slots l.work.issued l.ring
