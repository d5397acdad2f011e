-- Where the events of the work may stand, also where somebody forges packets and memory.
use Rattle.std.specs.Prelude.{◌≡◌, ◌≢◌, ℕ, ◌+◌, ◌-◌, ◌*◌, ◌/◌, ◌%◌, ◌^◌, ◌<◌, ◌≤◌, min, ◌==◌, if◌then◌else◌, Bool, true, false, List, [], ◌∷◌, length, take, Option, Some, None, slice_get, slice_index, ⊤}
use Rattle.cookie_copy.specs.declared.fault.Access.{Access}
use Rattle.cookie_copy.specs.declared.fault.Access.TheVariants.{Read, Write}
use Rattle.cookie_copy.specs.declared.fault.CopyFault.{CopyFault}
use Rattle.cookie_copy.specs.Faults.{both_up, first_copy_fault}
use Rattle.ldc_link.specs.declared.phase.Role.TheVariants.{Initiator, Responder}
use Rattle.ldc_queue.specs.declared.end.End.{End}
use Rattle.ldc_queue.specs.declared.end.End.TheVariants.{A, B}
use Rattle.ldc_queue.specs.Transcript.{Utterance}
use Rattle.vdisk_msg.specs.declared.desc.DiskDesc.{DiskDesc}
use Rattle.vdisk_msg.specs.declared.request.Request.{Request}
use Rattle.vdisk_msg.specs.Descriptor as slot_says
use Rattle.vdisk_msg.specs.Pieces.{Finishes, Moves, Piece, Stores}
use Rattle.vdisk_msg.specs.Requested as asks_for
use Rattle.vio_bytes.specs.Place.{number_at}
use Rattle.vio_tag.specs.declared.cause.Cause.{Cause}
use Rattle.vio_tag.specs.declared.cause.Cause.TheVariants as the_cause
use Rattle.vio_handshake.specs.declared.handshake.Handshake.{Handshake}
use Rattle.vio_handshake.specs.Rules.{sid_fault}
use Rattle.lane_models.specs.HandshakeOrder.{HandshakeOrder}
use Rattle.lane_models.specs.Sayings.{half_heard, half_said}
use Rattle.lane_models.specs.TranscriptLog.{TranscriptLog, hears, says}
use Rattle.lane_models.specs.WireAt.{IsUp}
use Rattle.lane_models.specs.WireEvent.{Reset, Sent, Took}
use Rattle.lane_models.specs.DiskEvent.{Desc, DiskEvent, Done, Finished, Misplaced, Moved, OnWire, Published, Stored, Works}
use Rattle.lane_models.specs.OwnMemory.{own_table}
use Rattle.lane_models.specs.LaneState.{pages_of}
use Rattle.lane_models.specs.Offering.{client_offer, server_offer}
use Rattle.lane_models.specs.ServerState.{SlotRange}
use Rattle.lane_models.specs.Ranges.{ring_active, wrapped}
use Rattle.dring.specs.Slots.{done_state, range_length, ready_state}
use Rattle.lane_models.specs.Blockage.{Clear}
use Rattle.lane_laws.specs.DiskLog.{DiskLog}
use Rattle.lane_models.specs.Messages.{end_slot_of, ended_by, range_ended, seq_of, sid_of, start_slot_of}
use Rattle.lane_models.specs.EndFold.{handshake_of}
use Rattle.lane_laws.specs.EndLog.{ident_of, infos_heard, range_in_work, state_of}
use Rattle.lane_laws.specs.WorkLog.{ClientCounts, Opened, ServerCounts}

-- a session that is open, with its counts
abbrev pub InClient : Option ClientCounts → (ClientCounts → Type 0) → Type 0
InClient None holds = ⊥
InClient (Some c) holds = holds c

abbrev pub InServer : Option ServerCounts → (ServerCounts → Type 0) → Type 0
InServer None holds = ⊥
InServer (Some c) holds = holds c

-- and one that may be open
abbrev pub IfClient : Option ClientCounts → (ClientCounts → Type 0) → Type 0
IfClient None holds = ⊤
IfClient (Some c) holds = holds c

abbrev pub IfServer : Option ServerCounts → (ServerCounts → Type 0) → Type 0
IfServer None holds = ⊤
IfServer (Some c) holds = holds c

-- THE NUMBERS: ids that are published count up from the base and are accepted, a completion was acknowledged, a descriptor is the next of
-- those asked for
pub record MayPublish (l : DiskLog) (id : ℕ) (c : ClientCounts) : Type 0 where
  pub next : id ≡ c.base + c.published
  pub accepted : id < length l.work.issued
  pub pending : l.work.done ≤ id

pub record MayComplete (id : ℕ) (c : ClientCounts) : Type 0 where
  pub since : c.base ≤ id
  pub acked : id < c.base + c.acked

pub record MayFetch (l : DiskLog) (slot : ℕ) (c : ServerCounts) : Type 0 where
  pub nothing_owed : c.owed ≡ []
  pub next : slot ≡ c.descs % l.shape.slots
  pub asked : c.descs < c.asked

abbrev pub WorkNumbersAt : DiskLog → DiskEvent → Type 0
WorkNumbersAt l (Works (Published id)) = InClient l.work.client (MayPublish l id)
WorkNumbersAt l (Works (Done id operation status bytes)) = InClient l.work.client (MayComplete id)
WorkNumbersAt l (Works (Desc slot bytes)) = InServer l.work.server (MayFetch l slot)
WorkNumbersAt l (Works Misplaced) = ⊥
WorkNumbersAt l _ = ⊤

-- THE ENDS: each works only where it is up. So what was asked of a server is over with its session: behind a reset of
-- the client's end, where that was up, the server stores nothing until it has joined.
abbrev pub WorksAt : DiskLog → DiskEvent → Type 0
WorksAt l (Works (Published id)) = IsUp A l.wire.wire
WorksAt l (Works (Done id operation status bytes)) = IsUp A l.wire.wire
WorksAt l (Works (Desc slot bytes)) = IsUp B l.wire.wire
WorksAt l (Works (Moved unit fault)) = IsUp B l.wire.wire
WorksAt l (Works (Stored operation block count failed)) = IsUp B l.wire.wire
WorksAt l (Works (Finished slot status)) = IsUp B l.wire.wire
WorksAt l (Works Misplaced) = ⊥
WorksAt l _ = ⊤

-- the handshakes of both ends, by what they said and heard
abbrev pub client_handshake : DiskLog → Handshake
client_handshake l = handshake_of Initiator (client_offer l.shape.blocks l.shape.slots) (l.transcript.links % 2 ^ 32) l.transcript.a

abbrev pub server_handshake : DiskLog → Handshake
server_handshake l = handshake_of Responder (server_offer l.shape.blocks l.shape.slots) 0 l.transcript.b

-- THE RANGES are said and heard in a session alone, and end within the ring. An INFO that is said has the next number, begins after the
-- range before and names all that was published since, as active; but where the client was blocked with it, that is all that was accepted.
-- One that is heard has the next number, begins after the range before and comes where all before it is answered. An ACK that is heard begins
-- after the ACK before and names announced ones alone. One that is said is that of the range in work: it names all that was asked since the
-- ACK before, the last of it finished. No other range is heard.
abbrev pub IfRange : Option (List ℕ) → (List ℕ → Type 0) → Type 0
IfRange None holds = ⊤
IfRange (Some message) holds = holds message

-- the sid and the number of the ring: a message that is heard has no other sid than the handshake of the end that hears it, where that knows
-- one; one that is said has those of its end's session, of 4 and of 8 bytes
pub record NamesRing (sid : Option ℕ) (ident : ℕ) (message : List ℕ) : Type 0 where
  pub sid_is : sid_fault sid (sid_of message) ≡ None
  pub ident_is : ident_of message ≡ ident

abbrev pub NamesOwn : Handshake → ℕ → List ℕ → Type 0
NamesOwn h ident message = NamesRing (Some (h.draft.sid % 2 ^ 32)) (ident % 2 ^ 64) message

pub record Announces (l : DiskLog) (c : ClientCounts) (message : List ℕ) : Type 0 where
  pub names : NamesOwn (client_handshake l) (client_handshake l).draft.ident_own message
  pub next : seq_of message ≡ wrapped (c.infos + 1)
  pub begins : start_slot_of message ≡ c.announced % l.shape.slots
  pub ends : end_slot_of message < l.shape.slots
  pub published : c.announced + range_length l.shape.slots (start_slot_of message) (end_slot_of message) ≡ c.published
  pub accepted : l.blocked.client ≡ Clear → c.base + c.published ≡ length l.work.issued
  pub active : state_of message ≡ ring_active

pub record AsksFor (slots : ℕ) (utterances : List Utterance) (h : Handshake) (c : ServerCounts) (message : List ℕ) : Type 0 where
  pub names : NamesRing h.sid h.draft.ident_peer message
  pub next : seq_of message ≡ wrapped (infos_heard utterances + 1)
  pub begins : start_slot_of message ≡ c.asked % slots
  pub ends : end_slot_of message < slots
  pub answered : c.answered ≡ c.asked

pub record Acknowledges (slots : ℕ) (h : Handshake) (c : ClientCounts) (message : List ℕ) : Type 0 where
  pub names : NamesRing h.sid h.draft.ident_own message
  pub begins : start_slot_of message ≡ c.acked % slots
  pub ends : end_slot_of message < slots
  pub announced : c.acked + range_length slots (start_slot_of message) (end_slot_of message) ≤ c.announced

-- its number, its slots and the byte of its state are those of the INFO
pub record AcknowledgesRange (slots : ℕ) (utterances : List Utterance) (h : Handshake) (c : ServerCounts) (message : List ℕ) : Type 0 where
  pub names : NamesOwn h h.draft.ident_peer message
  pub range : SlotRange
  pub in_work : range_in_work utterances ≡ Some range
  pub seq : seq_of message ≡ range.seq
  pub start : start_slot_of message ≡ range.start
  pub end : end_slot_of message ≡ range.end
  pub state : state_of message ≡ range.state % 256
  pub begins : start_slot_of message ≡ c.answered % slots
  pub ends : end_slot_of message < slots
  pub asked : c.answered + range_length slots (start_slot_of message) (end_slot_of message) ≡ c.asked
  pub finished : c.finished ≡ c.asked

abbrev pub OfClientRange : DiskLog → Option (List ℕ) → (ClientCounts → List ℕ → Type 0) → Type 0
OfClientRange l range holds = IfRange range (λ (message : List ℕ). InClient l.work.client (λ (c : ClientCounts). holds c message))

abbrev pub OfServerRange : DiskLog → Option (List ℕ) → (ServerCounts → List ℕ → Type 0) → Type 0
OfServerRange l range holds = IfRange range (λ (message : List ℕ). InServer l.work.server (λ (c : ServerCounts). holds c message))

-- an INFO is 1, an ACK 2 and a NACK 4; and no message of groups is heard, which have the envelope 0x0101
pub record HearsNoOther (subtype : ℕ) (utterances : List Utterance) (packet : List ℕ) : Type 0 where
  pub ranges : (other : ℕ) → other ≢ subtype → range_ended other (half_heard utterances) packet ≡ None
  pub groups : (message : List ℕ) → ended_by (half_heard utterances) packet ≡ Some message → number_at 2 2 message ≢ 0x0101

abbrev pub RangesAt : DiskLog → DiskEvent → Type 0
RangesAt l (OnWire (Sent A packet opens)) = OfClientRange l (range_ended 1 (half_said l.transcript.a) packet) (Announces l)
RangesAt l (OnWire (Took B packet opens)) =
    OfServerRange l (range_ended 1 (half_heard l.transcript.b) packet) (AsksFor l.shape.slots l.transcript.b (server_handshake l))
    × HearsNoOther 1 l.transcript.b packet
RangesAt l (OnWire (Took A packet opens)) =
    OfClientRange l (range_ended 2 (half_heard l.transcript.a) packet) (Acknowledges l.shape.slots (client_handshake l))
    × HearsNoOther 2 l.transcript.a packet
RangesAt l (OnWire (Sent B packet opens)) =
    OfServerRange l (range_ended 2 (half_said l.transcript.b) packet) (AcknowledgesRange l.shape.slots l.transcript.b (server_handshake l))
RangesAt l _ = ⊤

-- THE PIECES: what is done is what the last descriptor owes next
abbrev pub Owes : List Piece → Piece → Type 0
Owes [] piece = ⊥
Owes (first ∷ rest) piece = first ≡ piece

abbrev pub desc_in : ServerCounts → DiskDesc
desc_in c = slot_says.disk_desc_of c.desc

-- why the unit can't be copied: a write is copied in, a read out, over a table that grants each page
abbrev pub access_of : ℕ → Access
access_of operation = if operation == 2 then Read else Write

abbrev pub unit_fault : DiskLog → DiskDesc → ℕ → Option CopyFault
unit_fault l desc unit =
    first_copy_fault (both_up l.wire.wire) (access_of desc.operation) (own_table (pages_of l.shape)) (take desc.count desc.cookies)
    (8192 * unit) (min 8192 (desc.size - 8192 * unit))

pub record MovesPiece (l : DiskLog) (unit : ℕ) (fault : Option CopyFault) (c : ServerCounts) : Type 0 where
  pub owed : Owes c.owed (Moves unit)
  pub fault_is : fault ≡ unit_fault l (desc_in c) unit

abbrev pub block_in : DiskDesc → ℕ → ℕ
block_in desc unit = if desc.operation == 3 then 0 else desc.offset + 16 * unit

abbrev pub count_in : DiskDesc → ℕ → ℕ
count_in desc unit = if desc.operation == 3 then 0 else min 8192 (desc.size - 8192 * unit) / 512

pub record StoresPiece (operation block count : ℕ) (c : ServerCounts) : Type 0 where
  pub unit : ℕ
  pub owed : Owes c.owed (Stores unit)
  pub operation_is : operation ≡ (desc_in c).operation
  pub block_is : block ≡ block_in (desc_in c) unit
  pub count_is : count ≡ count_in (desc_in c) unit

pub record FinishesPiece (l : DiskLog) (slot status : ℕ) (c : ServerCounts) : Type 0 where
  pub owed : Owes c.owed (Finishes status)
  pub slot_is : slot ≡ c.finished % l.shape.slots

-- and a descriptor is fetched only where it is READY
abbrev pub PiecesAt : DiskLog → DiskEvent → Type 0
PiecesAt l (Works (Desc slot bytes)) = slice_index bytes 0 ≡ ready_state
PiecesAt l (Works (Moved unit fault)) = InServer l.work.server (MovesPiece l unit fault)
PiecesAt l (Works (Stored operation block count failed)) = InServer l.work.server (StoresPiece operation block count)
PiecesAt l (Works (Finished slot status)) = InServer l.work.server (FinishesPiece l slot status)
PiecesAt l _ = ⊤

-- THE OPENINGS: a session opens in the handshake's order
abbrev pub OpensRightly : Bool → End → TranscriptLog → Type 0
OpensRightly false e t = ⊤
OpensRightly true A t = HandshakeOrder false Initiator t.a
OpensRightly true B t = HandshakeOrder false Responder t.b

abbrev pub OpeningsAt : DiskLog → DiskEvent → Type 0
OpeningsAt l (OnWire (Sent e packet opens)) = OpensRightly opens e (says e packet l.transcript)
OpeningsAt l (OnWire (Took e packet opens)) = OpensRightly opens e (hears e packet l.transcript)
OpeningsAt l _ = ⊤

-- THE RESETS without a packet: a client's for an acknowledged slot that isn't DONE; a server's in a range, for the slot of the next
-- descriptor, which isn't READY, or a copy that was refused
pub record ClientFailed (l : DiskLog) (slot state : ℕ) (c : ClientCounts) : Type 0 where
  pub slot_is : slot ≡ (l.work.done - c.base) % l.shape.slots
  pub state_is : state ≢ done_state
  pub acked : l.work.done < c.base + c.acked

abbrev pub InRange : ServerCounts → Type 0
InRange c = c.finished < c.asked

pub record FetchFailed (l : DiskLog) (slot state : ℕ) (c : ServerCounts) : Type 0 where
  pub next : MayFetch l slot c
  pub state_is : state ≢ ready_state
  pub in_range : InRange c

abbrev pub OwnReset : DiskLog → End → Cause → Type 0
OwnReset l A (the_cause.NotDone slot state) = InClient l.work.client (ClientFailed l slot state)
OwnReset l B (the_cause.NotReady slot state) = InServer l.work.server (FetchFailed l slot state)
OwnReset l B (the_cause.Copy fault) = (1 ≤ fault) × (fault ≤ 6) × InServer l.work.server InRange
OwnReset l e the_cause.Asked = ⊤
OwnReset l e the_cause.Restart = ⊤
OwnReset l e the_cause.Tick = ⊤
OwnReset l e _ = ⊥

abbrev pub ResetOf : DiskLog → End → Cause → Option (List ℕ) → Type 0
ResetOf l e cause None = OwnReset l e cause
ResetOf l e (the_cause.NotDone slot state) (Some packet) = ⊥
ResetOf l e _ (Some packet) = ⊤

abbrev pub WorkResetAt : DiskLog → DiskEvent → Type 0
WorkResetAt l (OnWire (Reset e cause packet lost)) = (lost ≡ 0) × ResetOf l e cause packet
WorkResetAt l _ = ⊤

-- UNFORGED: a descriptor is that of its request, no copy is refused, and the status of a completion is that which the server gave it in
-- the last session of the client's sid
abbrev pub last_of : ℕ → List Opened → List ℕ
last_of sid [] = []
last_of sid (session ∷ before) = if session.sid == sid then session.statuses else last_of sid before

pub record FetchesRequest (l : DiskLog) (slot : ℕ) (bytes : List ℕ) (base number : ℕ) : Type 0 where
  pub request : Request
  pub accepted : slice_get l.work.issued (base + number) ≡ Some request
  pub bytes_are : slot_says.disk_desc_of bytes ≡ asks_for.descriptor_of (base + number) request slot l.shape.slots

abbrev pub Unforged : DiskLog → DiskEvent → Type 0
Unforged l (Works (Desc slot bytes)) =
    InClient l.work.client (λ (c : ClientCounts). InServer l.work.server (λ (d : ServerCounts). FetchesRequest l slot bytes c.base d.descs))
Unforged l (Works (Moved unit fault)) = fault ≡ None
Unforged l (Works (Done id operation status bytes)) =
    InClient l.work.client (λ (c : ClientCounts). slice_get (last_of c.sid l.work.opened) (id - c.base) ≡ Some status)
Unforged l _ = ⊤

abbrev pub WorkUnforgedAt : DiskLog → DiskEvent → Type 0
WorkUnforgedAt l event = l.wire.forged ≡ false → Unforged l event
