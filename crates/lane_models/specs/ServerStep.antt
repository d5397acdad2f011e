-- One step of a disk's server. The step is the first rule that applies, and one line says what comes of it; no two lines hold of one
-- state. `gave` is what the store gave in the step: the bytes of a unit that was read, and else nothing.
use Rattle.std.specs.Prelude.{◌≡◌, ℕ, ◌+◌, Bool, true, false, List, [], Option, Some, None}
use Rattle.cookie_copy.specs.declared.fault.CopyFault.{CopyFault}
use Rattle.ldc_link.specs.Calls.{Puts as PutsPacket}
use Rattle.ldc_queue.specs.declared.end.End.TheVariants.{B}
use Rattle.vdisk_msg.specs.Descriptor as slot_says
use Rattle.vio_tag.specs.declared.cause.Cause.{Cause}
use Rattle.lane_models.specs.WireEvent.{Blocked, Idle, Joined, Reset, Sent, Took}
use Rattle.lane_models.specs.DiskEvent.{Desc, DiskEvent, Finished, Moved, OnWire, Stored, Works}
use Rattle.lane_models.specs.Ranges.{wrapped}
use Rattle.lane_models.specs.Seeing.{Seen}
use Rattle.lane_models.specs.ServerPutting.{server_holds, server_opens, server_put}
use Rattle.lane_models.specs.ServerRule.{Fetches, Joins, Idles, ServerRule, Serves, Takes, server_rule}
use Rattle.lane_models.specs.ServerState.{Ends, Progress, ServerSession, ServerState, Work, joined_server}
use Rattle.lane_models.specs.ServerTaking.{GoesOn, Resets, ServerTakes}
use Rattle.cookie_copy.specs.Reach.{Reach}
use Rattle.lane_models.specs.ServerWork.{CanFetch, EndFails, FetchFails, MovesIn, StoresIn, first_progress, header_of, slot_at, slot_fetched, with_done, with_word, word_fault}

-- the packet that the rule puts, and the server after it
pub record ServerSends (s : ServerState) (at : Seen) (bytes : List ℕ) (opens : Bool) (t : ServerState) : Type 0 where
  pub held : ServerState
  pub holds : server_holds (server_rule s at) s ≡ Some held
  pub room : at.room ≡ true
  pub packet : PutsPacket held.link bytes t.link
  pub opens_is : opens ≡ server_opens held
  pub is : t ≡ server_put held

-- the next descriptor of the range is fetched and marked ACCEPTED
pub record ServerFetches (s : ServerState) (at : Seen) (reach : Reach) (slot : ℕ) (bytes : List ℕ) (t : ServerState) (new : List ℕ) : Type 0 where
  pub session : ServerSession
  pub rule : server_rule s at ≡ Fetches session
  pub slot_is : slot ≡ slot_at s session.descs
  pub fetched : CanFetch s reach slot
  pub marked : word_fault s reach slot 0 ≡ None
  pub bytes_are : bytes ≡ slot_fetched s reach slot
  pub is : t ≡ record s {
    session = Some (record session { descs = wrapped (session.descs + 1) });
    work = Some (record { bytes = bytes; progress = first_progress s.blocks (slot_says.disk_desc_of bytes) });
  }
  pub marked_is : new ≡ with_word s reach slot 0 (header_of 3 bytes)

abbrev pub with_progress : ServerState → Work → Progress → ServerState
with_progress s work next = record s { work = Some (record work { progress = next }) }

-- a unit is copied
pub record ServerMoves (s : ServerState) (at : Seen) (reach : Reach) (unit : ℕ) (fault : Option CopyFault) (t : ServerState) (new : List ℕ) : Type 0 where
  pub session : ServerSession
  pub work : Work
  pub next : Progress
  pub rule : server_rule s at ≡ Serves session work
  pub moves : MovesIn work.progress work reach unit fault next new
  pub is : t ≡ with_progress s work next

-- a unit is read or written on the store, or the store is flushed
pub record ServerStores (s : ServerState) (at : Seen) (operation block count : ℕ) (failed : Bool) (gave : List ℕ) (t : ServerState) : Type 0 where
  pub session : ServerSession
  pub work : Work
  pub next : Progress
  pub rule : server_rule s at ≡ Serves session work
  pub stores : StoresIn work.progress work operation block count failed gave next
  pub is : t ≡ with_progress s work next

-- the descriptor in work gets its status
pub record ServerFinishes (s : ServerState) (at : Seen) (reach : Reach) (slot status : ℕ) (t : ServerState) (new : List ℕ) : Type 0 where
  pub session : ServerSession
  pub work : Work
  pub rule : server_rule s at ≡ Serves session work
  pub ends : work.progress ≡ Ends status
  pub slot_is : slot ≡ slot_at s session.finished
  pub status_written : word_fault s reach slot 16 ≡ None
  pub done_written : word_fault s reach slot 0 ≡ None
  pub is : t ≡ record s { session = Some (record session { finished = wrapped (session.finished + 1) }); work = None }
  pub written_is : new ≡ with_done s reach slot work status

-- why a server resets itself, and the memory then: what it takes, a descriptor that it can't fetch, or one that it can't end
abbrev pub WorkFails : Progress → ServerState → ServerSession → Work → Reach → Cause → List ℕ → Type 0
WorkFails (Ends status) s session work reach cause new = EndFails s reach (slot_at s session.finished) work status cause new
WorkFails _ s session work reach cause new = ⊥

abbrev pub ServerFails : ServerRule → ServerState → Reach → Cause → Option (List ℕ) → List ℕ → Type 0
ServerFails (Takes bytes) s reach cause packet new = (packet ≡ Some bytes) × ServerTakes s bytes (Resets cause) × (new ≡ reach.memory)
ServerFails (Fetches session) s reach cause packet new =
    (packet ≡ None) × FetchFails s reach (slot_at s session.descs) cause × (new ≡ reach.memory)
ServerFails (Serves session work) s reach cause packet new = (packet ≡ None) × WorkFails work.progress s session work reach cause new
ServerFails _ s reach cause packet new = ⊥

-- THE STEP, by its answer
abbrev pub ServerStep : ServerState → Seen → Reach → List ℕ → DiskEvent → ServerState → List ℕ → Type 0
ServerStep s at reach gave (OnWire (Joined B lost)) t new =
    (server_rule s at ≡ Joins) × (lost ≡ 0) × (t ≡ joined_server s) × (new ≡ reach.memory) × (gave ≡ [])
ServerStep s at reach gave (OnWire (Took B packet opens)) t new =
    (server_rule s at ≡ Takes packet) × ServerTakes s packet (GoesOn t opens) × (new ≡ reach.memory) × (gave ≡ [])
ServerStep s at reach gave (OnWire (Sent B packet opens)) t new = ServerSends s at packet opens t × (new ≡ reach.memory) × (gave ≡ [])
ServerStep s at reach gave (OnWire (Blocked B)) t new =
    (server_holds (server_rule s at) s ≡ Some t) × (at.room ≡ false) × (new ≡ reach.memory) × (gave ≡ [])
ServerStep s at reach gave (OnWire (Idle B)) t new = (server_rule s at ≡ Idles) × (t ≡ s) × (new ≡ reach.memory) × (gave ≡ [])
ServerStep s at reach gave (OnWire (Reset B cause packet lost)) t new =
    ServerFails (server_rule s at) s reach cause packet new × (lost ≡ 0) × (t ≡ joined_server s) × (gave ≡ [])
ServerStep s at reach gave (Works (Desc slot bytes)) t new = ServerFetches s at reach slot bytes t new × (gave ≡ [])
ServerStep s at reach gave (Works (Moved unit fault)) t new = ServerMoves s at reach unit fault t new × (gave ≡ [])
ServerStep s at reach gave (Works (Stored operation block count failed)) t new =
    ServerStores s at operation block count failed gave t × (new ≡ reach.memory)
ServerStep s at reach gave (Works (Finished slot status)) t new = ServerFinishes s at reach slot status t new × (gave ≡ [])
ServerStep s at reach gave _ t new = ⊥
