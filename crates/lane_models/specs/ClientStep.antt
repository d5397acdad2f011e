-- One step of a disk's client, and what comes of a request. The step is the first rule that applies, and one line says what comes of
-- it; no two lines hold of one state.
use Rattle.std.specs.Prelude.{◌≡◌, ◌≢◌, ℕ, ◌+◌, ◌-◌, ◌*◌, ◌^◌, ◌<◌, ◌==◌, max, Bool, true, false, if◌then◌else◌, List, [], ◌∷◌, ◌++◌, drop, length, Option, Some, None, slice_get}
use Rattle.dring.specs.Slots.{done_state, free_state, slot_bytes}
use Rattle.ldc_link.specs.Calls.{Puts as PutsPacket}
use Rattle.ldc_queue.specs.declared.end.End.TheVariants.{A}
use Rattle.vdisk_msg.specs.declared.desc.DiskDesc.{DiskDesc}
use Rattle.vdisk_msg.specs.declared.request.Request.{Request}
use Rattle.vdisk_msg.specs.declared.request.Request.TheVariants.{Read, Write, Flush}
use Rattle.vdisk_msg.specs.Descriptor as slot_says
use Rattle.vdisk_msg.specs.Fills.{IsRequest}
use Rattle.vdisk_msg.specs.Requested.{buffer_of, buffer_place, descriptor_of}
use Rattle.vdisk_msg.specs.Requests.{defect, given_count, operation_of, written}
use Rattle.vio_bytes.specs.Place.{put_at}
use Rattle.vio_tag.specs.declared.cause.Cause.{Cause}
use Rattle.vio_tag.specs.declared.cause.Cause.TheVariants as the_cause
use Rattle.lane_models.specs.WireEvent.{Blocked, Idle, Joined, Reset, Sent, Took}
use Rattle.lane_models.specs.ClientPutting.{client_holds, client_opens, client_put, memory_put}
use Rattle.lane_models.specs.ClientRule.{ClientRule, Completes, Joins, Publishes, Idles, Takes, client_rule}
use Rattle.lane_models.specs.ClientState.{ClientSession, ClientState, joined_client, slot_in}
use Rattle.lane_models.specs.ClientTaking.{ClientTakes, GoesOn, Resets}
use Rattle.lane_models.specs.DiskEvent.{Accepted, Admitted, DiskEvent, Done, Full, OnWire, Published, Refused, Works}
use Rattle.lane_models.specs.Seeing.{Seen}

-- a write's bytes into a slot's buffer
abbrev pub filled_buffer : Request → ℕ → List ℕ → List ℕ
filled_buffer (Read block count) place memory = memory
filled_buffer (Write block count fill) place memory = put_at place (written fill count) memory
filled_buffer Flush place memory = memory

-- the memory with a request in a slot: its buffer, and its descriptor, READY
abbrev pub published_memory : ℕ → ℕ → ℕ → Request → List ℕ → List ℕ
published_memory slots slot id request memory =
    put_at (128 * slot) (slot_says.canonical (descriptor_of id request slot slots)) (filled_buffer request (buffer_place slots slot) memory)

-- the slot of the first request that isn't done, and what its descriptor says
abbrev pub completed_slot : ClientState → ClientSession → ℕ
completed_slot s session = slot_in s session.completed

abbrev pub completed_descriptor : ClientState → ClientSession → List ℕ → DiskDesc
completed_descriptor s session memory = slot_says.disk_desc_of (slot_bytes 128 (completed_slot s session) memory)

-- the bytes of the buffer that a request gives with its status
abbrev pub given_bytes : ℕ → Request → ℕ → ℕ → List ℕ → List ℕ
given_bytes status request slots slot memory = if status == 0 then buffer_of slots slot (given_count request) memory else []

-- the packet that the rule puts, and the client after it
pub record ClientSends (s : ClientState) (at : Seen) (memory : List ℕ) (bytes : List ℕ) (opens : Bool) (t : ClientState) (new : List ℕ) : Type 0 where
  pub held : ClientState
  pub holds : client_holds (client_rule s at) s ≡ Some held
  pub room : at.room ≡ true
  pub packet : PutsPacket held.link bytes t.link
  pub opens_is : opens ≡ client_opens held
  pub is : t ≡ client_put held
  pub cleared : new ≡ memory_put held memory

pub record ClientPublishes (s : ClientState) (at : Seen) (memory : List ℕ) (id : ℕ) (t : ClientState) (new : List ℕ) : Type 0 where
  pub session : ClientSession
  pub request : Request
  pub rule : client_rule s at ≡ Publishes session request
  pub id_is : id ≡ session.base + session.published
  pub is : t ≡ record s {
    ever_published = max s.ever_published (id + 1);
    session = Some (record session { published = session.published + 1 });
  }
  pub written_is : new ≡ published_memory s.slots (slot_in s session.published) id request memory

-- the acknowledged slot is DONE: the first pending request is done, with the status and the bytes that stand there, and the slot FREE
pub record ClientCompletes (s : ClientState) (at : Seen) (memory : List ℕ) (id operation status : ℕ) (bytes : List ℕ) (t : ClientState) (new : List ℕ) : Type 0 where
  pub session : ClientSession
  pub request : Request
  pub rule : client_rule s at ≡ Completes session
  pub front : slice_get s.pending 0 ≡ Some request
  pub done : (completed_descriptor s session memory).state ≡ done_state
  pub id_is : id ≡ session.base + session.completed
  pub operation_is : operation ≡ operation_of request
  pub status_is : status ≡ (completed_descriptor s session memory).status
  pub bytes_are : bytes ≡ given_bytes status request s.slots (completed_slot s session) memory
  pub is : t ≡ record s {
    pending = drop 1 s.pending;
    session = Some (record session { completed = session.completed + 1 });
    last = bytes;
  }
  pub freed : new ≡ put_at (128 * completed_slot s session) (free_state ∷ []) memory

-- why a client resets itself: what it takes, or an acknowledged slot that isn't DONE
abbrev pub ClientFails : ClientRule → ClientState → List ℕ → Cause → Option (List ℕ) → Type 0
ClientFails (Takes bytes) s memory cause packet = (packet ≡ Some bytes) × ClientTakes s bytes (Resets cause)
ClientFails (Completes session) s memory cause packet =
    (packet ≡ None) × ((completed_descriptor s session memory).state ≢ done_state)
    × (cause ≡ the_cause.NotDone (completed_slot s session) (completed_descriptor s session memory).state)
ClientFails _ s memory cause packet = ⊥

-- THE STEP, by its answer
abbrev pub ClientStep : ClientState → Seen → List ℕ → DiskEvent → ClientState → List ℕ → Type 0
ClientStep s at memory (OnWire (Joined A lost)) t new = (client_rule s at ≡ Joins) × (lost ≡ 0) × (t ≡ joined_client s) × (new ≡ memory)
ClientStep s at memory (OnWire (Took A packet opens)) t new =
    (client_rule s at ≡ Takes packet) × ClientTakes s packet (GoesOn t) × (opens ≡ false) × (new ≡ memory)
ClientStep s at memory (OnWire (Sent A packet opens)) t new = ClientSends s at memory packet opens t new
ClientStep s at memory (OnWire (Blocked A)) t new = (client_holds (client_rule s at) s ≡ Some t) × (at.room ≡ false) × (new ≡ memory)
ClientStep s at memory (OnWire (Idle A)) t new = (client_rule s at ≡ Idles) × (t ≡ s) × (new ≡ memory)
ClientStep s at memory (OnWire (Reset A cause packet lost)) t new =
    ClientFails (client_rule s at) s memory cause packet × (lost ≡ 0) × (t ≡ joined_client s) × (new ≡ memory)
ClientStep s at memory (Works (Published id)) t new = ClientPublishes s at memory id t new
ClientStep s at memory (Works (Done id operation status bytes)) t new = ClientCompletes s at memory id operation status bytes t new
ClientStep s at memory _ t new = ⊥

-- WHAT COMES OF A REQUEST: it has a defect; or as many are pending as the ring has slots; or it is pending last, with the next id
abbrev pub ClientAdmits : ClientState → Admitted → ClientState → Type 0
ClientAdmits s (Refused why request) t = (defect s.blocks request ≡ Some why) × (t ≡ s)
ClientAdmits s (Full request) t = (defect s.blocks request ≡ None) × (length s.pending ≡ s.slots) × (t ≡ s)
ClientAdmits s (Accepted id request) t =
    (defect s.blocks request ≡ None) × (length s.pending < s.slots) × IsRequest request × (s.next_id < 2 ^ 64 - 1)
    × (id ≡ s.next_id) × (t ≡ record s { pending = s.pending ++ request ∷ []; next_id = s.next_id + 1 })
