-- Each event of a lane keeps the length of the client's memory, and what is pending sound.
use Rattle.std.proofs.Common.{◌≡◌, ℕ, ◌-◌, ◌*◌, ◌<◌, Bool, true, false, Option, Some, None, List, [], ◌∷◌, ◌++◌, length, refl, sym, ap, ◌∙◌, subst, arith, inl, inr}
use Rattle.std.specs.Prelude.{slice_get, zero, suc, if◌then◌else◌}
use Rattle.std.proofs.lemmas.Nat.{mod_below}
use Rattle.cookie_copy.specs.declared.fault.CopyFault.{CopyFault}
use Rattle.dring.specs.Slots.{free_slots}
use Rattle.ldc_queue.specs.declared.end.End.TheVariants.{A, B}
use Rattle.vdisk_msg.specs.declared.request.Request.{Request}
use Rattle.vdisk_msg.specs.Fills.{IsRequest}
use Rattle.vdisk_msg.specs.Requested.{buffer_of, buffer_place}
use Rattle.vdisk_msg.specs.Requests.{AreSound, defect, given_count}
use Rattle.vio_bytes.proofs.Ranges.{length-range_at}
use Rattle.vio_bytes.proofs.Putting.{length-put_at}
use Rattle.vio_bytes.specs.Place.{put_at}
use Rattle.vio_tag.specs.declared.cause.Cause.{Cause}
use Rattle.lane_models.specs.WireEvent.{Blocked, Idle, Joined, Reset, Sent, Took}
use Rattle.lane_models.proofs.Apart.{some_same}
use Rattle.lane_laws.specs.RequestLaws.{carried_count}
use Rattle.lane_models.specs.ClientPutting.{client_opens}
use Rattle.lane_models.specs.ClientRule.{Publishes, client_rule}
use Rattle.lane_models.specs.ClientState.{ClientState, slot_in}
use Rattle.lane_models.specs.ClientStep.{ClientAdmits, ClientCompletes, ClientPublishes, ClientSends, ClientStep, completed_slot}
use Rattle.lane_models.specs.DiskEvent.{Admitted, Desc, DiskEvent, Finished, Moved, OnWire, Stored, Works}
use Rattle.lane_models.specs.LaneState.{LaneState}
use Rattle.lane_models.specs.LaneStep.{LaneStep}
use Rattle.lane_models.specs.Seeing.{seen}
use Rattle.lane_models.specs.ServerRule as server_rules
use Rattle.lane_models.specs.ServerState.{Ends, Gathers, Gives, Progress, ServerSession, ServerState, Work}
use Rattle.lane_models.specs.ServerStep.{ServerStep, ServerFails, WorkFails}
use Rattle.cookie_copy.specs.Reach.{Reach}
use Rattle.lane_models.specs.ServerWork.{EndFails, MovesIn, data_cookies, given_memory, header_of, slot_at, with_done, with_status}
use Rattle.vdisk_msg.specs.Requested as asks_for
use Rattle.lane_laws.proofs.MemoryStanding.{cleared_long, freed_long, given_within, moved_long, published_long, word_long}
use Rattle.lane_laws.proofs.Requesting.{held_kept}
use Rattle.lane_laws.proofs.LaneViews.{ClientView, MemoryView, at_client, at_server, lane_view, reach_of}
use Rattle.lane_laws.proofs.StandingSteps.{client_kept}
use Rattle.lane_laws.proofs.Ruling.{client_may}
use Rattle.lane_laws.specs.MemoryStands.{MemoryStands, memory_long}
use Rattle.lane_laws.specs.RuleFacts.{ClientMay}

-- THE CLIENT clears the ring as its session opens, and writes a slot as it publishes or completes
cleared_if : (b : Bool) (slots : ℕ) (memory : List ℕ) → length memory ≡ memory_long slots → length (if b then put_at 0 (free_slots 128 slots) memory else memory) ≡ length memory
cleared_if true slots memory long = cleared_long slots memory long
cleared_if false slots memory long = refl

sent_long : (s : LaneState) (packet : List ℕ) (opens : Bool) (t : ClientState) (new : List ℕ) → length s.memory ≡ memory_long s.client.slots
    → ClientSends s.client (seen A s.shape.entries s.wire.wire) s.memory packet opens t new → length new ≡ length s.memory
sent_long s packet opens t new long sends =
    let held = held_kept s.client (seen A s.shape.entries s.wire.wire) (client_rule s.client (seen A s.shape.entries s.wire.wire)) sends.held (client_may s.client (seen A s.shape.entries s.wire.wire)) sends.holds in
    ap length sends.cleared ∙ cleared_if (client_opens sends.held) sends.held.slots s.memory (long ∙ ap memory_long (sym held.slots))

-- THE SERVER: where the end of a descriptor is refused, its status may be written
status_long : (s : ServerState) (r : Reach) (slot : ℕ) (work : Work) (status : ℕ) → length (with_status s r slot work status) ≡ length r.memory
status_long s r slot work status = word_long s r slot 16 (asks_for.status_word work.bytes status)

end_long : (s : ServerState) (r : Reach) (slot : ℕ) (work : Work) (status : ℕ) (cause : Cause) (new : List ℕ) → EndFails s r slot work status cause new → length new ≡ length r.memory
end_long s r slot work status cause new (inl fails) = ap length fails.3
end_long s r slot work status cause new (inr fails) = ap length fails.4 ∙ status_long s r slot work status

work_long : (p : Progress) (s : ServerState) (session : ServerSession) (work : Work) (r : Reach) (cause : Cause) (new : List ℕ) → WorkFails p s session work r cause new
    → length new ≡ length r.memory
work_long (Ends status) s session work r cause new fails = end_long s r (slot_at s session.finished) work status cause new fails
work_long _ s session work r cause new fails = absurd fails

fails_long : (rule : server_rules.ServerRule) (s : ServerState) (r : Reach) (cause : Cause) (packet : Option (List ℕ)) (new : List ℕ) → ServerFails rule s r cause packet new
    → length new ≡ length r.memory
fails_long rule s r cause packet new fails = grind (arith, work_long)

given_long : (fault : Option CopyFault) (work : Work) (r : Reach) (u : ℕ) (bytes : List ℕ) → length (given_memory fault work r u bytes) ≡ length r.memory
given_long None work r u bytes = moved_long r.table r.memory (data_cookies work) (8192 * u) bytes
given_long (Some why) work r u bytes = refl

moves_long : (p : Progress) (work : Work) (r : Reach) (unit : ℕ) (fault : Option CopyFault) (next : Progress) (new : List ℕ) → MovesIn p work r unit fault next new → length new ≡ length r.memory
moves_long (Gives u bytes) work r unit fault next new moves = ap length moves.3 ∙ given_long fault work r u bytes
moves_long (Gathers u) work r unit fault next new moves = ap length moves.3
moves_long _ work r unit fault next new moves = absurd moves

pub got_sound : (blocks : ℕ) (requests : List Request) (n : ℕ) (request : Request) → AreSound blocks requests → slice_get requests n ≡ Some request → defect blocks request ≡ None
got_sound blocks [] n request sound is = absurd (cc)
got_sound blocks (one ∷ requests) zero request sound is = let same : one ≡ request = some_same is in subst (λ (r : Request). defect blocks r ≡ None) same sound.0
got_sound blocks (one ∷ requests) (suc n) request sound is = got_sound blocks requests n request sound.2 is

published : (s : LaneState) (id : ℕ) (t : ClientState) (new : List ℕ) → MemoryStands s → ClientPublishes s.client (seen A s.shape.entries s.wire.wire) s.memory id t new
    → length new ≡ length s.memory
published s id t new stands step =
    let may : ClientMay s.client (seen A s.shape.entries s.wire.wire) (Publishes step.session step.request) =
    subst (ClientMay s.client (seen A s.shape.entries s.wire.wire)) step.rule (client_may s.client (seen A s.shape.entries s.wire.wire)) in
    let none = got_sound s.client.blocks s.client.pending (step.session.published - step.session.completed) step.request stands.sound may.2 in
    ap length step.written_is
    ∙ published_long s.client.blocks s.client.slots (slot_in s.client step.session.published) id step.request s.memory none
    (mod_below step.session.published s.client.slots stands.some) stands.long

completed : (s : LaneState) (id operation status : ℕ) (bytes : List ℕ) (t : ClientState) (new : List ℕ) → MemoryStands s
    → ClientCompletes s.client (seen A s.shape.entries s.wire.wire) s.memory id operation status bytes t new → length new ≡ length s.memory
completed s id operation status bytes t new stands step =
    ap length step.freed
    ∙ freed_long s.client.slots (completed_slot s.client step.session) s.memory (mod_below step.session.completed s.client.slots stands.some) stands.long

done_long : (s : ServerState) (r : Reach) (slot : ℕ) (work : Work) (status : ℕ) → length (with_done s r slot work status) ≡ length r.memory
done_long s r slot work status =
    word_long s (record r { memory = with_status s r slot work status }) slot 0 (header_of 4 work.bytes) ∙ status_long s r slot work status

-- THE MEMORY after each event
client_long : (s : LaneState) → MemoryStands s → (event : DiskEvent) (t : ClientState) (new : List ℕ) → ClientStep s.client (at_client s) s.memory event t new → length new ≡ length s.memory
client_long s stands event t new step = grind (arith, sent_long, published, completed)

server_long : (s : LaneState) (event : DiskEvent) (gave : List ℕ) (t : ServerState) (new : List ℕ) → ServerStep s.server (at_server s) (reach_of s) gave event t new → length new ≡ length s.memory
server_long s (OnWire (Joined B lost)) gave t new step = ap length step.3
server_long s (OnWire (Took B packet opens)) gave t new step = ap length step.2
server_long s (OnWire (Sent B packet opens)) gave t new step = ap length step.1
server_long s (OnWire (Blocked B)) gave t new step = ap length step.2
server_long s (OnWire (Idle B)) gave t new step = ap length step.2
server_long s (OnWire (Reset B cause packet lost)) gave t new step = fails_long (server_rules.server_rule s.server (at_server s)) s.server (reach_of s) cause packet new step.0
server_long s (Works (Desc slot bytes)) gave t new step = ap length step.0.marked_is ∙ word_long s.server (reach_of s) slot 0 (header_of 3 bytes)
server_long s (Works (Moved unit fault)) gave t new step = moves_long step.0.work.progress step.0.work (reach_of s) unit fault step.0.next new step.0.moves
server_long s (Works (Stored operation block count failed)) gave t new step = ap length step.1
server_long s (Works (Finished slot status)) gave t new step = ap length step.0.written_is ∙ done_long s.server (reach_of s) slot step.0.work status
server_long s _ gave t new step = absurd step

memory_same : (s t : LaneState) (event : DiskEvent) → MemoryStands s → MemoryView s t event → length t.memory ≡ length s.memory
memory_same s t event stands view = grind (arith, client_long, server_long, length-put_at)

-- WHAT A COMPLETION CARRIES
carried_if : (b : Bool) (blocks slots slot : ℕ) (request : Request) (memory : List ℕ) → defect blocks request ≡ None → slot < slots → length memory ≡ memory_long slots
    → length (if b then buffer_of slots slot (given_count request) memory else []) ≡ (if b then given_count request else 0)
carried_if true blocks slots slot request memory none below long =
    length-range_at (buffer_place slots slot) (given_count request) memory (given_within blocks slots slot request memory none below long)
carried_if false blocks slots slot request memory none below long = refl

pub carried_long : (s : LaneState) (id operation status : ℕ) (bytes : List ℕ) (t : ClientState) (new : List ℕ) → MemoryStands s
    → (step : ClientCompletes s.client (seen A s.shape.entries s.wire.wire) s.memory id operation status bytes t new) → length bytes ≡ carried_count status step.request
carried_long s id operation status bytes t new stands step = grind (arith, carried_if)

-- REQUESTS that stay, and one more
record KeepsSound (c t : ClientState) : Type 0 where
  sound : AreSound t.blocks t.pending
  slots : t.slots ≡ c.slots

pub sound_push : (blocks : ℕ) (requests : List Request) (request : Request) → AreSound blocks requests → defect blocks request ≡ None → IsRequest request → AreSound blocks (requests ++ request ∷ [])
sound_push blocks [] request sound admitted fill = (admitted, fill, tt)
sound_push blocks (first ∷ requests) request sound admitted fill = (sound.0, sound.1, sound_push blocks requests request sound.2 admitted fill)

admits_sound : (c : ClientState) (request : Admitted) (t : ClientState) → AreSound c.blocks c.pending → ClientAdmits c request t → KeepsSound c t
admits_sound c request t sound admits = grind (arith, sound_push)

steps_sound : (s : LaneState) → AreSound s.client.blocks s.client.pending → (event : DiskEvent) (t : ClientState) (new : List ℕ) → ClientStep s.client (at_client s) s.memory event t new
    → KeepsSound s.client t
steps_sound s sound event t new step = grind (arith, client_kept)

pending_sound : (s t : LaneState) (event : DiskEvent) → AreSound s.client.blocks s.client.pending → ClientView s t event → KeepsSound s.client t.client
pending_sound s t event sound view = grind (arith, steps_sound, admits_sound)

pub memory_step : (s : LaneState) (event : DiskEvent) (t : LaneState) → MemoryStands s → LaneStep s event t → MemoryStands t
memory_step s event t stands step =
    let view = lane_view s event t step in
    let behind = pending_sound s t event stands.sound view.client in
    let slots = behind.slots in
    record {
      some = omega (arith, slots, stands.some);
      long = memory_same s t event stands view.memory ∙ stands.long ∙ ap memory_long (sym slots);
      sound = behind.sound;
    }
