-- Each event of a port leaves both memories as long as they were, also where somebody forges packets and memory.
use Rattle.std.proofs.Common.{◌≡◌, ℕ, zero, suc, ◌+◌, ◌≤◌, ◌<◌, Bool, true, Some, List, [], ◌∷◌, length, inl, refl, sym, ap, ◌∙◌, subst, arith}
use Rattle.std.specs.Prelude.{◌%◌, ◌*◌, map, slice_get, ⊤}
use Rattle.std.proofs.lemmas.List.{length-replicate}
use Rattle.std.proofs.lemmas.Nat.{mod_below}
use Rattle.cookie_copy.proofs.Steps.{length-write_spots}
use Rattle.cookie_copy.specs.Faults.{is_up}
use Rattle.cookie_copy.specs.Moved.{moved_in, moved_out, moved_spots, place_of}
use Rattle.cookie_copy.specs.Reach.{Reach}
use Rattle.dring.proofs.Laps.{length-free_slots}
use Rattle.dring.specs.Slots.{free_slots, free_state, range_length}
use Rattle.ldc_link.specs.declared.phase.Role.{Role}
use Rattle.ldc_link.specs.declared.phase.Role.TheVariants.{Initiator, Responder}
use Rattle.ldc_packet.specs.declared.packet.Subtype.{Subtype}
use Rattle.ldc_queue.specs.declared.end.End.{End}
use Rattle.ldc_queue.specs.declared.end.End.TheVariants.{A, B}
use Rattle.ldc_queue.specs.Transcript.{Utterance}
use Rattle.map_table.specs.declared.cookie.Cookie.{Cookie}
use Rattle.runs.specs.Lawful.{log_of, run_lawful}
use Rattle.runs.specs.Run.{Run}
use Rattle.vio_bytes.proofs.Putting.{length-put_at}
use Rattle.vio_bytes.specs.Place.{put_at}
use Rattle.vio_tag.specs.declared.message.MsgBody.{MsgBody}
use Rattle.vnet_msg.proofs.FrameSlots.{long}
use Rattle.vnet_msg.specs.Descriptor.{canonical, net_desc_of}
use Rattle.vnet_msg.specs.Frames.{IsFrame, buffer_place, frame_buffer, frame_desc, header, memory_pages}
use Rattle.lane_models.specs.Seeing.{Seen}
use Rattle.lane_models.specs.TranscriptLog.{transcript_of}
use Rattle.lane_models.proofs.Moving.{before_keeps}
use Rattle.lane_models.proofs.Ruling.{says_of}
use Rattle.lane_models.specs.Fetching.{slots_cookies}
use Rattle.lane_models.specs.NetEndPutting.{cleared_by_put, cleared_ring}
use Rattle.lane_models.specs.NetEndRule.{Publishes, Takes}
use Rattle.lane_models.specs.NetEndState.{NetEndState, NetSession, unseen_in}
use Rattle.lane_models.specs.NetEndStep.{Frame, NetAnswer, NetEndStep, NetLeft, Published, Took, published_memory}
use Rattle.lane_models.specs.NetEndTaking.{GoesOn, NetTake, Resets, freed}
use Rattle.lane_models.specs.NetEvent.{Asked, CalmTick, Declines, Gives, Injects, NetEvent, Pokes, Steps, Ticked}
use Rattle.lane_models.specs.NetLaneState.{IsNetShape, NetLaneState, NetShape, memory_of, net_end, reach_of, role_at, seen_at}
use Rattle.lane_models.specs.NetLaneStep.{NetLaneStep}
use Rattle.lane_models.specs.PortLog.{PortLog, after, no_events}
use Rattle.lane_models.specs.PortState.{OnLane, PortEvent, PortState, PortStep, Receives, before, fresh_port}
use Rattle.port_laws.proofs.LogsStand.{LogsStand, fresh_logs, held_given, logs_event, logs_received}
use Rattle.port_laws.proofs.MemoryRoom.{MemoryHasRoom, power_room}
use Rattle.port_laws.proofs.MessageDoes.{Acks, Asks, Declines as DeclinesMessage, MessageDoes, Names, Told}
use Rattle.port_laws.proofs.PortCounts.{PortCounts, Ready, counts_step, port_counts, ready_before}
use Rattle.port_laws.proofs.RingFetches.{found_frame}
use Rattle.port_laws.proofs.RingMoves.{Fits, desc_long, frame_small, place_end}
use Rattle.port_laws.proofs.RingSteps.{Owns}
use Rattle.port_laws.proofs.RuleFrames.{end_acts}
use Rattle.port_laws.proofs.TookWhat.{Fails, Opens, Reads, Stays, TookWhat, took_what}

-- WHAT AN END WRITES as it takes a packet: nothing, or its ring is cleared, or slots of it become FREE
data Written (slots : ℕ) (memory new : List ℕ) : Type 0 where
  Same : new ≡ memory → Written slots memory new
  Cleared : new ≡ cleared_ring slots memory → Written slots memory new
  Freed : (number count : ℕ) → new ≡ freed slots number count memory → Written slots memory new

abbrev WrittenBy : ℕ → List ℕ → NetTake → Type 0
WrittenBy slots memory (GoesOn t opens new) = Written slots memory new
WrittenBy slots memory (Resets cause) = ⊤

does_written : (role : Role) (s : NetEndState) (p : NetSession) (memory : List ℕ) (subtype : Subtype) (b : MsgBody) (t : NetEndState) (new : List ℕ) → MessageDoes role s p memory subtype b t new
    → Written s.slots memory new
does_written role s p memory subtype b t new (Asks seq ident start end state kind body place stays is) = Same stays
does_written role s p memory subtype b t new (Acks seq ident start end state kind body begins inside within done freed_is is) = Freed p.seen (range_length s.slots start end) freed_is
does_written role s p memory subtype b t new (Names set count addresses groups reply answer hub kind body stays is) = Same stays
does_written role s p memory subtype b t new (Told set count addresses guest kind body telling stays is) = Same stays
does_written role s p memory subtype b t new (DeclinesMessage h declined stays is) = Same stays

take_written : (role : Role) (s : NetEndState) (memory : List ℕ) (take : NetTake) → TookWhat role s memory take → WrittenBy s.slots memory take
take_written role s memory take (Stays k h is) = subst (WrittenBy s.slots memory) (sym is) (Same refl)
take_written role s memory take (Opens k h role_is none is) = subst (WrittenBy s.slots memory) (sym is) (Cleared refl)
take_written role s memory take (Fails cause is) = subst (WrittenBy s.slots memory) (sym is) tt
take_written role s memory (GoesOn t opens new) (Reads k h p m session does) = does_written role (record s { link = k; handshake = h }) p memory m.subtype m.body t new does.does
take_written role s memory (Resets cause) (Reads k h p m session does) = tt

-- AS LONG AS BEFORE
freed_long : (slots number count : ℕ) (memory : List ℕ) → 1 ≤ slots → 64 * slots ≤ length memory → length (freed slots number count memory) ≡ length memory
freed_long slots number zero memory some room = refl
freed_long slots number (suc count) memory some room =
    let below = mod_below number slots (omega (arith, some)) in
    let same = length-put_at (64 * (number % slots)) (free_state ∷ []) memory (omega (arith, below, room)) in
    freed_long slots (number + 1) count (put_at (64 * (number % slots)) (free_state ∷ []) memory) some (omega (arith, same, room)) ∙ same

cleared_long : (slots : ℕ) (memory : List ℕ) → 64 * slots ≤ length memory → length (cleared_ring slots memory) ≡ length memory
cleared_long slots memory room = length-put_at 0 (free_slots 64 slots) memory (omega (arith, room, length-free_slots 64 slots (inl refl)))

written_long : (slots : ℕ) (memory new : List ℕ) → 1 ≤ slots → 64 * slots ≤ length memory → Written slots memory new → length new ≡ length memory
written_long slots memory new some room given = grind (arith, cleared_long, freed_long)

put_long : (role : Role) (opens : Bool) (slots : ℕ) (memory : List ℕ) → 64 * slots ≤ length memory → length (cleared_by_put role opens slots memory) ≡ length memory
put_long role opens slots memory room = grind (arith, cleared_long)

published_long : (slots k : ℕ) (frame memory : List ℕ) → Fits slots memory → k < slots → IsFrame frame → length (published_memory k frame memory) ≡ length memory
published_long slots k frame memory fits below is =
    let few = fits.few in
    let room = fits.room in
    let piece : List ℕ = frame_buffer frame in
    let small : length piece ≤ 2048 = omega (arith, long frame, frame_small frame is) in
    let middle : length (put_at (buffer_place k) piece memory) ≡ length memory = length-put_at (buffer_place k) piece memory (place_end slots k piece memory fits below small) in
    length-put_at (64 * k) (canonical (frame_desc k (length frame))) (put_at (buffer_place k) piece memory) (omega (arith, middle, few, room, below, desc_long k (length frame))) ∙ middle

moved_long : (reach : Reach) (cookies : List Cookie) (offset : ℕ) (bytes : List ℕ) → length (moved_out reach.table reach.memory cookies offset bytes) ≡ length reach.memory
moved_long reach cookies offset bytes = length-write_spots (map (place_of reach.table) (moved_spots cookies offset (length bytes))) bytes reach.memory

-- A STEP
abbrev SameLong : List ℕ → List ℕ → NetLeft → Type 0
SameLong own peer left = (length left.own ≡ length own) × (length left.peer ≡ length peer)

step_long : (role : Role) (s : NetEndState) (turns : List Utterance) (at : Seen) (memory : List ℕ) (reach : Reach) (answer : NetAnswer) (left : NetLeft) → 1 ≤ s.slots → Fits s.slots memory
    → (is_up at.state ≡ true → Owns role s turns memory) → NetEndStep role s at memory reach answer left → SameLong memory reach.memory left
step_long role s turns at memory reach (Took packet opens) left some fits owns step =
    let few = fits.few in
    let room = fits.room in
    let ends = (owns (says_of role s at (Takes packet) step.0).0.up).ends in (
      written_long s.slots memory left.own some (omega (arith, few, room)) (take_written role s memory (GoesOn left.end opens left.own) (took_what role s turns memory packet (GoesOn left.end opens left.own) ends step.1)),
      ap length step.2,
    )
step_long role s turns at memory reach (Published id) left some fits owns step =
    let says = says_of role s at (Publishes step.session step.frame) step.rule in
    let is = (owns says.0.in_session.free.up).frames (unseen_in step.session) step.frame says.1 in
    grind (arith, published_long, mod_below)
step_long role s turns at memory reach (Frame frame) left some fits owns step =
    subst (SameLong memory reach.memory) (sym step.is) (
      refl,
      ap length (found_frame s reach step.session.place frame step.new step.found).new_is
          ∙ moved_long reach (slots_cookies s) (64 * step.session.place) (header 4 (net_desc_of (moved_in reach.table reach.memory (slots_cookies s) (64 * step.session.place) 64)).ack),
    )
step_long role s turns at memory reach answer left some given owns step = grind (arith, put_long)

-- A LANE
pub record LongMemory (slots : ℕ) (s : NetLaneState) : Type 0 where
  pub guest : length s.guest_memory ≡ 8192 * memory_pages slots
  pub hub : length s.hub_memory ≡ 8192 * memory_pages slots

frames_at : (shape : NetShape) (e : End) (u : PortState) (l : PortLog) → Ready shape u l → LogsStand l → (n : ℕ) (frame : List ℕ) → slice_get (net_end e u.lane).frames n ≡ Some frame → IsFrame frame
frames_at shape A u l ready logs n frame get = logs.guest.given (l.guest.gone + n) frame (held_given u.lane.guest.frames [] l.guest.given l.guest.gone n frame ready.guest.frames get)
frames_at shape B u l ready logs n frame get = logs.hub.given (l.hub.gone + n) frame (held_given u.lane.hub.frames u.queue l.hub.given l.hub.gone n frame ready.hub.frames get)

fits_of : (shape : NetShape) (e : End) (u : PortState) (l : PortLog) → Ready shape u l → MemoryHasRoom shape.slots u.lane → Fits (net_end e u.lane).slots (memory_of e u.lane)
fits_of shape e u l ready room = grind arith

some_slots : (shape : NetShape) (e : End) (u : PortState) (l : PortLog) → Ready shape u l → 1 ≤ (net_end e u.lane).slots
some_slots shape e u l ready = grind arith

owns_of : (shape : NetShape) (e : End) (u : PortState) (l : PortLog) → Ready shape u l → MemoryHasRoom shape.slots u.lane → LogsStand l → is_up (seen_at e u.lane).state ≡ true
    → Owns (role_at e) (net_end e u.lane) (transcript_of e l.transcript) (memory_of e u.lane)
owns_of shape e u l ready room logs up =
    let acting = end_acts shape e u l ready up in
    record { ends = acting.ends; stands = acting.stands; fits = fits_of shape e u l ready room; frames = frames_at shape e u l ready logs }

event_long : (shape : NetShape) (u : PortState) (l : PortLog) (event : NetEvent) (t : NetLaneState) → Ready shape u l → MemoryHasRoom shape.slots u.lane → LogsStand l → NetLaneStep u.lane event t
    → LongMemory shape.slots u.lane → LongMemory shape.slots t
event_long shape u l (Steps A answer) t ready room logs step long_ =
    let same = step_long Initiator u.lane.guest l.transcript.a (seen_at A u.lane) u.lane.guest_memory (reach_of A u.lane) answer step.left (some_slots shape A u l ready) (fits_of shape A u l ready room)
    (owns_of shape A u l ready room logs) step.step in
    subst (LongMemory shape.slots) (sym step.is) (record { guest = same.0 ∙ long_.guest; hub = same.1 ∙ long_.hub })
event_long shape u l (Steps B answer) t ready room logs step long_ =
    let same = step_long Responder u.lane.hub l.transcript.b (seen_at B u.lane) u.lane.hub_memory (reach_of B u.lane) answer step.left (some_slots shape B u l ready) (fits_of shape B u l ready room)
    (owns_of shape B u l ready room logs) step.step in
    subst (LongMemory shape.slots) (sym step.is) (record { guest = same.1 ∙ long_.guest; hub = same.0 ∙ long_.hub })
event_long shape u l (Ticked queued lost) t ready room logs step long_ = subst (LongMemory shape.slots) (sym step.1.1) (record { guest = long_.guest; hub = long_.hub })
event_long shape u l (CalmTick queued) t ready room logs step long_ = subst (LongMemory shape.slots) (sym step.1) long_
event_long shape u l (Injects e packet) t ready room logs step long_ = subst (LongMemory shape.slots) (sym step.2) (record { guest = long_.guest; hub = long_.hub })
event_long shape u l (Pokes A at bytes) t ready room logs step long_ =
    subst (LongMemory shape.slots) (sym step.1) (record { guest = length-put_at at bytes u.lane.guest_memory step.0 ∙ long_.guest; hub = long_.hub })
event_long shape u l (Pokes B at bytes) t ready room logs step long_ =
    subst (LongMemory shape.slots) (sym step.1) (record { guest = long_.guest; hub = length-put_at at bytes u.lane.hub_memory step.0 ∙ long_.hub })
event_long shape u l (Declines d) t ready room logs step long_ = subst (LongMemory shape.slots) (sym step.1) long_
event_long shape u l (Asked A lost) t ready room logs step long_ = subst (LongMemory shape.slots) (sym step.1) (record { guest = long_.guest; hub = long_.hub })
event_long shape u l (Gives A given) t ready room logs step long_ = subst (LongMemory shape.slots) (sym step.1) (record { guest = long_.guest; hub = long_.hub })
event_long shape u l _ t ready room logs step long_ = subst (LongMemory shape.slots) (sym step.1) (record { guest = long_.guest; hub = long_.hub })

-- A RUN
before_long : (slots : ℕ) (event : NetEvent) (s : PortState) → LongMemory slots s.lane → LongMemory slots (before event s).lane
before_long slots event s long_ = before_keeps (λ (x : PortState). LongMemory slots x.lane) event s (λ frame frames. record { guest = long_.guest; hub = long_.hub }) long_

pub record KeptLong (shape : NetShape) (s : PortState) (l : PortLog) : Type 0 where
  pub counts : PortCounts shape s l
  pub logs : LogsStand l
  pub memory : LongMemory shape.slots s.lane

-- so there is room for the rings
long_room : (shape : NetShape) (s : NetLaneState) → IsNetShape shape → LongMemory shape.slots s → MemoryHasRoom shape.slots s
long_room shape s is memory = grind (arith, power_room)

long_step : (shape : NetShape) → IsNetShape shape → (s : PortState) (l : PortLog) (event : PortEvent) (t : PortState) → KeptLong shape s l → PortStep s event t → KeptLong shape t (after l event)
long_step shape is s l (OnLane event) t had step =
    let memory = before_long shape.slots event s had.memory in
    record {
      counts = counts_step shape is s l (OnLane event) t had.counts step;
      logs = logs_event (before event s).lane l event t.lane step.1 had.logs;
      memory = event_long shape (before event s) l event t.lane (ready_before shape s l event is had.counts) (long_room shape (before event s).lane is memory) had.logs step.1 memory;
    }
long_step shape is s l (Receives frame) t had step = record {
  counts = counts_step shape is s l (Receives frame) t had.counts step;
  logs = logs_received l frame step.0 had.logs;
  memory = subst (λ (x : PortState). LongMemory shape.slots x.lane) (sym step.2) (record { guest = had.memory.guest; hub = had.memory.hub });
}

pub port_long : (shape : NetShape) (events : List PortEvent) (s : PortState) → IsNetShape shape → Run PortStep (fresh_port shape) events s → KeptLong shape s (log_of after (no_events shape) events)
port_long shape events s is run =
    (run_lawful PortStep (λ (l : PortLog) (e : PortEvent). ⊤) after (KeptLong shape) (λ (x : PortState) (l : PortLog) (e : PortEvent) (y : PortState) had step. (tt, long_step shape is x l e y had step))
    (fresh_port shape) s (no_events shape) events
    (record {
      counts = port_counts shape [] (fresh_port shape) is refl;
      logs = fresh_logs shape;
      memory = record { guest = length-replicate {A = ℕ} (8192 * memory_pages shape.slots) 0; hub = length-replicate {A = ℕ} (8192 * memory_pages shape.slots) 0 };
    }) run).1

pub room_behind : (shape : NetShape) (events : List PortEvent) (s : PortState) → IsNetShape shape → Run PortStep (fresh_port shape) events s → MemoryHasRoom shape.slots s.lane
room_behind shape events s is run = long_room shape s.lane is (port_long shape events s is run).memory
