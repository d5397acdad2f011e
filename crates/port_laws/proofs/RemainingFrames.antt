-- What remains on a port that nobody forged falls by each frame that an end takes.
use Rattle.std.proofs.Common.{◌≡◌, ℕ, zero, suc, ◌+◌, ◌*◌, ◌%◌, ◌<◌, ◌≤◌, ◌⊎◌, inl, inr, Bool, false, Some, List, length, refl, sym, subst, ap, ◌∙◌, arith}
use Rattle.std.specs.Prelude.{◌==◌, is_none, slice_index}
use Rattle.std.proofs.lemmas.Bool.{cases_order}
use Rattle.std.proofs.lemmas.Nat.{mod_below}
use Rattle.dring.proofs.Laps.{one_slot_front, slot_front}
use Rattle.dring.specs.Slots.{OneSlot, ready_state, slot_bytes}
use Rattle.ldc_link.specs.declared.phase.Role.{Role}
use Rattle.ldc_queue.specs.declared.end.ChannelState.{ChannelState}
use Rattle.ldc_queue.specs.declared.end.ChannelState.TheVariants.{Up}
use Rattle.ldc_queue.specs.declared.end.End.{End}
use Rattle.ldc_queue.specs.Wire.{peer_of, state_of}
use Rattle.runs.specs.Lawful.{log_of}
use Rattle.runs.specs.Run.{Run}
use Rattle.vio_bytes.specs.Place.{put_at}
use Rattle.vnet_msg.specs.Frames.{header}
use Rattle.lane_models.specs.WireLog.{WireLog}
use Rattle.lane_models.specs.EndCore.{EndCore}
use Rattle.lane_models.proofs.Ruling.{says_of}
use Rattle.lane_models.specs.NetEndRule.{Fetches}
use Rattle.lane_models.specs.NetEndState.{Activity, NetEndState, NetSession}
use Rattle.lane_models.specs.NetEndStep.{Frame, NetLeft, taken}
use Rattle.lane_models.specs.NetEndTaking.{slot_state}
use Rattle.lane_models.specs.NetEvent.{NetEvent, Steps}
use Rattle.lane_models.specs.NetLaneState.{IsNetShape, NetLaneState, NetShape, memory_of, net_end, role_at, seen_at, with_left}
use Rattle.lane_models.specs.NetLaneStep.{EndSteps}
use Rattle.lane_models.specs.Offers.{port_offer}
use Rattle.lane_models.specs.PortLog.{PortLog, after, no_events}
use Rattle.lane_models.specs.PortState.{OnLane, PortEvent, PortState, PortStep, before, fresh_port}
use Rattle.port_laws.specs.NetCore.{one_if}
use Rattle.port_laws.specs.Remaining.{end_left, put_weight, ready_slots, ready_weight, remaining, remaining_of}
use Rattle.port_laws.proofs.MemoryRoom.{MemoryHasRoom}
use Rattle.port_laws.proofs.RemainingEnds.{groups_same}
use Rattle.port_laws.proofs.RemainingReady.{below_same}
use Rattle.port_laws.proofs.RemainingSteps.{left_at, more_at, steps_before}
use Rattle.port_laws.proofs.RuleFrames.{end_counted}
use Rattle.port_laws.proofs.RingActs.{Finds}
use Rattle.port_laws.proofs.RingMoves.{Fits}
use Rattle.port_laws.proofs.RingRuns.{finds_before, port_kept}
use Rattle.port_laws.proofs.RuleUnforged.{TakesPublished, takes_published}

-- A SLOT THAT WAS READY isn't any more
one_taken : (slots k n : ℕ) (memory new : List ℕ) → OneSlot 64 slots k memory new → slot_state k memory ≡ 2 → slot_state k new ≡ 4 → n ≤ slots → k < n
    → ready_slots n new + 1 ≡ ready_slots n memory
one_taken slots k zero memory new one ready done within below = absurd (omega (arith, below))
one_taken slots k (suc n) memory new one ready done within below =
    elim (cases_order n k) [
      | inl same ↦ (
          let was : slot_state n memory ≡ 2 = ap (λ (i : ℕ). slot_state i memory) same ∙ ready in
          let is : slot_state n new ≡ 4 = ap (λ (i : ℕ). slot_state i new) same ∙ done in
          omega (
            arith,
            below_same slots k n memory new one (omega (arith, same)) (omega (arith, within, same)),
            ap (λ (x : ℕ). one_if (x == ready_state)) was,
            ap (λ (x : ℕ). one_if (x == ready_state)) is,
          ))
      | inr apart ↦ goes_on apart (λ past. one_taken slots k n memory new one ready done (omega (arith, within)) past)
    ]
  where
    goes_on : (n < k) ⊎ (k < n) → (k < n → ready_slots n new + 1 ≡ ready_slots n memory) → ready_slots (suc n) new + 1 ≡ ready_slots (suc n) memory
    goes_on given before = grind arith

done_byte : (bytes : List ℕ) → slice_index (put_at 0 (header 4 0) bytes) 0 ≡ 4
done_byte bytes = refl

pub ready_falls : (slots k : ℕ) (memory new : List ℕ) → Fits slots memory → k < slots → slot_state k memory ≡ 2 → new ≡ put_at (64 * k) (header 4 0) memory
    → ready_slots slots new + 1 ≡ ready_slots slots memory
ready_falls slots k memory new fits below ready is =
    let few = fits.few in
    let room = fits.room in
    let eight : length (header 4 0) ≤ 64 = omega arith in
    let done : slot_state k (put_at (64 * k) (header 4 0) memory) ≡ 4 =
    ap (λ (bytes : List ℕ). slice_index bytes 0) (slot_front 64 slots k (header 4 0) memory below eight (omega (arith, few, room))) ∙ done_byte (slot_bytes 64 k memory) in
    subst (λ (m : List ℕ). ready_slots slots m + 1 ≡ ready_slots slots memory) (sym is)
    (one_taken slots k slots memory (put_at (64 * k) (header 4 0) memory) (one_slot_front 64 slots k (header 4 0) memory below eight (omega (arith, few, room))) ready done (omega arith) below)

-- THE END WHOSE RING IT IS: the frame that was taken counted three, or five
left_falls : (role : Role) (fresh asks ready more rest : ℕ) → ready + 1 ≡ more
    → 8 * fresh + put_weight role * asks + ready_weight role * ready + rest + ready_weight role ≡ 8 * fresh + put_weight role * asks + ready_weight role * more + rest
left_falls role fresh asks ready more rest is = grind arith

peer_falls : (x : ChannelState) (role : Role) (more : ℕ) (memory new : List ℕ) (s : NetEndState) (p : NetSession) → x ≡ Up → s.session ≡ Some p
    → ready_slots s.slots new + 1 ≡ ready_slots s.slots memory → end_left x role more new s + ready_weight role ≡ end_left x role more memory s
peer_falls x role more memory new s p up is ready = grind (arith, left_falls)

-- THE END THAT TAKES IT owes an answer, if it didn't
abbrev with_opened : NetEndState → Role → Bool → ℕ → EndCore
with_opened s role open_ more = record { link = s.link; handshake = s.handshake; offer = port_offer role s.address s.slots; is_open = open_; own = is_none s.handshake.owed; more = more }

own_more : (x : ChannelState) (role : Role) (more : ℕ) (memory : List ℕ) (s : NetEndState) (p : NetSession) (activity : Activity) (frame : List ℕ) → x ≡ Up → s.session ≡ Some p → p.active ≡ Some activity
    → end_left x role more memory (record s { session = Some (taken s p activity); last = frame }) ≤ end_left x role more memory s + put_weight role
own_more x role more memory s p activity frame up is active = grind (arith, groups_same)

-- A STEP
pub peer_room : (e : End) (slots : ℕ) (u : NetLaneState) → MemoryHasRoom slots u → 8192 + 2048 * slots ≤ length (memory_of (peer_of e) u)
peer_room e slots u room = grind arith

-- the peer's ring has one READY slot less, and the end owes an answer more at most
both_left : (e : End) (u : NetLaneState) (queued : ℕ) (left : NetLeft) → left_at e queued left.own left.end u ≤ left_at e queued (memory_of e u) (net_end e u) u + put_weight (role_at e)
    → left_at (peer_of e) queued left.peer (net_end (peer_of e) u) u + ready_weight (role_at (peer_of e)) ≡ left_at (peer_of e) queued (memory_of (peer_of e) u) (net_end (peer_of e) u) u
    → remaining_of (record (with_left e left u) { wire = u.wire }) queued + 1 ≤ remaining_of u queued
both_left e u queued left own peer = grind arith

lane_frame : (shape : NetShape) (u : PortState) (l : PortLog) (e : End) (frame : List ℕ) (t : NetLaneState) → Finds shape u l → EndSteps e u.lane (Frame frame) t
    → remaining_of t (length u.queue) + 1 ≤ remaining_of u.lane (length u.queue)
lane_frame shape u l e frame t finds step =
    let s : NetEndState = net_end e u.lane in
    let f : NetEndState = net_end (peer_of e) u.lane in
    let memory : List ℕ = memory_of (peer_of e) u.lane in
    let queued : ℕ = length u.queue in
    let takes : TakesPublished shape e u l frame step.step.new = takes_published shape e u l frame t finds step in
    let says = says_of (role_at e) s (seen_at e u.lane) (Fetches step.step.session step.step.activity) step.step.rule in
    let slots_is : f.slots ≡ shape.slots = (end_counted shape (peer_of e) u l finds.ready).slots_is in
    let some = finds.ready.sound.some_slots in
    let ready = ready_falls shape.slots (takes.v.taken % shape.slots) memory step.step.new (record { few = finds.ready.sound.most_slots; room = peer_room e shape.slots u.lane finds.room })
    (mod_below takes.v.taken shape.slots (omega (arith, some))) takes.found.ready takes.found.new_is in
    let peer = peer_falls _ _ _ _ _ f _ takes.peer_up takes.theirs (rw slots_is ready) in
    let own = own_more (state_of e u.lane.wire.wire) (role_at e) (more_at e queued) (memory_of e u.lane) s step.step.session step.step.activity frame takes.up says.0.session says.1 in
    rw (step.is, step.step.is) (both_left e u.lane queued _ own peer)

-- ALONG EVERY RUN
pub port_frame : (shape : NetShape) (events : List PortEvent) (s : PortState) (e : End) (frame : List ℕ) (t : PortState) → IsNetShape shape → Run PortStep (fresh_port shape) events s
    → s.lane.wire.forged ≡ false → PortStep s (OnLane (Steps e (Frame frame))) t → remaining t < remaining s
port_frame shape events s e frame t is run clean step =
    let event : NetEvent = Steps e (Frame frame) in
    let l : PortLog = log_of after (no_events shape) events in
    let kept = port_kept shape events s is run in
    let unforged : l.wire.forged ≡ false = sym (ap (λ (w : WireLog). w.forged) kept.counts.wire) ∙ clean in
    let less = lane_frame shape (before event s) l e frame t.lane (finds_before shape s l event is kept unforged) step.1 in
    omega (arith, less, steps_before e (Frame frame) s, ap (λ (x : List (List ℕ)). remaining_of t.lane (length x)) step.2)
