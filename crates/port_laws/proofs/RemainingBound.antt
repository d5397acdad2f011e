-- What remains on a port that nobody forged is at most 117, and 8 for each frame; where a packet was lost, at most 189 and 8.
use Rattle.std.proofs.Common.{◌≡◌, ℕ, ◌+◌, ◌-◌, ◌*◌, ◌≤◌, Bool, false, Option, Some, None, List, length, sym, ap, ◌∙◌, arith}
use Rattle.std.specs.Prelude.{is_some, ⊤}
use Rattle.ldc_link.specs.declared.phase.Role.{Role}
use Rattle.ldc_link.specs.declared.phase.Role.TheVariants.{Initiator, Responder}
use Rattle.ldc_queue.specs.declared.end.ChannelState.{ChannelState}
use Rattle.ldc_queue.specs.declared.end.ChannelState.TheVariants.{Up}
use Rattle.runs.specs.Lawful.{log_of}
use Rattle.runs.specs.Run.{Run}
use Rattle.lane_models.specs.WireLog.{WireLog}
use Rattle.lane_models.specs.NetEndState.{Activity, NetEndState, NetSession, unseen_in}
use Rattle.lane_models.specs.NetLaneState.{IsNetShape, NetShape}
use Rattle.lane_models.specs.PortLog.{PortLog, after, no_events}
use Rattle.lane_models.specs.PortState.{PortEvent, PortState, PortStep, fresh_port}
use Rattle.port_laws.specs.NetCore.{is_begun, net_core_at, one_if}
use Rattle.port_laws.specs.PortCore.{port_core}
use Rattle.port_laws.specs.Remaining.{absent, end_left, frames_held, life, ready_slots, remaining, second_life, took_some}
use Rattle.port_laws.specs.RingStands.{RingIn, taken_by}
use Rattle.port_laws.proofs.FlightRuns.{port_few}
use Rattle.port_laws.proofs.FlightSums.{first_of, live_count, spent}
use Rattle.port_laws.proofs.ReadyFrames.{ready_most}
use Rattle.port_laws.proofs.RingRuns.{port_kept}
use Rattle.port_laws.proofs.EndMoves.{one_most}

-- the messages that an end may begin cover the answers that it owes
took_one : (active : Option Activity) → one_if (took_some active) ≤ one_if (is_some active)
took_one active = grind (arith, one_most)

-- AN END IN SESSION: each READY slot holds a frame that it holds
abbrev FewReady : (slots held : ℕ) → List ℕ → Option NetSession → Type 0
FewReady slots held memory None = ⊤
FewReady slots held memory (Some p) = (ready_slots slots memory ≤ unseen_in p) × (unseen_in p ≤ held)

ring_ready : (slots own taken more : ℕ) (session : Option NetSession) (frames : List (List ℕ)) (memory : List ℕ) → own ≡ slots → RingIn slots taken session frames memory
    → FewReady own (length frames + more) memory session
ring_ready slots own taken more None frames memory same ring = tt
ring_ready slots own taken more (Some p) frames memory same ring =
    let most : ready_slots slots memory ≤ p.published - taken = ready_most slots p.seen taken p.published frames memory ring in
    (omega (arith, most, ring.seen_first, ap (λ (n : ℕ). ready_slots n memory) same), omega (arith, ring.held))

-- what of an end isn't a packet's or a frame's: its groups, and that it isn't up
abbrev spare : Role → ℕ
spare Initiator = 5
spare Responder = 0

end_most : (x : ChannelState) (role : Role) (more : ℕ) (memory : List ℕ) (s : NetEndState) → (x ≡ Up → FewReady s.slots (length s.frames + more) memory s.session)
    → end_left x role more memory s + absent x ≤ 4 * live_count x (first_of role) (spent (net_core_at role (is_begun x) s)) + spare role + 8 * (length s.frames + more)
end_most x role more memory s few = grind (arith, took_one, one_most)

-- BOTH ENDS
live_one : (x : ChannelState) (b : Bool) → live_count x 0 (one_if b) ≤ 1
live_one x b = grind (arith, one_most)

life_most : (shape : NetShape) (events : List PortEvent) (s : PortState) → IsNetShape shape → Run PortStep (fresh_port shape) events s → s.lane.wire.forged ≡ false
    → life s.lane.wire.wire s.lane (length s.queue) + 4 * one_if s.lane.wire.lossy ≤ 117 + 8 * frames_held s
life_most shape events s is run clean =
    let l : PortLog = log_of after (no_events shape) events in
    let kept = port_kept shape events s is run in
    let rings = kept.rings (sym (ap (λ (w : WireLog). w.forged) kept.counts.wire) ∙ clean) in
    let slots : shape.slots ≡ l.shape.slots = sym (ap (λ (x : NetShape). x.slots) kept.counts.shape_is) in
    omega (
      arith,
      port_few shape events s is run clean,
      live_one s.lane.wire.wire.end_a (port_core s).a.is_open,
      live_one s.lane.wire.wire.end_b (port_core s).b.is_open,
      end_most s.lane.wire.wire.end_a Initiator 0 s.lane.guest_memory s.lane.guest (λ up.
          ring_ready l.shape.slots s.lane.guest.slots (taken_by s.lane.wire.wire.end_b l.hub.session) 0 s.lane.guest.session s.lane.guest.frames s.lane.guest_memory
          (kept.counts.guest.slots_is ∙ slots) (rings.guest_ring up)),
      end_most s.lane.wire.wire.end_b Responder (length s.queue) s.lane.hub_memory s.lane.hub (λ up.
          ring_ready l.shape.slots s.lane.hub.slots (taken_by s.lane.wire.wire.end_a l.guest.session) (length s.queue) s.lane.hub.session s.lane.hub.frames s.lane.hub_memory
          (kept.counts.hub.slots_is ∙ slots) (rings.hub_ring up)),
    )

-- WHAT REMAINS
by_whole : (lossy : Bool) (life held : ℕ) → lossy ≡ false → life + 4 * one_if lossy ≤ 117 + 8 * held → life + second_life lossy ≤ 117 + 8 * held
by_whole lossy life held whole most = grind arith

pub whole_most : (shape : NetShape) (events : List PortEvent) (s : PortState) → IsNetShape shape → Run PortStep (fresh_port shape) events s → s.lane.wire.forged ≡ false → s.lane.wire.lossy ≡ false
    → remaining s ≤ 117 + 8 * frames_held s
whole_most shape events s is run clean whole =
    by_whole s.lane.wire.lossy (life s.lane.wire.wire s.lane (length s.queue)) (frames_held s) whole (life_most shape events s is run clean)

by_lossy : (lossy : Bool) (life held : ℕ) → life + 4 * one_if lossy ≤ 117 + 8 * held → life + second_life lossy ≤ 189 + 8 * held
by_lossy lossy life held most = grind arith

pub lossy_most : (shape : NetShape) (events : List PortEvent) (s : PortState) → IsNetShape shape → Run PortStep (fresh_port shape) events s → s.lane.wire.forged ≡ false
    → remaining s ≤ 189 + 8 * frames_held s
lossy_most shape events s is run clean = by_lossy s.lane.wire.lossy (life s.lane.wire.wire s.lane (length s.queue)) (frames_held s) (life_most shape events s is run clean)

pub settle_most : (shape : NetShape) (events : List PortEvent) (s : PortState) → IsNetShape shape → Run PortStep (fresh_port shape) events s → s.lane.wire.forged ≡ false
    → remaining s ≤ 192 + 64 * frames_held s
settle_most shape events s is run clean = omega (arith, lossy_most shape events s is run clean)
