-- What holds of two ends on a channel, for a port.
use Rattle.std.proofs.Common.{◌≡◌, ℕ, zero, suc, ◌*◌, ◌^◌, ◌<◌, ◌≤◌, true, false, Option, List, [], ◌∷◌, refl, sym, subst, ap, ◌∙◌, arith}
use Rattle.std.specs.Prelude.{◌⊎◌, slice_index, is_some}
use Rattle.std.specs.List.{AllByRecursion}
use Rattle.byteorder.specs.Numbers.{big_from-lt}
use Rattle.std.proofs.lemmas.Bool.Decides.{nat_tests}
use Rattle.ldc_link.specs.declared.phase.Role.{Role}
use Rattle.ldc_link.specs.declared.phase.Role.TheVariants.{Initiator, Responder}
use Rattle.ldc_queue.specs.declared.end.End.{End}
use Rattle.ldc_queue.specs.declared.end.End.TheVariants.{A, B}
use Rattle.ldc_queue.specs.OneStream.{IsFront}
use Rattle.ldc_queue.specs.Transcript.{Utterance}
use Rattle.ldc_queue.specs.Wire.{peer_of}
use Rattle.runs.specs.Lawful.{log_of}
use Rattle.runs.specs.Run.{Run}
use Rattle.map_table.proofs.Each.{each_replicate}
use Rattle.vio_bytes.specs.Place.{number_at}
use Rattle.vio_handshake.specs.Acceptance.{hold_ring}
use Rattle.vio_handshake.specs.Attributes.{address_of}
use Rattle.vio_handshake.specs.declared.session.Offer.{Offer}
use Rattle.vio_handshake.specs.Offers.{FitsRing, Match}
use Rattle.vio_tag.proofs.AttributeBytes.{net_attr_reads_back}
use Rattle.vio_tag.specs.declared.cause.Cause.{Cause}
use Rattle.lane_models.specs.HandshakeOrder.{HandshakeOrder}
use Rattle.lane_models.specs.Sayings.{heard, said}
use Rattle.lane_models.specs.TranscriptLog.{TranscriptLog, transcript_of}
use Rattle.lane_models.specs.WireAt.{IsOwnReset, IsUp}
use Rattle.lane_models.specs.WireLog.{WireLog}
use Rattle.lane_models.proofs.ConversingRuns.{heard_messages}
use Rattle.lane_models.proofs.LossesTold.{loss_kept, loss_told}
use Rattle.lane_models.proofs.Sessions.{open_sessions_one, open_sessions_up}
use Rattle.lane_models.proofs.UnforgedResets.{unforged_reset}
use Rattle.lane_models.specs.LaneCore.{CoreEvent, CoreFits, CoreStep, LaneCore, OfferFits, end_of, role_of, transcript_behind}
use Rattle.lane_models.specs.LossStands.{LossStands}
use Rattle.lane_models.specs.OneSession.{AreOneSession}
use Rattle.lane_models.specs.Resetting.{LiesInSession}
use Rattle.lane_models.proofs.OwnResets.{net_resets_own}
use Rattle.lane_models.specs.NetEndRule.{port_rule}
use Rattle.lane_models.specs.NetEndStep.{Reset}
use Rattle.lane_models.specs.NetEvent.{NetEvent, Steps}
use Rattle.lane_models.specs.NetLaneState.{IsNetShape, NetLaneState, NetShape, memory_of, net_end, reach_of, role_at, seen_at}
use Rattle.lane_models.specs.NetLaneStep.{NetLaneStep}
use Rattle.lane_models.specs.Offers.{class_of, port_offer, ring_cookie}
use Rattle.lane_models.specs.PortLog.{after, no_events}
use Rattle.lane_models.specs.PortState.{OnLane, PortEvent, PortState, PortStep, before, fresh_port}
use Rattle.port_laws.specs.NetCore.{fresh_net_core, lane_core}
use Rattle.port_laws.specs.PortCore.{port_core, port_events}
use Rattle.port_laws.proofs.Fitting.{BothFit}
use Rattle.port_laws.proofs.LaneMoves.{event_core_step}
use Rattle.port_laws.proofs.PortRuns.{before_core, before_fits, fresh_port_core, port_fits_behind, spoken_behind}

-- THE OFFERS
class_small : (role : Role) → class_of role < 2 ^ 8
class_small role = grind arith

offer_fits : (role : Role) (address : List ℕ) (slots : ℕ) → slots ≤ 64 → OfferFits (port_offer role address slots)
offer_fits role address slots few = grind (arith, class_small, each_replicate)

pub sizes_fit : (shape : NetShape) → IsNetShape shape → CoreFits shape.entries (port_offer Initiator shape.address shape.slots) (port_offer Responder shape.address shape.slots)
sizes_fit shape is = record {
  some_entries = omega (arith, is.some_entries);
  most_entries = is.most_entries;
  asks_fit = offer_fits Initiator shape.address shape.slots is.most_slots;
  answers_fit = offer_fits Responder shape.address shape.slots is.most_slots;
}

ring_held : (slots : ℕ) → hold_ring (ring_cookie slots ∷ []) (slots * 64) ≡ true
unfolding hold_ring
ring_held slots = grind (arith, nat_tests)

ring_fits : (role other : Role) (address : List ℕ) (slots : ℕ) → FitsRing (port_offer role address slots) (port_offer other address slots)
ring_fits role other address slots = record { slots = refl; slot_size = refl; some = omega arith; most = omega arith; held = ring_held slots }

-- the number of an address
bytes_small : (bytes : List ℕ) → AllByRecursion (λ (byte : ℕ). byte < 256) bytes → (k : ℕ) → slice_index bytes k < 256
bytes_small [] all k = omega arith
bytes_small (byte ∷ bytes) all zero = all.0
bytes_small (byte ∷ bytes) all (suc k) = bytes_small bytes all.1 k

number_small : (address : List ℕ) → AllByRecursion (λ (byte : ℕ). byte < 256) address → number_at 6 0 address < 256 ^ 6
number_small address all = big_from-lt 0 6 address (bytes_small address all)

address_back : (role : Role) (address : List ℕ) (slots : ℕ) → number_at 6 0 address < 2 ^ 64 → address_of (port_offer role address slots) ≡ number_at 6 0 address
address_back role address slots few = grind (arith, net_attr_reads_back)

pub offers_match : (shape : NetShape) → IsNetShape shape → Match (port_offer Initiator shape.address shape.slots) (port_offer Responder shape.address shape.slots)
offers_match shape is =
    let few : number_at 6 0 shape.address < 2 ^ 64 = omega (arith, number_small shape.address is.bytes) in
    record {
      kind = refl;
      ring = ring_fits Initiator Responder shape.address shape.slots;
      device = (refl, subst (λ (n : ℕ). n < 2 ^ 64) (sym (address_back Initiator shape.address shape.slots few)) few, ring_fits Responder Initiator shape.address shape.slots);
    }

-- THE LAWS of two ends, where events of the channel led to a lane
module _ (shape : NetShape) (is : IsNetShape shape) (moves : List CoreEvent) (u : NetLaneState) (run : Run CoreStep (fresh_net_core shape) moves (lane_core u)) where
  abbrev asks : Offer
  asks = port_offer Initiator shape.address shape.slots

  abbrev answers : Offer
  answers = port_offer Responder shape.address shape.slots

  pub core_front : (e : End) → u.wire.forged ≡ false → IsUp e u.wire.wire
      → IsFront (heard (transcript_of e (transcript_behind moves))) (said (transcript_of (peer_of e) (transcript_behind moves)))
  core_front e unforged up = heard_messages shape.entries asks answers moves (lane_core u) e (sizes_fit shape is) run unforged up

  pub core_up : u.wire.forged ≡ false → is_some u.guest.session ≡ true → is_some u.hub.session ≡ true → IsUp A u.wire.wire × IsUp B u.wire.wire
  core_up unforged guest hub = open_sessions_up shape.entries asks answers moves (lane_core u) (sizes_fit shape is) run unforged guest hub

  pub core_one : u.wire.forged ≡ false → is_some u.guest.session ≡ true → is_some u.hub.session ≡ true → AreOneSession u.guest.handshake u.hub.handshake
  core_one unforged guest hub = open_sessions_one shape.entries asks answers moves (lane_core u) (sizes_fit shape is) (offers_match shape is) run unforged guest hub

  pub core_resets : (e : End) (cause : Cause) (packet : Option (List ℕ)) (lost : ℕ) (t : NetLaneState) → BothFit u → u.wire.forged ≡ false → NetLaneStep u (Steps e (Reset cause packet lost)) t
      → IsOwnReset u.wire cause ⊎ LiesInSession (end_of e (lane_core u)) packet
  core_resets e cause packet lost t fits unforged step =
      unforged_reset shape.entries asks answers moves (lane_core u) e cause packet lost (lane_core t) (sizes_fit shape is) (offers_match shape is) run unforged
      (net_resets_own (role_at e) (port_rule (role_at e) (net_end e u) (seen_at e u)) (net_end e u) (memory_of e u) (reach_of e u) cause packet step.step.0)
      (event_core_step u (Steps e (Reset cause packet lost)) t fits step)

  pub core_loss_told : u.wire.lossy ≡ true → LossStands shape.entries moves
  core_loss_told lossy = loss_told shape.entries asks answers moves (lane_core u) (sizes_fit shape is) run lossy

  pub core_loss_kept : LossStands shape.entries moves → u.wire.lossy ≡ true
  core_loss_kept stands = loss_kept shape.entries asks answers moves (lane_core u) (sizes_fit shape is) run stands

-- over the runs of a port with its out queue
pub port_front : (shape : NetShape) (events : List PortEvent) (s : PortState) (e : End) → IsNetShape shape → Run PortStep (fresh_port shape) events s
    → s.lane.wire.forged ≡ false → IsUp e s.lane.wire.wire
    → IsFront (heard (transcript_of e (log_of after (no_events shape) events).transcript)) (said (transcript_of (peer_of e) (log_of after (no_events shape) events).transcript))
port_front shape events s e is run unforged up =
    subst (λ (l : TranscriptLog). IsFront (heard (transcript_of e l)) (said (transcript_of (peer_of e) l))) (spoken_behind shape events)
    (core_front shape is (port_events events) s.lane (fresh_port_core shape events s run) e unforged up)

pub order_at : (e : End) (s : NetLaneState) (turns : List Utterance) → HandshakeOrder (end_of e (lane_core s)).offer.both_rings (role_of e) turns
    → HandshakeOrder true (role_at e) turns
order_at A s turns order = order
order_at B s turns order = order

pub port_resets_unforged : (shape : NetShape) (events : List PortEvent) (s : PortState) (e : End) (cause : Cause) (packet : Option (List ℕ)) (lost : ℕ) (t : PortState) → IsNetShape shape
    → Run PortStep (fresh_port shape) events s → s.lane.wire.forged ≡ false → PortStep s (OnLane (Steps e (Reset cause packet lost))) t
    → IsOwnReset s.lane.wire cause ⊎ LiesInSession (end_of e (port_core s)) packet
port_resets_unforged shape events s e cause packet lost t is run unforged step =
    let event : NetEvent = Steps e (Reset cause packet lost) in
    let same : lane_core (before event s).lane ≡ port_core s = before_core event s in
    let wire : (before event s).lane.wire ≡ s.lane.wire = ap (λ (c : LaneCore). c.wire) same in
    subst (λ (c : LaneCore). IsOwnReset c.wire cause ⊎ LiesInSession (end_of e c) packet) same
    (core_resets shape is (port_events events) (before event s).lane (subst (Run CoreStep (fresh_net_core shape) (port_events events)) (sym same) (fresh_port_core shape events s run)) e cause packet lost t.lane
    (before_fits event s (port_fits_behind shape events s run)) (ap (λ (w : WireLog). w.forged) wire ∙ unforged) step.1)
