-- What a port's ends say and hear, and how their sessions open, event by event.
use Rattle.std.proofs.Common.{◌≡◌, ℕ, Bool, true, false, Option, List, ◌∷◌, refl, arith}
use Rattle.ldc_link.specs.declared.phase.Role.TheVariants.{Initiator, Responder}
use Rattle.ldc_queue.specs.declared.end.End.{End}
use Rattle.ldc_queue.specs.Transcript.{Heard, Said}
use Rattle.runs.specs.Lawful.{Lawful, log_of}
use Rattle.runs.specs.Run.{Run}
use Rattle.lane_models.specs.TranscriptLog.{TranscriptLog, hears, says, transcript_of}
use Rattle.lane_models.specs.WireAt.{WireHeardAt, WireSaidAt}
use Rattle.lane_models.specs.WireEvent.{WireEvent}
use Rattle.lane_models.proofs.Numbering.{heard_lawful, said_lawful}
use Rattle.lane_models.specs.CoreLog as core
use Rattle.lane_models.proofs.OpeningOrder.{opens_hearing, opens_saying}
use Rattle.lane_models.specs.FrameLaws.{OpeningsAt}
use Rattle.lane_models.specs.NetEndStep.{Sent, Took}
use Rattle.lane_models.specs.NetEvent.{Steps}
use Rattle.lane_models.specs.NetLaneState.{IsNetShape, NetShape}
use Rattle.lane_models.specs.Offers.{port_offer}
use Rattle.lane_models.specs.PortLog.{PortLog, after, no_events}
use Rattle.lane_models.specs.PortMay.{IfOnWire, OfWire}
use Rattle.lane_models.specs.PortState.{OnLane, PortEvent, PortState, PortStep, fresh_port}
use Rattle.port_laws.specs.NetCore.{event_core}
use Rattle.port_laws.specs.PortCore.{port_core, port_event, port_events}
use Rattle.port_laws.proofs.CoreLaws.{order_at, sizes_fit}
use Rattle.port_laws.proofs.PortRuns.{SameLog, fresh_port_core, lawful_along, lawful_here, port_fits_behind, port_step_core, spoken_behind}

-- of the channel's event
of_event : (Holds : WireEvent → Type 0) (event : Option WireEvent) → core.OfChannel Holds (event_core event) → IfOnWire Holds event
of_event Holds event holds = grind arith

said_means : (c : core.CoreLog) (l : PortLog) (event : PortEvent) → SameLog c l → core.SaidAt c (port_event event) → OfWire (WireSaidAt l.transcript) event
said_means c l event same said = grind (arith, of_event)

heard_means : (c : core.CoreLog) (l : PortLog) (event : PortEvent) → SameLog c l → core.HeardAt c (port_event event) → OfWire (WireHeardAt l.transcript) event
heard_means c l event same heard = grind (arith, of_event)

same_start : (shape : NetShape) → SameLog (core.nothing_yet shape.entries) (no_events shape)
same_start shape = record { entries = refl; wire = refl; transcript = refl }

pub port_says : (shape : NetShape) (events : List PortEvent) (s : PortState) → IsNetShape shape → Run PortStep (fresh_port shape) events s
    → Lawful (λ (l : PortLog) (event : PortEvent). OfWire (WireSaidAt l.transcript) event) after (no_events shape) events
port_says shape events s is run =
    lawful_here core.SaidAt (λ (l : PortLog) (event : PortEvent). OfWire (WireSaidAt l.transcript) event) said_means events (core.nothing_yet shape.entries) (no_events shape) (same_start shape)
    (said_lawful shape.entries (port_offer Initiator shape.address shape.slots) (port_offer Responder shape.address shape.slots) (port_events events) (port_core s)
    (sizes_fit shape is) (fresh_port_core shape events s run))

pub port_hears : (shape : NetShape) (events : List PortEvent) (s : PortState) → IsNetShape shape → Run PortStep (fresh_port shape) events s
    → Lawful (λ (l : PortLog) (event : PortEvent). OfWire (WireHeardAt l.transcript) event) after (no_events shape) events
port_hears shape events s is run =
    lawful_here core.HeardAt (λ (l : PortLog) (event : PortEvent). OfWire (WireHeardAt l.transcript) event) heard_means events (core.nothing_yet shape.entries) (no_events shape) (same_start shape)
    (heard_lawful shape.entries (port_offer Initiator shape.address shape.slots) (port_offer Responder shape.address shape.slots) (port_events events) (port_core s)
    (sizes_fit shape is) (fresh_port_core shape events s run))

-- SESSIONS OPEN in the order of the handshake
turn_says : (e : End) (packet : List ℕ) (l : TranscriptLog) → transcript_of e (says e packet l) ≡ Said packet ∷ transcript_of e l
turn_says e packet l = grind arith

turn_hears : (e : End) (packet : List ℕ) (l : TranscriptLog) → transcript_of e (hears e packet l) ≡ Heard packet ∷ transcript_of e l
turn_hears e packet l = grind arith

module _ (shape : NetShape) (events : List PortEvent) (s : PortState) (is : IsNetShape shape) (run : Run PortStep (fresh_port shape) events s) where
  says_order : (e : End) (packet : List ℕ) (opens : Bool) (t : PortState) → PortStep s (OnLane (Steps e (Sent packet opens))) t
      → OpeningsAt (log_of after (no_events shape) events) (OnLane (Steps e (Sent packet opens)))
  says_order e packet false t step = tt
  says_order e packet true t step =
      rw (turn_says e packet (log_of after (no_events shape) events).transcript, ← spoken_behind shape events) (order_at e s.lane _
      (opens_saying _ _ _ _ _ e packet _ (sizes_fit shape is) (fresh_port_core shape events s run)
      (port_step_core s (OnLane (Steps e (Sent packet true))) t (port_fits_behind shape events s run) step)))

  hears_order : (e : End) (packet : List ℕ) (opens : Bool) (t : PortState) → PortStep s (OnLane (Steps e (Took packet opens))) t
      → OpeningsAt (log_of after (no_events shape) events) (OnLane (Steps e (Took packet opens)))
  hears_order e packet false t step = tt
  hears_order e packet true t step =
      rw (turn_hears e packet (log_of after (no_events shape) events).transcript, ← spoken_behind shape events) (order_at e s.lane _
      (opens_hearing _ _ _ _ _ e packet _ (sizes_fit shape is) (fresh_port_core shape events s run)
      (port_step_core s (OnLane (Steps e (Took packet true))) t (port_fits_behind shape events s run) step)))

opens_at : (shape : NetShape) (is : IsNetShape shape) (events : List PortEvent) (s : PortState) (event : PortEvent) (t : PortState) → Run PortStep (fresh_port shape) events s → PortStep s event t
    → OpeningsAt (log_of after (no_events shape) events) event
opens_at shape is events s event t run step = grind (arith, says_order, hears_order)

pub port_opens : (shape : NetShape) (events : List PortEvent) (s : PortState) → IsNetShape shape → Run PortStep (fresh_port shape) events s
    → Lawful OpeningsAt after (no_events shape) events
port_opens shape events s is run = lawful_along shape OpeningsAt (opens_at shape is) events s run
