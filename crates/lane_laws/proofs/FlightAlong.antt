-- Along every run of a lane that nobody forged few packets wait and are still to be put, against those that were answered.
use Rattle.std.proofs.Common.{◌≡◌, ℕ, true, false, Option, List, [], ◌∷◌, ◌++◌, drop, length, refl, sym, ap, ◌∙◌, subst, arith}
use Rattle.std.specs.Prelude.{⊤}
use Rattle.runs.specs.Lawful.{log_append, run_lawful}
use Rattle.runs.specs.Run.{Run, run_push}
use Rattle.ldc_queue.specs.declared.end.End.{End}
use Rattle.ldc_queue.specs.declared.end.End.TheVariants.{A, B}
use Rattle.ldc_queue.specs.Transcript.{Utterance}
use Rattle.vio_tag.specs.declared.cause.Cause.{Cause}
use Rattle.lane_models.specs.Sayings.{heard}
use Rattle.lane_models.specs.WireEvent.{Blocked, ByRestart, ByScript, ByStep, ByTick, Declines, Giver, Idle, Injected, Joined, Lost, Poked, Reset, Sent, Took, WireEvent, giver}
use Rattle.lane_models.specs.WireLog.{wire_moved}
use Rattle.lane_laws.specs.DiskLog.{DiskLog, after, nothing_yet}
use Rattle.lane_models.specs.ClientState.{joined_client}
use Rattle.lane_models.specs.DiskEvent.{Asks, Desc, DiskEvent, Done, Finished, Misplaced, Moved, OnWire, Published, Calms, Stopped, Stored, Switched, Switches, Worked, Works}
use Rattle.lane_models.specs.LaneState.{IsShape, LaneState, Shape, fresh}
use Rattle.lane_models.specs.LaneStep.{CallsReset, LaneStep, ResetBy, SwitchedStep, WireStep, WorkStep}
use Rattle.lane_models.specs.ServerState.{ServerState, joined_server, restarted_server}
use Rattle.lane_laws.proofs.FlightClient.{client_admits_flies, falls_fly}
use Rattle.lane_laws.proofs.FlightRuns.{InFlight, StepKnown, began, client_anew, client_on, client_wire, end_wire, flight_is, knows_at, log_at, server_anew, server_on, server_wire}
use Rattle.lane_laws.proofs.LaneViews.{at_client, at_server, calm_same}
use Rattle.lane_laws.proofs.FlightServer.{server_fetches_flies, server_finishes_flies, server_moves_flies, server_stores_flies}
use Rattle.lane_laws.proofs.FlightSums.{Flight, client_loses, server_loses}
use Rattle.lane_laws.proofs.RemainingClientPuts.{completes_falls, publishes_falls}
use Rattle.lane_laws.proofs.RemainingTakes.{first_gone}
use Rattle.lane_laws.specs.Budget.{infos_begun}
use Rattle.lane_laws.specs.Counted.{range_count}
use Rattle.lane_laws.specs.Remaining.{client_packets, server_packets}
use Rattle.lane_laws.specs.Sound.{ClientSound}
use Rattle.lane_models.proofs.Apart.{true_is_false}

-- RESETS that no step gave
client_called : (shape : Shape) (events : List DiskEvent) (s : LaneState) (cause : Cause) (packet : Option (List ℕ)) (lost : ℕ) (t : LaneState) → StepKnown shape events s (OnWire (Reset A cause packet lost)) t
    → CallsReset s (record s { client = joined_client s.client }) cause A packet lost t → InFlight s (log_at shape events).transcript.a → InFlight t []
client_called shape events s cause packet lost t known calls flight =
    flight_is (record s { client = joined_client s.client; wire = wire_moved s.wire (Reset A cause packet lost); near = _ }) t [] calls.2
    (client_anew s (joined_client s.client) (log_at shape events).transcript.a (knows_at shape events s (OnWire (Reset A cause packet lost)) t known).rests.client.stands refl flight)

server_called : (s : LaneState) (v : ServerState) (cause : Cause) (packet : Option (List ℕ)) (lost : ℕ) (t : LaneState) (turns : List Utterance) → Flight (wire_moved s.wire (Joined B 0)) s.client v turns
    → CallsReset s (record s { server = v }) cause B packet lost t → InFlight t turns
server_called s v cause packet lost t turns anew calls = flight_is (record s { server = v; wire = wire_moved s.wire (Reset B cause packet lost); near = _ }) t turns calls.2 anew

reset_by : (by : Giver) (e : End) (shape : Shape) (events : List DiskEvent) (s : LaneState) (cause : Cause) (packet : Option (List ℕ)) (lost : ℕ) (t : LaneState)
    → StepKnown shape events s (OnWire (Reset e cause packet lost)) t → ResetBy by e s cause packet lost t → InFlight s (log_at shape events).transcript.a
    → InFlight t (after (log_at shape events) (OnWire (Reset e cause packet lost))).transcript.a
reset_by ByStep A shape events s cause packet lost t known step flight = client_wire shape events s (Reset A cause packet lost) t known step flight
reset_by ByStep B shape events s cause packet lost t known step flight = server_wire shape events s (Reset B cause packet lost) t known step flight
reset_by ByScript A shape events s cause packet lost t known step flight = client_called shape events s cause packet lost t known step flight
reset_by ByScript B shape events s cause packet lost t known step flight =
    server_called s (joined_server s.server) cause packet lost t (log_at shape events).transcript.a
    (began s (joined_server s.server) (log_at shape events).transcript.a (log_at shape events).transcript.b
    (knows_at shape events s (OnWire (Reset B cause packet lost)) t known).rests.server.stands refl flight) step.1
reset_by ByRestart A shape events s cause packet lost t known step flight = absurd step
reset_by ByRestart B shape events s cause packet lost t known step flight =
    server_called s (restarted_server s.server) cause packet lost t (log_at shape events).transcript.a (server_anew s (restarted_server s.server) (log_at shape events).transcript.a refl refl flight) step.1
reset_by ByTick A shape events s cause packet lost t known step flight = client_called shape events s cause packet lost t known step.1 flight
reset_by ByTick B shape events s cause packet lost t known step flight = absurd step

-- A PACKET IS LOST
lost_by : (e : End) (s : LaneState) (packet : List ℕ) (t : LaneState) (turns : List Utterance) → WireStep s (Lost e packet) t → InFlight s turns → InFlight t turns
lost_by A s packet t turns step flight =
    flight_is (record s { wire = wire_moved s.wire (Lost A packet) }) t turns step.1 (record {
      few = client_loses s.wire.wire.end_a s.wire.wire.end_b (length s.wire.wire.to_a) (length (drop 1 s.wire.wire.to_a)) (length s.wire.wire.to_b) s.wire.lossy (client_packets s.client)
          (server_packets s.server) (range_count 2 (heard turns)) (infos_begun s.client.session) (first_gone packet s.wire.wire.to_a step.0) flight.few;
      pieces = flight.pieces;
    })
lost_by B s packet t turns step flight =
    flight_is (record s { wire = wire_moved s.wire (Lost B packet) }) t turns step.1 (record {
      few = server_loses s.wire.wire.end_a s.wire.wire.end_b (length s.wire.wire.to_a) (length s.wire.wire.to_b) (length (drop 1 s.wire.wire.to_b)) s.wire.lossy (client_packets s.client)
          (server_packets s.server) (range_count 2 (heard turns)) (infos_begun s.client.session) (first_gone packet s.wire.wire.to_b step.0) flight.few;
      pieces = flight.pieces;
    })

never_forged : (s t u : LaneState) (turns : List Utterance) → t ≡ u → u.wire.forged ≡ true → t.wire.forged ≡ false → InFlight t turns
never_forged s t u turns is forged clean = true_is_false (sym forged ∙ sym (ap (λ (x : LaneState). x.wire.forged) is) ∙ clean)

poked_by : (e : End) (s : LaneState) (at : ℕ) (bytes : List ℕ) (t : LaneState) (turns : List Utterance) → WireStep s (Poked e at bytes) t → t.wire.forged ≡ false → InFlight t turns
poked_by A s at bytes t turns step clean = never_forged s t (record s { wire = wire_moved s.wire (Poked A at bytes); memory = _ }) turns step.1 refl clean
poked_by B s at bytes t turns step clean = absurd step

-- THE WIRE
on_wire : (shape : Shape) (events : List DiskEvent) (s : LaneState) (event : WireEvent) (t : LaneState) → StepKnown shape events s (OnWire event) t → WireStep s event t
    → InFlight s (log_at shape events).transcript.a → InFlight t (after (log_at shape events) (OnWire event)).transcript.a
on_wire shape events s (Joined e lost) t known step flight = end_wire e shape events s (Joined e lost) t known step flight
on_wire shape events s (Took e packet opens) t known step flight = end_wire e shape events s (Took e packet opens) t known step flight
on_wire shape events s (Sent e packet opens) t known step flight = end_wire e shape events s (Sent e packet opens) t known step flight
on_wire shape events s (Idle e) t known step flight = end_wire e shape events s (Idle e) t known step flight
on_wire shape events s (Blocked e) t known step flight = end_wire e shape events s (Blocked e) t known step flight
on_wire shape events s (Reset e cause packet lost) t known step flight = reset_by (giver cause) e shape events s cause packet lost t known step flight
on_wire shape events s (Lost e packet) t known step flight = lost_by e s packet t (log_at shape events).transcript.a step flight
on_wire shape events s (Injected e packet) t known step flight =
    never_forged s t (record s { wire = wire_moved s.wire (Injected e packet) }) (log_at shape events).transcript.a step.2 refl known.clean
on_wire shape events s (Poked e at bytes) t known step flight = poked_by e s at bytes t (log_at shape events).transcript.a step known.clean
on_wire shape events s (Declines d) t known step flight = flight_is s t (log_at shape events).transcript.a step.1 flight

-- THE WORK
works : (s : LaneState) (event : Worked) (t : LaneState) (turns : List Utterance) → ClientSound s.client → WorkStep s event t → InFlight s turns → InFlight t turns
works s (Published id) t turns sound step flight =
    client_on s t turns (ap (λ (x : LaneState). x.wire) step.is) (ap (λ (x : LaneState). x.server) step.is)
    (falls_fly 0 1 s.client t.client (publishes_falls s.client (at_client s) s.memory id t.client t.memory sound step.step)) flight
works s (Done id operation status bytes) t turns sound step flight =
    client_on s t turns (ap (λ (x : LaneState). x.wire) step.is) (ap (λ (x : LaneState). x.server) step.is)
    (falls_fly 0 1 s.client t.client (completes_falls s.client (at_client s) s.memory id operation status bytes t.client t.memory step.step)) flight
works s (Desc slot bytes) t turns sound step flight =
    server_on s t turns (ap (λ (x : LaneState). x.wire) step.1.is) (ap (λ (x : LaneState). x.client) step.1.is)
    (server_fetches_flies s.server (at_server s) _ slot bytes t.server t.memory step.1.step.1.0) flight
works s (Moved unit fault) t turns sound step flight =
    server_on s t turns (ap (λ (x : LaneState). x.wire) step.1.is) (ap (λ (x : LaneState). x.client) step.1.is)
    (server_moves_flies s.server (at_server s) _ unit fault t.server t.memory step.1.step.1.0) flight
works s (Stored operation block count failed) t turns sound step flight =
    server_on s t turns (ap (λ (x : LaneState). x.wire) step.1.is) (ap (λ (x : LaneState). x.client) step.1.is)
    (server_stores_flies s.server (at_server s) operation block count failed step.0 t.server step.1.step.1.0) flight
works s (Finished slot status) t turns sound step flight =
    server_on s t turns (ap (λ (x : LaneState). x.wire) step.1.is) (ap (λ (x : LaneState). x.client) step.1.is)
    (server_finishes_flies s.server (at_server s) _ slot status t.server t.memory step.1.step.1.0) flight
works s Misplaced t turns sound step flight = absurd step

-- STOPS, and what changes nothing
turns_fly : (s : LaneState) (event : Switched) (t : LaneState) (turns : List Utterance) → SwitchedStep s event t → InFlight s turns → InFlight t turns
turns_fly s event t turns step flight = grind arith

flight_step : (shape : Shape) (events : List DiskEvent) (s : LaneState) (event : DiskEvent) (t : LaneState) → StepKnown shape events s event t → LaneStep s event t
    → InFlight s (log_at shape events).transcript.a → InFlight t (after (log_at shape events) event).transcript.a
flight_step shape events s (OnWire event) t known step flight = on_wire shape events s event t known step flight
flight_step shape events s (Asks event) t known step flight =
    client_on s t (log_at shape events).transcript.a (ap (λ (x : LaneState). x.wire) step.1) (ap (λ (x : LaneState). x.server) step.1) (client_admits_flies s.client event t.client step.0) flight
flight_step shape events s (Works event) t known step flight =
    works s event t (log_at shape events).transcript.a (knows_at shape events s (Works event) t known).all.sound step flight
flight_step shape events s (Switches Stopped) t known step flight = turns_fly s Stopped t (log_at shape events).transcript.a step flight
flight_step shape events s (Switches event) t known step flight = turns_fly s event t (log_at shape events).transcript.a step flight
flight_step shape events s (Calms event) t known step flight = flight_is s t (log_at shape events).transcript.a (calm_same s event t step) flight

-- ALONG EVERY RUN
record AlongFlight (shape : Shape) (s : LaneState) (l : DiskLog) : Type 0 where
  events : List DiskEvent
  run : Run LaneStep (fresh shape) events s
  log : l ≡ log_at shape events
  flight : s.wire.forged ≡ false → InFlight s l.transcript.a

clean_before : (shape : Shape) (events : List DiskEvent) (s : LaneState) (event : DiskEvent) (t : LaneState) → IsShape shape → Run LaneStep (fresh shape) events s → LaneStep s event t
    → t.wire.forged ≡ false → s.wire.forged ≡ false
clean_before shape events s event t sound run step clean = grind arith

along_step : (shape : Shape) → IsShape shape → (s : LaneState) (l : DiskLog) (event : DiskEvent) (t : LaneState) → AlongFlight shape s l → LaneStep s event t → ⊤ × AlongFlight shape t (after l event)
along_step shape sound s l event t along step = (
  tt,
  record {
    events = along.events ++ event ∷ [];
    run = run_push LaneStep (fresh shape) s t along.events event along.run step;
    log = ap (λ (x : DiskLog). after x event) along.log ∙ sym (log_append after (nothing_yet shape) along.events (event ∷ []));
    flight = λ clean.
        let clean_s = clean_before shape along.events s event t sound along.run step clean in
        subst (λ (x : DiskLog). InFlight t (after x event).transcript.a) (sym along.log)
        (flight_step shape along.events s event t (record { sound = sound; run = along.run; clean = clean; clean_s = clean_s; step = step }) step
        (subst (λ (x : DiskLog). InFlight s x.transcript.a) along.log (along.flight clean_s)));
  },
)

fresh_flight : (shape : Shape) → InFlight (fresh shape) []
fresh_flight shape = record { few = omega arith; pieces = tt }

pub run_flight : (shape : Shape) (events : List DiskEvent) (s : LaneState) → IsShape shape → Run LaneStep (fresh shape) events s → s.wire.forged ≡ false → InFlight s (log_at shape events).transcript.a
run_flight shape events s sound run =
    (run_lawful LaneStep (λ (l : DiskLog) (e : DiskEvent). ⊤) after (AlongFlight shape) (along_step shape sound) (fresh shape) s (nothing_yet shape) events
    (record { events = []; run = refl; log = refl; flight = λ clean. fresh_flight shape }) run).1.flight
