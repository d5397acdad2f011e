-- A step of an end on the wire of a lane that nobody forged leaves few packets that wait and are still to be put, against those that were answered.
use Rattle.std.proofs.Common.{◌≡◌, ℕ, ◌+◌, ◌≤◌, Bool, false, Option, Some, None, List, [], ◌∷◌, ◌++◌, drop, length, sym, ap, ◌∙◌, subst, arith}
use Rattle.runs.specs.Lawful.{log_of}
use Rattle.runs.specs.Run.{Run}
use Rattle.ldc_link.specs.declared.phase.Role.TheVariants.{Initiator, Responder}
use Rattle.ldc_queue.specs.declared.end.End.{End}
use Rattle.ldc_queue.specs.declared.end.End.TheVariants.{A, B}
use Rattle.ldc_queue.specs.Transcript.{Heard as Heard_, Said as Said_, Utterance}
use Rattle.lane_models.specs.Sayings.{half_heard, heard}
use Rattle.lane_models.specs.WireEvent.{Blocked, Idle, Joined, Reset, Sent, Took, WireEvent}
use Rattle.lane_models.specs.WireLog.{wire_moved}
use Rattle.lane_laws.specs.DiskLog.{DiskLog, after, nothing_yet}
use Rattle.lane_models.specs.Messages.{range_ended}
use Rattle.lane_laws.specs.WorkLog.{one_in}
use Rattle.lane_models.specs.ClientRule as client_rules
use Rattle.lane_models.specs.ClientState.{ClientState, joined_client}
use Rattle.lane_models.specs.DiskEvent.{DiskEvent, OnWire}
use Rattle.lane_models.specs.LaneState.{IsShape, LaneState, Shape, fresh}
use Rattle.lane_models.specs.LaneStep.{EndOnWire, LaneStep}
use Rattle.lane_models.specs.ServerRule as server_rules
use Rattle.lane_models.specs.ServerState.{ServerState, joined_server}
use Rattle.lane_models.specs.Standing.{EndStands}
use Rattle.lane_laws.proofs.ClientHolding.{holds_up}
use Rattle.lane_laws.proofs.FallsByTaking.{client_takes, server_takes}
use Rattle.lane_laws.proofs.FlightClient.{ClientFlies, falls_fly}
use Rattle.lane_laws.proofs.FlightServer.{FewPieces, ServerFlies, server_takes_flies}
use Rattle.lane_laws.proofs.FlightServer as server_flies
use Rattle.lane_laws.proofs.FlightSums.{Flight, client_puts_one, client_takes_one, one_longer, server_begins, server_puts_one, server_takes_one}
use Rattle.lane_laws.proofs.IdleRuns.{client_same, server_same}
use Rattle.lane_laws.proofs.LaneCounting.{Knows, run_knows}
use Rattle.lane_laws.proofs.RangeSums.{count_heard}
use Rattle.lane_laws.proofs.RemainingClientPuts.{blocked_falls, sends_falls}
use Rattle.lane_laws.proofs.RemainingLane.{begun_answers}
use Rattle.lane_laws.proofs.RemainingServerPuts as server
use Rattle.lane_laws.proofs.Ruling.{client_may, server_may}
use Rattle.lane_laws.proofs.ServerSpeaking.{server_holds_up}
use Rattle.lane_laws.proofs.ServerTaken.{server_took_what}
use Rattle.lane_laws.proofs.RemainingTakes.{first_gone}
use Rattle.lane_laws.specs.Budget.{infos_begun}
use Rattle.lane_laws.specs.ChannelEnds.{client_core, server_core}
use Rattle.lane_laws.specs.Counted.{range_count}
use Rattle.lane_laws.specs.Remaining.{client_packets, server_packets}
use Rattle.lane_laws.specs.RemainingSteps.{ServerHeard, total_at}
use Rattle.lane_laws.specs.RuleFacts.{ClientMay, ServerMay}
use Rattle.lane_laws.proofs.LaneViews.{at_client, at_server}

-- a lane and what its client said and heard
abbrev pub InFlight : LaneState → List Utterance → Type 0
InFlight s turns = Flight s.wire s.client s.server turns

pub flight_is : (s t : LaneState) (turns : List Utterance) → t ≡ s → InFlight s turns → InFlight t turns
flight_is s t turns is flight = subst (λ (x : LaneState). InFlight x turns) (sym is) flight

-- what is known of a step
pub record StepKnown (shape : Shape) (events : List DiskEvent) (s : LaneState) (event : DiskEvent) (t : LaneState) : Type 0 where
  pub sound : IsShape shape
  pub run : Run LaneStep (fresh shape) events s
  pub clean : t.wire.forged ≡ false
  pub clean_s : s.wire.forged ≡ false
  pub step : LaneStep s event t

abbrev pub log_at : Shape → List DiskEvent → DiskLog
log_at shape events = log_of after (nothing_yet shape) events

pub knows_at : (shape : Shape) (events : List DiskEvent) (s : LaneState) (event : DiskEvent) (t : LaneState) → StepKnown shape events s event t → Knows s (log_at shape events)
knows_at shape events s event t known = run_knows shape events s known.sound known.run

-- AN END that begins
pub client_anew : (s : LaneState) (c : ClientState) (turns : List Utterance) → EndStands Initiator (client_core s.client) turns → c ≡ joined_client s.client → InFlight s turns → Flight (wire_moved s.wire (Joined A 0)) c s.server []
client_anew s c turns stands is flight = grind arith

pub server_anew : (s : LaneState) (v : ServerState) (turns : List Utterance) → server_packets v ≡ 8 → v.work ≡ None → InFlight s turns → Flight (wire_moved s.wire (Joined B 0)) s.client v turns
server_anew s v turns eight none flight = record {
  few = server_begins s.wire.wire.end_a s.wire.wire.end_b s.wire.wire.to_a s.wire.wire.to_b s.wire.lossy (client_packets s.client) (server_packets s.server) (server_packets v)
      (range_count 2 (heard turns)) (infos_begun s.client.session) eight flight.few;
  pieces = subst FewPieces (sym none) tt;
}

-- AN END that goes on
pub client_on : (s t : LaneState) (turns : List Utterance) → t.wire ≡ s.wire → t.server ≡ s.server → ClientFlies 0 s.client t.client → InFlight s turns → InFlight t turns
client_on s t turns wire server flies flight = grind arith

pub server_on : (s t : LaneState) (turns : List Utterance) → t.wire ≡ s.wire → t.client ≡ s.client → ServerFlies 0 0 s.server t.server → InFlight s turns → InFlight t turns
server_on s t turns wire client flies flight = grind arith

-- THE CLIENT takes a packet
one_most : (range : Option (List ℕ)) → one_in range ≤ 1
one_most None = omega arith
one_most (Some message) = omega arith

client_took : (shape : Shape) (events : List DiskEvent) (s : LaneState) (packet : List ℕ) (opens : Bool) (t : LaneState) → StepKnown shape events s (OnWire (Took A packet opens)) t
    → InFlight s (log_at shape events).transcript.a → InFlight t (Heard_ packet ∷ (log_at shape events).transcript.a)
client_took shape events s packet opens t known flight =
    let l = log_at shape events in
    let turns : List Utterance = l.transcript.a in
    let step = known.step in
    let may : ClientMay s.client (at_client s) (client_rules.Takes packet) = subst (ClientMay s.client (at_client s)) step.step.0 (client_may s.client (at_client s)) in
    let falls = client_takes shape events s packet opens t known.sound known.run known.clean_s step in
    let answers : range_count 2 (heard (Heard_ packet ∷ turns)) ≤ range_count 2 (heard turns) + 1 = omega (arith, count_heard 2 packet turns, one_most (range_ended 2 (half_heard turns) packet)) in
    flight_is (record s { wire = wire_moved s.wire (Took A packet opens); client = t.client; memory = t.memory; near = s.near }) t (Heard_ packet ∷ turns) step.is (record {
      few = client_takes_one s.wire.wire.end_a s.wire.wire.end_b (length s.wire.wire.to_a) (length (drop 1 s.wire.wire.to_a)) (length s.wire.wire.to_b) s.wire.lossy (client_packets s.client)
          (client_packets t.client) (server_packets s.server) (range_count 2 (heard turns)) (range_count 2 (heard (Heard_ packet ∷ turns))) (infos_begun s.client.session) (infos_begun t.client.session)
          may.0 (first_gone packet s.wire.wire.to_a may.1) (falls_fly 0 0 s.client t.client falls) answers flight.few;
      pieces = flight.pieces;
    })

-- it puts one
client_sent : (shape : Shape) (events : List DiskEvent) (s : LaneState) (packet : List ℕ) (opens : Bool) (t : LaneState) → StepKnown shape events s (OnWire (Sent A packet opens)) t
    → InFlight s (log_at shape events).transcript.a → InFlight t (Said_ packet ∷ (log_at shape events).transcript.a)
client_sent shape events s packet opens t known flight =
    let l = log_at shape events in
    let turns : List Utterance = l.transcript.a in
    let step = known.step in
    let knows : Knows s l = knows_at shape events s (OnWire (Sent A packet opens)) t known in
    let up = holds_up s.client (at_client s) (client_rules.client_rule s.client (at_client s)) step.step.held (client_may s.client (at_client s)) step.step.holds in
    let falls = sends_falls s.client (at_client s) s.memory packet opens t.client t.memory turns step.step knows.all.sound knows.rests.client.stands in
    flight_is (record s { wire = wire_moved s.wire (Sent A packet opens); client = t.client; memory = t.memory; near = s.near }) t (Said_ packet ∷ turns) step.is (record {
      few = client_puts_one s.wire.wire.end_a s.wire.wire.end_b (length s.wire.wire.to_a) (length s.wire.wire.to_b) (length (s.wire.wire.to_b ++ packet ∷ [])) s.wire.lossy (client_packets s.client)
          (client_packets t.client) (server_packets s.server) (range_count 2 (heard turns)) (infos_begun s.client.session) (infos_begun t.client.session) up (one_longer s.wire.wire.to_b packet) (falls_fly 1 0 s.client t.client falls) flight.few;
      pieces = flight.pieces;
    })

pub client_wire : (shape : Shape) (events : List DiskEvent) (s : LaneState) (event : WireEvent) (t : LaneState) → StepKnown shape events s (OnWire event) t → EndOnWire A s event t
    → InFlight s (log_at shape events).transcript.a → InFlight t (after (log_at shape events) (OnWire event)).transcript.a
client_wire shape events s (Joined A lost) t known step flight =
    flight_is (record s { wire = wire_moved s.wire (Joined A lost); client = t.client; memory = t.memory; near = s.near }) t [] step.is
    (client_anew s t.client (log_at shape events).transcript.a (knows_at shape events s (OnWire (Joined A lost)) t known).rests.client.stands step.step.2 flight)
client_wire shape events s (Took A packet opens) t known step flight = client_took shape events s packet opens t known flight
client_wire shape events s (Sent A packet opens) t known step flight = client_sent shape events s packet opens t known flight
client_wire shape events s (Blocked A) t known step flight =
    let knows : Knows s (log_at shape events) = knows_at shape events s (OnWire (Blocked A)) t known in
    client_on s t (log_at shape events).transcript.a (ap (λ (x : LaneState). x.wire) step.is) (ap (λ (x : LaneState). x.server) step.is)
    (falls_fly 0 0 s.client t.client
    (blocked_falls s.client (at_client s) t.client (log_at shape events).transcript.a step.step.0 knows.all.sound knows.rests.client.stands)) flight
client_wire shape events s (Idle A) t known step flight = flight_is s t (log_at shape events).transcript.a (client_same s t step) flight
client_wire shape events s (Reset A cause packet lost) t known step flight =
    flight_is (record s { wire = wire_moved s.wire (Joined A 0); client = t.client; memory = t.memory; near = _ }) t [] step.is
    (client_anew s t.client (log_at shape events).transcript.a (knows_at shape events s (OnWire (Reset A cause packet lost)) t known).rests.client.stands step.step.2 flight)
client_wire shape events s _ t known step flight = absurd step.step

-- THE SERVER takes a packet, and puts one
server_took : (shape : Shape) (events : List DiskEvent) (s : LaneState) (packet : List ℕ) (opens : Bool) (t : LaneState) → StepKnown shape events s (OnWire (Took B packet opens)) t
    → InFlight s (log_at shape events).transcript.a → InFlight t (log_at shape events).transcript.a
server_took shape events s packet opens t known flight =
    let l = log_at shape events in
    let step = known.step in
    let knows : Knows s l = knows_at shape events s (OnWire (Took B packet opens)) t known in
    let may : ServerMay s.server (at_server s) (server_rules.Takes packet) = subst (ServerMay s.server (at_server s)) step.1.step.1.0 (server_may s.server (at_server s)) in
    let most = total_at s.wire.wire.end_a s.client in
    let turn : ServerHeard most s.server t.server = server_takes shape events s packet opens t known.sound known.run known.clean_s step in
    let took = server_took_what s.server l.transcript.b packet t.server opens knows.rests.server.stands.link.follows knows.rests.server.whole step.1.step.1.1 in
    let flies : ServerFlies 0 1 s.server t.server = server_takes_flies most s.server t.server l.transcript.b packet opens turn took in
    flight_is (record s { wire = wire_moved s.wire (Took B packet opens); server = t.server; memory = t.memory; near = s.near }) t l.transcript.a step.1.is (record {
      few = server_takes_one s.wire.wire.end_a s.wire.wire.end_b (length s.wire.wire.to_a) (length s.wire.wire.to_b) (length (drop 1 s.wire.wire.to_b)) s.wire.lossy (client_packets s.client)
          (server_packets s.server) (server_packets t.server) (range_count 2 (heard l.transcript.a)) (infos_begun s.client.session) may.0 (first_gone packet s.wire.wire.to_b may.1) flies.packets flight.few;
      pieces = flies.pieces flight.pieces;
    })

server_sent : (shape : Shape) (events : List DiskEvent) (s : LaneState) (packet : List ℕ) (opens : Bool) (t : LaneState) → StepKnown shape events s (OnWire (Sent B packet opens)) t
    → InFlight s (log_at shape events).transcript.a → InFlight t (log_at shape events).transcript.a
server_sent shape events s packet opens t known flight =
    let l = log_at shape events in
    let step = known.step in
    let sends = step.1.step.1.0 in
    let up = server_holds_up s.server (at_server s) (server_rules.server_rule s.server (at_server s)) sends.held (server_may s.server (at_server s)) sends.holds in
    let flies : ServerFlies 1 0 s.server t.server = server_flies.falls_fly 1 s.server t.server
    (server.sends_falls s.server (at_server s) packet opens t.server l.transcript.b sends (knows_at shape events s (OnWire (Sent B packet opens)) t known).rests.server.stands) in
    flight_is (record s { wire = wire_moved s.wire (Sent B packet opens); server = t.server; memory = t.memory; near = s.near }) t l.transcript.a step.1.is (record {
      few = server_puts_one s.wire.wire.end_a s.wire.wire.end_b (length s.wire.wire.to_a) (length (s.wire.wire.to_a ++ packet ∷ [])) (length s.wire.wire.to_b) s.wire.lossy (client_packets s.client)
          (server_packets s.server) (server_packets t.server) (range_count 2 (heard l.transcript.a)) (infos_begun s.client.session) up (one_longer s.wire.wire.to_a packet) flies.packets flight.few;
      pieces = flies.pieces flight.pieces;
    })

pub began : (s : LaneState) (v : ServerState) (turns said : List Utterance) → EndStands Responder (server_core s.server) said → v ≡ joined_server s.server → InFlight s turns
    → Flight (wire_moved s.wire (Joined B 0)) s.client v turns
began s v turns said stands is flight = server_anew s v turns (ap server_packets is ∙ begun_answers s.server said stands) (ap (λ (x : ServerState). x.work) is) flight

pub server_wire : (shape : Shape) (events : List DiskEvent) (s : LaneState) (event : WireEvent) (t : LaneState) → StepKnown shape events s (OnWire event) t → EndOnWire B s event t
    → InFlight s (log_at shape events).transcript.a → InFlight t (after (log_at shape events) (OnWire event)).transcript.a
server_wire shape events s (Joined B lost) t known step flight =
    flight_is (record s { wire = wire_moved s.wire (Joined B lost); server = t.server; memory = t.memory; near = s.near }) t (log_at shape events).transcript.a step.1.is
    (began s t.server (log_at shape events).transcript.a (log_at shape events).transcript.b (knows_at shape events s (OnWire (Joined B lost)) t known).rests.server.stands
    step.1.step.1.2 flight)
server_wire shape events s (Took B packet opens) t known step flight = server_took shape events s packet opens t known flight
server_wire shape events s (Sent B packet opens) t known step flight = server_sent shape events s packet opens t known flight
server_wire shape events s (Blocked B) t known step flight =
    let knows : Knows s (log_at shape events) = knows_at shape events s (OnWire (Blocked B)) t known in
    server_on s t (log_at shape events).transcript.a (ap (λ (x : LaneState). x.wire) step.1.is) (ap (λ (x : LaneState). x.client) step.1.is)
    (server_flies.falls_fly 0 s.server t.server
    (server.blocked_falls s.server (at_server s) t.server (log_at shape events).transcript.b step.1.step.1.0 knows.rests.server.stands)) flight
server_wire shape events s (Idle B) t known step flight = flight_is s t (log_at shape events).transcript.a (server_same s t step) flight
server_wire shape events s (Reset B cause packet lost) t known step flight =
    flight_is (record s { wire = wire_moved s.wire (Joined B 0); server = t.server; memory = t.memory; near = _ }) t (log_at shape events).transcript.a step.1.is
    (began s t.server (log_at shape events).transcript.a (log_at shape events).transcript.b (knows_at shape events s (OnWire (Reset B cause packet lost)) t known).rests.server.stands
    step.1.step.1.2 flight)
server_wire shape events s _ t known step flight = absurd step.1.step.1

pub end_wire : (e : End) (shape : Shape) (events : List DiskEvent) (s : LaneState) (event : WireEvent) (t : LaneState) → StepKnown shape events s (OnWire event) t → EndOnWire e s event t
    → InFlight s (log_at shape events).transcript.a → InFlight t (after (log_at shape events) (OnWire event)).transcript.a
end_wire A shape events s event t known step flight = client_wire shape events s event t known step flight
end_wire B shape events s event t known step flight = server_wire shape events s event t known step flight
