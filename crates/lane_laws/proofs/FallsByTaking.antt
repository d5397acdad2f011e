-- A packet that an end takes lowers what remains, after every run of a lane that nobody forged.
use Rattle.std.proofs.Common.{◌≡◌, ℕ, ◌+◌, ◌<◌, ◌≤◌, Bool, false, List, [], ◌∷◌, ◌++◌, length, map, refl, ap, ◌∙◌, subst, arith}
use Rattle.runs.specs.Lawful.{log_append, log_of}
use Rattle.runs.specs.Run.{Run, run_push}
use Rattle.ldc_queue.specs.declared.end.ChannelState.TheVariants.{Up}
use Rattle.ldc_queue.specs.declared.end.End.{End}
use Rattle.ldc_queue.specs.declared.end.End.TheVariants.{A, B}
use Rattle.ldc_queue.specs.Transcript.{Heard as Heard_, Utterance}
use Rattle.lane_models.specs.Seeing.{seen}
use Rattle.lane_models.specs.WireAt.{IsUp}
use Rattle.lane_models.specs.WireEvent.{Took}
use Rattle.lane_models.specs.ClientState.{ClientState}
use Rattle.lane_models.specs.DiskEvent.{DiskEvent, OnWire}
use Rattle.lane_models.specs.LaneState.{IsShape, LaneState, Shape, fresh}
use Rattle.lane_models.specs.LaneStep.{LaneStep}
use Rattle.lane_models.specs.ServerRule as server_rules
use Rattle.lane_models.specs.ServerState.{ServerState}
use Rattle.lane_models.proofs.PacketsTaken.{unforged_took}
use Rattle.lane_models.specs.LaneCore.{end_of}
use Rattle.lane_models.specs.PacketsLeft.{packets_left}
use Rattle.lane_laws.proofs.Agreeing.{AskedWithin, asked_within}
use Rattle.lane_laws.proofs.ClientTaken.{ClientTook, client_took_what}
use Rattle.lane_laws.proofs.LaneChannel.{answers_of, asks_of, lane_matches}
use Rattle.lane_laws.proofs.LaneCores.{lane_cores, lane_fits, lane_steps}
use Rattle.lane_laws.proofs.LaneViews.{lane_view}
use Rattle.lane_laws.specs.DiskLog.{DiskLog, after, after_wire, nothing_yet}
use Rattle.lane_models.specs.WireLog.{WireLog}
use Rattle.lane_laws.proofs.LaneCounting.{Knows, run_knows}
use Rattle.lane_laws.proofs.OfferedRing.{four_cookies}
use Rattle.lane_laws.proofs.RangeSums.{sum_front}
use Rattle.lane_laws.proofs.RemainingClientPuts.{ClientFalls, ClientSpends, falls_lower}
use Rattle.lane_laws.proofs.RemainingRuns.{steps_fall}
use Rattle.lane_laws.proofs.RemainingServerTakes.{behind_ask, server_turns}
use Rattle.lane_laws.proofs.RemainingTakes.{client_took_falls, server_took_falls}
use Rattle.lane_laws.proofs.RulesFree.{ServerFree, server_free}
use Rattle.lane_laws.proofs.RuleTests.{TakesFree}
use Rattle.lane_laws.proofs.Ruling.{server_may}
use Rattle.lane_laws.proofs.ServerCounting.{no_work, opens_new}
use Rattle.lane_laws.proofs.ServerTaken.{ServerAsked, ServerTook, server_took_what}
use Rattle.lane_laws.specs.ChannelEnds.{core_event, core_of}
use Rattle.lane_laws.specs.Remaining.{asked_in, remaining}
use Rattle.lane_laws.specs.RemainingSteps.{AllDo, DoesSomething, ServerHeard, total_at}
use Rattle.lane_laws.specs.RuleFacts.{ServerMay}

-- WHAT ITS END HAS STILL TO PUT doesn't grow
took_packets : (shape : Shape) (events : List DiskEvent) (s : LaneState) (e : End) (packet : List ℕ) (opens : Bool) (t : LaneState) → IsShape shape → Run LaneStep (fresh shape) events s → s.wire.forged ≡ false
    → LaneStep s (OnWire (Took e packet opens)) t → packets_left (end_of e (core_of t)) ≤ packets_left (end_of e (core_of s))
took_packets shape events s e packet opens t sound run clean step =
    unforged_took shape.entries (asks_of shape) (answers_of shape) (map core_event events) (core_of s) e packet opens (core_of t) (lane_fits shape sound)
    (lane_matches shape sound).matched (omega (arith, four_cookies shape.slots sound.most_slots)) (omega arith) (lane_cores shape events s sound run) clean
    (lane_steps shape events s (OnWire (Took e packet opens)) t sound run step)

-- THE CLIENT
took_spends : (s t : ClientState) (turns : List Utterance) (packet : List ℕ) → ClientTook s turns packet t → ClientSpends 0 0 s t
took_spends s t turns packet took = grind arith

pub client_takes : (shape : Shape) (events : List DiskEvent) (s : LaneState) (packet : List ℕ) (opens : Bool) (t : LaneState) → IsShape shape → Run LaneStep (fresh shape) events s → s.wire.forged ≡ false
    → LaneStep s (OnWire (Took A packet opens)) t → ClientFalls 0 0 s.client t.client
client_takes shape events s packet opens t sound run clean step =
    let turns : List Utterance = (log_of after (nothing_yet shape) events).transcript.a in
    let knows = run_knows shape events s sound run in
    record {
      own = 0;
      packets = omega (arith, took_packets shape events s A packet opens t sound run clean step);
      spends = took_spends s.client t.client turns packet
          (client_took_what s.client turns packet t.client knows.rests.client.stands.link.follows knows.rests.client.whole step.step.1);
    }

client_falls : (shape : Shape) (events : List DiskEvent) (s : LaneState) (packet : List ℕ) (opens : Bool) (t : LaneState) → IsShape shape → Run LaneStep (fresh shape) events s → s.wire.forged ≡ false
    → LaneStep s (OnWire (Took A packet opens)) t → remaining t < remaining s
client_falls shape events s packet opens t sound run clean step =
    omega (arith, client_took_falls s packet opens t (falls_lower 0 0 s.client t.client (client_takes shape events s packet opens t sound run clean step)) step)

-- THE SERVER
abbrev AsksMore : LaneState → LaneState → Type 0
AsksMore s t = (asked_in s.server.session < asked_in t.server.session) × (asked_in t.server.session ≤ total_at s.wire.wire.end_a s.client)

asks_more : (s t : LaneState) (l next : DiskLog) (turns : List Utterance) (packet : List ℕ) (opens : Bool) → (asks : ServerAsked s.server turns packet t.server opens) → l.transcript.b ≡ turns → next.transcript.b ≡ Heard_ packet ∷ turns
    → next.shape.slots ≡ l.shape.slots → t.client ≡ s.client → t.wire.wire.end_a ≡ s.wire.wire.end_a → AskedWithin s l asks.info.session
    → AskedWithin t next (behind_ask s.server asks.info.session asks.info.range)
    → AsksMore s t
asks_more s t l next turns packet opens asks transcript then_transcript shape client wire was now = grind (arith, sum_front)

by_asked : (shape : Shape) (events : List DiskEvent) (s : LaneState) (packet : List ℕ) (opens : Bool) (t : LaneState) → IsShape shape → Run LaneStep (fresh shape) events s → s.wire.forged ≡ false → IsUp B s.wire.wire
    → LaneStep s (OnWire (Took B packet opens)) t → ServerAsked s.server (log_of after (nothing_yet shape) events).transcript.b packet t.server opens → AsksMore s t
by_asked shape events s packet opens t sound run clean up step asks =
    let l = log_of after (nothing_yet shape) events in
    let event = OnWire (Took B packet opens) in
    let more : List DiskEvent = events ++ event ∷ [] in
    let then_run : Run LaneStep (fresh shape) more t = run_push LaneStep (fresh shape) s t events event run step in
    let behind : log_of after (nothing_yet shape) more ≡ after l event = log_append after (nothing_yet shape) events (event ∷ []) in
    let clean_t : t.wire.forged ≡ false = ap (λ (x : LaneState). x.wire.forged) step.1.is ∙ clean in
    let up_t : t.wire.wire.end_b ≡ Up = ap (λ (x : LaneState). x.wire.wire.end_b) step.1.is ∙ up in
    let now = asked_within shape more t (behind_ask s.server asks.info.session asks.info.range) sound then_run clean_t up_t (ap (λ (v : ServerState). v.session) asks.is) in
    asks_more s t l (after l event) l.transcript.b packet opens asks refl refl refl (ap (λ (x : LaneState). x.client) step.1.is) (ap (λ (x : LaneState). x.wire.wire.end_a) step.1.is)
    (asked_within shape events s asks.info.session sound run clean up asks.info.session_is) (subst (λ (x : DiskLog). AskedWithin t x (behind_ask s.server asks.info.session asks.info.range)) behind now)

pub server_takes : (shape : Shape) (events : List DiskEvent) (s : LaneState) (packet : List ℕ) (opens : Bool) (t : LaneState) → IsShape shape → Run LaneStep (fresh shape) events s → s.wire.forged ≡ false
    → LaneStep s (OnWire (Took B packet opens)) t → ServerHeard (total_at s.wire.wire.end_a s.client) s.server t.server
server_takes shape events s packet opens t sound run clean step =
    let l = log_of after (nothing_yet shape) events in
    let at = seen B s.shape.entries s.wire.wire in
    let knows : Knows s l = run_knows shape events s sound run in
    let may : ServerMay s.server at (server_rules.Takes packet) = subst (ServerMay s.server at) step.1.step.1.0 (server_may s.server at) in
    let free : TakesFree s.server = subst (ServerFree s.server) step.1.step.1.0 (server_free s.server at) in
    let took = server_took_what s.server l.transcript.b packet t.server opens knows.rests.server.stands.link.follows knows.rests.server.whole step.1.step.1.1 in
    server_turns (total_at s.wire.wire.end_a s.client) s.server t.server l.transcript.b packet opens free (took_packets shape events s B packet opens t sound run clean step)
    (λ is.
    let none = opens_new s.server t.server l.transcript.b packet knows.rests.server (subst (λ (b : Bool). ServerTook s.server l.transcript.b packet t.server b) is took) in
    (none, no_work s.server.session s.server.work l.work.server none knows.counted.server.agrees))
    (by_asked shape events s packet opens t sound run clean may.0 step) took

server_falls : (shape : Shape) (events : List DiskEvent) (s : LaneState) (packet : List ℕ) (opens : Bool) (t : LaneState) → IsShape shape → Run LaneStep (fresh shape) events s → s.wire.forged ≡ false
    → LaneStep s (OnWire (Took B packet opens)) t → remaining t < remaining s
server_falls shape events s packet opens t sound run clean step =
    omega (arith, server_took_falls s packet opens t (server_takes shape events s packet opens t sound run clean step) step)

pub took_falls : (shape : Shape) (events : List DiskEvent) (s : LaneState) (e : End) (packet : List ℕ) (opens : Bool) (t : LaneState) → IsShape shape → Run LaneStep (fresh shape) events s → s.wire.forged ≡ false
    → LaneStep s (OnWire (Took e packet opens)) t → remaining t < remaining s
took_falls shape events s A packet opens t sound run clean step = client_falls shape events s packet opens t sound run clean step
took_falls shape events s B packet opens t sound run clean step = server_falls shape events s packet opens t sound run clean step

-- EACH STEP by which an end does something
does_falls : (shape : Shape) (events : List DiskEvent) (s : LaneState) (event : DiskEvent) (t : LaneState) → IsShape shape → Run LaneStep (fresh shape) events s → s.wire.forged ≡ false → LaneStep s event t
    → DoesSomething event → remaining t < remaining s
does_falls shape events s event t sound run clean step does = grind (arith, took_falls, steps_fall)

unforged_wire : (w : WireLog) (event : DiskEvent) → DoesSomething event → (after_wire w event).forged ≡ w.forged
unforged_wire w event does = grind arith

does_clean : (s : LaneState) (event : DiskEvent) (t : LaneState) → LaneStep s event t → DoesSomething event → s.wire.forged ≡ false → t.wire.forged ≡ false
does_clean s event t step does clean = ap (λ (x : LaneState). x.wire.forged) (lane_view s event t step).is ∙ unforged_wire s.wire event does ∙ clean

-- so many of them lower it by so much at least
pub many_fall : (shape : Shape) (events : List DiskEvent) (s : LaneState) (more : List DiskEvent) (t : LaneState) → IsShape shape → Run LaneStep (fresh shape) events s → s.wire.forged ≡ false
    → Run LaneStep s more t → AllDo more → remaining t + length more ≤ remaining s
many_fall shape events s [] t sound run clean steps all = subst (λ (x : LaneState). remaining x + 0 ≤ remaining s) steps (omega arith)
many_fall shape events s (event ∷ more) t sound run clean steps all =
    let m : LaneState = steps.0 in
    let one : remaining m < remaining s = does_falls shape events s event m sound run clean steps.1 all.0 in
    let rest : remaining t + length more ≤ remaining m =
    many_fall shape (events ++ event ∷ []) m more t sound (run_push LaneStep (fresh shape) s m events event run steps.1) (does_clean s event m steps.1 all.0 clean) steps.2 all.1 in
    omega (arith, one, rest)
