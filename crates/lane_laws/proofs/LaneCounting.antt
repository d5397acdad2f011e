-- Each event of a lane leaves the sessions of both ends counting what they said and heard, as its log does.
use Rattle.std.proofs.Common.{◌≡◌, ℕ, ◌-◌, ◌≤◌, length, Bool, Option, None, List, [], ◌∷◌, sym, ap, ◌∙◌, subst, arith}
use Rattle.std.specs.Prelude.{⊤}
use Rattle.runs.specs.Lawful.{log_of, run_lawful}
use Rattle.runs.specs.Run.{Run}
use Rattle.ldc_queue.specs.declared.end.End.TheVariants.{A, B}
use Rattle.ldc_queue.specs.Transcript.{Heard as Heard_, Said, Utterance}
use Rattle.vdisk_msg.specs.declared.request.Request.{Request}
use Rattle.lane_models.specs.TranscriptLog.{nothing_said}
use Rattle.lane_models.specs.Sayings.{half_heard, half_said}
use Rattle.lane_models.specs.WireEvent.{Blocked, Idle, Joined, Reset, Sent, Took}
use Rattle.lane_laws.specs.DiskLog.{DiskLog, after, nothing_yet}
use Rattle.lane_models.specs.Messages.{opening_sid}
use Rattle.lane_laws.specs.WorkLog.{ClientCounts, opened_client, opened_counts}
use Rattle.lane_models.specs.ClientPutting.{client_kind, client_opens, is_announcing}
use Rattle.lane_models.specs.ClientRule as client_rules
use Rattle.lane_models.specs.ClientState.{ClientState, first_id, joined_client}
use Rattle.lane_models.specs.ClientStep.{ClientSends, ClientStep}
use Rattle.lane_models.specs.DiskEvent.{Desc, DiskEvent, Done, Finished, Moved, OnWire, Published, Stored, Works}
use Rattle.lane_models.specs.EndPuts.{ComesUp, EndsOwn, EndsHandshake, Goes, PutKind, put_opens}
use Rattle.lane_models.specs.LaneState.{IsShape, LaneState, Shape, fresh}
use Rattle.lane_models.specs.LaneStep.{LaneStep}
use Rattle.lane_models.specs.Seeing.{seen}
use Rattle.lane_models.specs.ServerRule as server_rules
use Rattle.lane_models.specs.ServerState.{ServerState, joined_server}
use Rattle.lane_laws.proofs.LaneViews.{ClientSide, ServerSide, at_client, at_server, client_keeps, client_side, reach_of, server_keeps, server_side}
use Rattle.lane_models.specs.ServerStep.{ServerStep}
use Rattle.lane_laws.proofs.CarriedRuns.{AllStand, all_step, fresh_all}
use Rattle.lane_laws.proofs.ClientCounting.{acks_more, client_begins_counting, client_takes_counting}
use Rattle.lane_laws.proofs.ClientHolding.{client_held}
use Rattle.lane_laws.proofs.ClientPutCounting.{comes_counting, counts_as, goes_counting, own_counting, put_as}
use Rattle.lane_laws.proofs.Speaking.{client_blocked_rests, client_blocked_utters, fresh_rests, lane_utters, rests_step}
use Rattle.lane_laws.proofs.ClientTaken.{client_took_what}
use Rattle.lane_laws.proofs.ClientWorkCounting.{client_admits_counting, client_completes_counting, client_holds_counting, client_publishes_counting, handshake_counting}
use Rattle.lane_models.proofs.PutSayings.{PutSays, put_says}
use Rattle.lane_laws.proofs.RulesFree.{ServerFree, owes_nothing, server_free}
use Rattle.lane_laws.proofs.RuleTests.{TakesFree}
use Rattle.lane_laws.proofs.Requesting.{KeepsRequests, first_done, held_kept}
use Rattle.lane_laws.proofs.Ruling.{client_may}
use Rattle.lane_laws.proofs.ServerCounting.{server_begins_counting, server_restarts_counting, server_takes_counting}
use Rattle.lane_laws.proofs.ServerEndCounting.{server_fetches_counting, server_finishes_counting, server_puts_counting}
use Rattle.lane_laws.proofs.ServerPutCounting.{answers_more, server_holds_counting}
use Rattle.lane_laws.proofs.ServerTaken.{server_took_what}
use Rattle.lane_laws.proofs.ServerWorkCounting.{server_moves_counting, server_stores_counting}
use Rattle.lane_laws.specs.Counted.{ClientCounted, LaneCounted, ServerCounted}
use Rattle.lane_laws.specs.LaneRests.{ClientRests, ClientUtters, LaneRests, LaneUtters}
use Rattle.lane_laws.specs.Sound.{ClientSound}

-- what is known of a lane before an event
pub record Knows (s : LaneState) (l : DiskLog) : Type 0 where
  pub all : AllStand s l
  pub rests : LaneRests s l.transcript
  pub utters : LaneUtters s l.transcript
  pub counted : LaneCounted s l

pub few_slots : (s : LaneState) (l : DiskLog) → Knows s l → l.shape.slots ≤ 256
few_slots s l knows = omega (arith, knows.counted.client.slots, knows.all.sound.slots)

-- THE CLIENT puts a packet
put_counting : (kind : PutKind) (shape : Shape) (c : ClientState) (turns : List Utterance) (packet : List ℕ) (sid done : ℕ) (k : Option ClientCounts) → ClientSound c → ClientRests c turns
    → ClientUtters c turns → first_id c ≡ done → PutSays kind (is_announcing c.session) c.link turns packet → ClientCounted shape c turns done k
    → ClientCounted shape (put_as kind c) (Said packet ∷ turns) done (counts_as shape (put_opens kind c.handshake) turns packet sid done k)
put_counting Goes shape c turns packet sid done k sound rests utters first says counted = goes_counting shape c turns packet sid done k says counted
put_counting ComesUp shape c turns packet sid done k sound rests utters first says counted = comes_counting shape c turns packet sid done k rests utters says.1 says.0 counted
put_counting EndsOwn shape c turns packet sid done k sound rests utters first says counted = own_counting shape c turns packet sid done k sound says.1 says.0 counted
put_counting EndsHandshake shape c turns packet sid done k sound rests utters first says counted = handshake_counting shape c turns packet sid done k rests first says.1 says.0 counted

client_puts : (s : LaneState) (l : DiskLog) (packet : List ℕ) (opens : Bool) (t : ClientState) (new : List ℕ) (sid : ℕ) → Knows s l
    → ClientSends s.client (seen A s.shape.entries s.wire.wire) s.memory packet opens t new
    → ClientCounted l.shape t (Said packet ∷ l.transcript.a) l.work.done (counts_as l.shape opens l.transcript.a packet sid l.work.done l.work.client)
client_puts s l packet opens t new sid knows sends =
    let at = seen A s.shape.entries s.wire.wire in
    let rule = client_rules.client_rule s.client at in
    let held = sends.held in
    let sound : ClientSound held = client_held s.client at rule held (client_may s.client at) sends.holds knows.all.sound in
    let rests : ClientRests held l.transcript.a = client_blocked_rests s.client at held l.transcript.a knows.all.sound sends.holds knows.rests.client in
    let utters : ClientUtters held l.transcript.a = client_blocked_utters s.client at held l.transcript.a knows.all.sound sends.holds knows.rests.client in
    let kept : KeepsRequests s.client held = held_kept s.client at rule held (client_may s.client at) sends.holds in
    let first : first_id held ≡ l.work.done =
    ap (λ (n : ℕ). n - length held.pending) kept.next ∙ ap (λ (xs : List Request). s.client.next_id - length xs) kept.pending ∙ sym (first_done s.client l.work knows.all.stands.requests) in
    let counted = client_holds_counting l.shape s.client at rule held l.transcript.a l.work.done l.work.client knows.all.sound knows.rests.client knows.utters.client
    (client_may s.client at) sends.holds knows.counted.client in
    let says = put_says (is_announcing held.session) held.link t.link l.transcript.a packet rests.stands.link.follows sends.packet in
    subst (λ (b : Bool). ClientCounted l.shape t (Said packet ∷ l.transcript.a) l.work.done (counts_as l.shape b l.transcript.a packet sid l.work.done l.work.client)) (sym sends.opens_is)
    (subst (λ (x : ClientState). ClientCounted l.shape x (Said packet ∷ l.transcript.a) l.work.done (counts_as l.shape (client_opens held) l.transcript.a packet sid l.work.done l.work.client)) (sym sends.is)
    (put_counting (client_kind held) l.shape held l.transcript.a packet sid l.work.done l.work.client sound rests utters first says counted))

-- THE CLIENT's steps
abbrev CountsClient : DiskLog → ClientState → ClientSide → Type 0
CountsClient l c side = ClientCounted l.shape c side.utterances side.done side.counts

client_joins : (s : LaneState) (l : DiskLog) → Knows s l → ClientCounted l.shape (joined_client s.client) [] l.work.done None
client_joins s l knows = client_begins_counting l.shape s.client l.transcript.a l.work.done l.work.client knows.counted.client

client_steps : (s : LaneState) (l : DiskLog) → Knows s l → (event : DiskEvent) (t : ClientState) (new : List ℕ) → ClientStep s.client (at_client s) s.memory event t new
    → CountsClient l t (client_side (after l event))
client_steps s l knows (OnWire (Joined A lost)) t new step = subst (λ (c : ClientState). ClientCounted l.shape c [] l.work.done None) (sym step.2) (client_joins s l knows)
client_steps s l knows (OnWire (Took A packet opens)) t new step =
    let took = client_took_what s.client l.transcript.a packet t knows.rests.client.stands.link.follows knows.rests.client.whole step.1 in
    let counted = client_takes_counting l.shape s.client t l.transcript.a packet l.work.done l.work.client knows.rests.client (owes_nothing s.client (at_client s) packet step.0)
    knows.counted.client took in
    subst (λ (b : Bool). ClientCounted l.shape t (Heard_ packet ∷ l.transcript.a) l.work.done
    (opened_client b (opening_sid (half_heard l.transcript.a) packet) l.work.done (acks_more l.shape l.transcript.a packet l.work.client))) (sym step.2) counted
client_steps s l knows (OnWire (Sent A packet opens)) t new step = client_puts s l packet opens t new (opening_sid (half_said l.transcript.a) packet) knows step
client_steps s l knows (OnWire (Blocked A)) t new step =
    client_holds_counting l.shape s.client (at_client s) (client_rules.client_rule s.client (at_client s)) t l.transcript.a l.work.done l.work.client knows.all.sound knows.rests.client
    knows.utters.client (client_may s.client (at_client s)) step.0 knows.counted.client
client_steps s l knows (OnWire (Idle A)) t new step = subst (λ (c : ClientState). CountsClient l c (client_side l)) (sym step.1) knows.counted.client
client_steps s l knows (OnWire (Reset A cause packet lost)) t new step = subst (λ (c : ClientState). ClientCounted l.shape c [] l.work.done None) (sym step.2) (client_joins s l knows)
client_steps s l knows (Works (Published id)) t new step =
    client_publishes_counting l.shape s.client (at_client s) s.memory id t new l.transcript.a l.work.done l.work.client knows.all.sound knows.rests.client step knows.counted.client
client_steps s l knows (Works (Done id operation status bytes)) t new step =
    client_completes_counting l.shape s.client (at_client s) s.memory id operation status bytes t new l.transcript.a l.work.done l.work.client step knows.counted.client
client_steps s l knows _ t new step = absurd step

-- THE SERVER's steps
abbrev CountsServer : DiskLog → ServerState → ServerSide → Type 0
CountsServer l v side = ServerCounted l.shape v side.utterances side.counts

server_joins : (s : LaneState) (l : DiskLog) → Knows s l → ServerCounted l.shape (joined_server s.server) [] None
server_joins s l knows = server_begins_counting l.shape s.server l.transcript.b l.work.server knows.counted.server

server_steps : (s : LaneState) (l : DiskLog) → Knows s l → (event : DiskEvent) (gave : List ℕ) (t : ServerState) (new : List ℕ)
    → ServerStep s.server (at_server s) (reach_of s) gave event t new → CountsServer l t (server_side (after l event))
server_steps s l knows (OnWire (Joined B lost)) gave t new step = subst (λ (v : ServerState). ServerCounted l.shape v [] None) (sym step.2) (server_joins s l knows)
server_steps s l knows (OnWire (Took B packet opens)) gave t new step =
    let took = server_took_what s.server l.transcript.b packet t opens knows.rests.server.stands.link.follows knows.rests.server.whole step.1 in
    let free : TakesFree s.server = subst (ServerFree s.server) step.0 (server_free s.server (at_server s)) in
    server_takes_counting l.shape s.server t l.transcript.b packet (opening_sid (half_heard l.transcript.b) packet) l.work.server opens knows.rests.server knows.utters.server free
    knows.counted.server took
server_steps s l knows (OnWire (Sent B packet opens)) gave t new step =
    let both = server_puts_counting l.shape s.server (at_server s) packet opens t l.transcript.b l.work.server (few_slots s l knows) step.0 knows.rests.server knows.utters.server knows.counted.server in
    subst (λ (b : Bool). ServerCounted l.shape t (Said packet ∷ l.transcript.b)
    (opened_counts b (opening_sid (half_said l.transcript.b) packet) (answers_more l.shape l.transcript.b packet l.work.server))) (sym both.1) both.0
server_steps s l knows (OnWire (Blocked B)) gave t new step =
    server_holds_counting l.shape s.server (server_rules.server_rule s.server (at_server s)) t l.transcript.b l.work.server knows.rests.server knows.utters.server
    (server_free s.server (at_server s)) step.0 knows.counted.server
server_steps s l knows (OnWire (Idle B)) gave t new step = subst (λ (v : ServerState). CountsServer l v (server_side l)) (sym step.1) knows.counted.server
server_steps s l knows (OnWire (Reset B cause packet lost)) gave t new step = subst (λ (v : ServerState). ServerCounted l.shape v [] None) (sym step.2) (server_joins s l knows)
server_steps s l knows (Works (Desc slot bytes)) gave t new step =
    server_fetches_counting l.shape s.server (at_server s) (reach_of s) slot bytes t new l.transcript.b l.work.server knows.rests.server step.0 knows.counted.server
server_steps s l knows (Works (Moved unit fault)) gave t new step =
    server_moves_counting l.shape s.server (at_server s) (reach_of s) unit fault t new l.transcript.b l.work.server knows.rests.server step.0 knows.counted.server
server_steps s l knows (Works (Stored operation block count failed)) gave t new step =
    server_stores_counting l.shape s.server (at_server s) operation block count failed gave t l.transcript.b l.work.server knows.rests.server step.0 knows.counted.server
server_steps s l knows (Works (Finished slot status)) gave t new step =
    server_finishes_counting l.shape s.server (at_server s) (reach_of s) slot status t new l.transcript.b l.work.server knows.rests.server step.0 knows.counted.server
server_steps s l knows _ gave t new step = absurd step

-- EACH EVENT
counted_step : (s : LaneState) (event : DiskEvent) (t : LaneState) (l : DiskLog) → Knows s l → LaneStep s event t → LaneCounted t (after l event)
counted_step s event t l knows step = record {
  client = client_keeps (CountsClient l) s l event t (record {
    now = knows.counted.client;
    acts = client_steps s l knows;
    asked = λ request c admits. client_admits_counting l.shape s.client request c l.transcript.a l.work.done l.work.client admits knows.counted.client;
    joined = client_joins s l knows;
  }) step;
  server = server_keeps (CountsServer l) s l event t (record {
    now = knows.counted.server;
    acts = server_steps s l knows;
    joined = server_joins s l knows;
    renewed = server_restarts_counting l.shape s.server l.transcript.b l.work.server knows.counted.server;
  }) step;
}

-- ALONG EVERY RUN
pub knows_step : (s : LaneState) (l : DiskLog) (event : DiskEvent) (t : LaneState) → Knows s l → LaneStep s event t → ⊤ × Knows t (after l event)
knows_step s l event t knows step = (
  tt,
  record {
    all = (all_step s l event t knows.all step).1;
    rests = rests_step s event t l.transcript knows.all.sound knows.rests step;
    utters = lane_utters t (after l event).transcript (rests_step s event t l.transcript knows.all.sound knows.rests step);
    counted = counted_step s event t l knows step;
  },
)

pub fresh_counted : (shape : Shape) → LaneCounted (fresh shape) (nothing_yet shape)
fresh_counted shape = grind arith

pub run_knows : (shape : Shape) (events : List DiskEvent) (s : LaneState) → IsShape shape → Run LaneStep (fresh shape) events s → Knows s (log_of after (nothing_yet shape) events)
run_knows shape events s sound run =
    (run_lawful LaneStep (λ (l : DiskLog) (e : DiskEvent). ⊤) after Knows knows_step (fresh shape) s (nothing_yet shape) events
    (record { all = fresh_all shape sound; rests = fresh_rests shape sound; utters = lane_utters (fresh shape) nothing_said (fresh_rests shape sound); counted = fresh_counted shape }) run).1

-- the shape of the log is the lane's
pub counted_client : (shape : Shape) (s : LaneState) (l : DiskLog) → l.shape ≡ shape → Knows s l → ClientCounted shape s.client l.transcript.a l.work.done l.work.client
counted_client shape s l is knows = subst (λ (x : Shape). ClientCounted x s.client l.transcript.a l.work.done l.work.client) is knows.counted.client

pub counted_server : (shape : Shape) (s : LaneState) (l : DiskLog) → l.shape ≡ shape → Knows s l → ServerCounted shape s.server l.transcript.b l.work.server
counted_server shape s l is knows = subst (λ (x : Shape). ServerCounted x s.server l.transcript.b l.work.server) is knows.counted.server
