-- What an event of the wire leaves of a lane, but for the packet by which a client's session opens.
use Rattle.std.proofs.Common.{◌≡◌, ℕ, true, false, Option, None, List, sym, ap, ◌∙◌, arith}
use Rattle.ldc_queue.specs.declared.end.End.TheVariants.{A, B}
use Rattle.lane_models.specs.WireEvent.{Blocked, Idle, Joined, Reset, Sent, Took, WireEvent}
use Rattle.lane_laws.specs.DiskLog.{DiskLog}
use Rattle.lane_models.specs.ClientRule as client
use Rattle.lane_models.specs.ClientState.{ClientState, joined_client}
use Rattle.lane_models.specs.LaneState.{LaneState}
use Rattle.lane_models.specs.LaneStep.{WireStep, near_on_wire}
use Rattle.lane_models.specs.ServerRule as server
use Rattle.lane_models.specs.ServerState.{ServerState, Work}
use Rattle.lane_laws.proofs.LaneCounting.{Knows}
use Rattle.lane_laws.proofs.LaneViews.{ClientActs, ClientCalled, ClientStays, ClientView, ServerActs, ServerCalled, ServerRenewed, ServerStays, ServerView, WireBeside, at_client, at_server, lane_view, reach_of}
use Rattle.lane_models.specs.ClientStep.{ClientStep}
use Rattle.lane_models.specs.DiskEvent.{OnWire}
use Rattle.lane_models.specs.ServerStep.{ServerStep}
use Rattle.lane_laws.proofs.RingLeaves.{OpensNot}
use Rattle.lane_laws.proofs.Ruling.{client_may}
use Rattle.lane_laws.proofs.Leaving.{ClientLeaves, client_sent, client_took, held_leaves, leaves_same, server_held, server_sent, server_took}

-- the descriptor in work is dropped by a server that begins anew
abbrev pub work_on_wire : WireEvent → Option Work → Option Work
work_on_wire (Joined B lost) work = None
work_on_wire (Reset B cause packet lost) work = None
work_on_wire _ work = work

pub record QuietWire (s : LaneState) (event : WireEvent) (t : LaneState) : Type 0 where
  pub client : ClientLeaves s.client t.client
  pub near : t.near ≡ near_on_wire s event
  pub work : t.server.work ≡ work_on_wire event s.server.work

joined_leaves : (c t : ClientState) → t ≡ joined_client c → ClientLeaves c t
joined_leaves c t is = grind arith

-- THE CLIENT's part
client_leaves : (s : LaneState) (l : DiskLog) (event : WireEvent) (t : ClientState) (new : List ℕ) → Knows s l → OpensNot event
    → ClientStep s.client (at_client s) s.memory (OnWire event) t new → ClientLeaves s.client t
client_leaves s l (Joined A lost) t new knows not step = joined_leaves s.client t step.2
client_leaves s l (Took A packet opens) t new knows not step = client_took s.client l.transcript.a packet t knows.rests.client.stands.link.follows knows.rests.client.whole step.1
client_leaves s l (Sent A packet false) t new knows not step = client_sent s.client (at_client s) s.memory packet t new step
client_leaves s l (Sent A packet true) t new knows not step = absurd (cc not)
client_leaves s l (Blocked A) t new knows not step = held_leaves s.client (at_client s) (client.client_rule s.client (at_client s)) t (client_may s.client (at_client s)) step.0
client_leaves s l (Idle A) t new knows not step = leaves_same s.client t step.1
client_leaves s l (Reset A cause packet lost) t new knows not step = joined_leaves s.client t step.2
client_leaves s l _ t new knows not step = absurd step

client_quiet : (s t : LaneState) (l : DiskLog) (event : WireEvent) → Knows s l → OpensNot event → ClientView s t (OnWire event) → ClientLeaves s.client t.client
client_quiet s t l event knows not (ClientActs _ own does) = client_leaves s l event t.client t.memory knows not does
client_quiet s t l _ knows not (ClientCalled cause begins is) = joined_leaves s.client t.client is
client_quiet s t l event knows not (ClientStays _ beside is) = leaves_same s.client t.client is

-- THE SERVER's part
server_keeps_work : (s : LaneState) (l : DiskLog) (event : WireEvent) (gave : List ℕ) (t : ServerState) (new : List ℕ) → Knows s l
    → ServerStep s.server (at_server s) (reach_of s) gave (OnWire event) t new → t.work ≡ work_on_wire event s.server.work
server_keeps_work s l (Joined B lost) gave t new knows step = ap (λ (x : ServerState). x.work) step.2
server_keeps_work s l (Took B packet opens) gave t new knows step =
    server_took s.server l.transcript.b packet t opens knows.rests.server.stands.link.follows knows.rests.server.whole step.1
server_keeps_work s l (Sent B packet opens) gave t new knows step = server_sent s.server (at_server s) packet opens t step.0
server_keeps_work s l (Blocked B) gave t new knows step = server_held s.server (server.server_rule s.server (at_server s)) t step.0
server_keeps_work s l (Idle B) gave t new knows step = ap (λ (x : ServerState). x.work) step.1
server_keeps_work s l (Reset B cause packet lost) gave t new knows step = ap (λ (x : ServerState). x.work) step.2
server_keeps_work s l _ gave t new knows step = absurd step

beside_work : (event : WireEvent) (work : Option Work) → WireBeside B event → work_on_wire event work ≡ work
beside_work event work beside = grind arith

server_quiet : (s t : LaneState) (l : DiskLog) (event : WireEvent) → Knows s l → ServerView s t (OnWire event) → t.server.work ≡ work_on_wire event s.server.work
server_quiet s t l event knows (ServerActs _ gave own does) = server_keeps_work s l event gave t.server t.memory knows does
server_quiet s t l _ knows (ServerCalled cause begins is) = ap (λ (x : ServerState). x.work) is
server_quiet s t l _ knows (ServerRenewed cause renews is) = ap (λ (x : ServerState). x.work) is
server_quiet s t l event knows (ServerStays _ beside is) = ap (λ (x : ServerState). x.work) is ∙ sym (beside_work event s.server.work beside)

-- EACH EVENT
pub wire_quiet : (s : LaneState) (l : DiskLog) (event : WireEvent) (t : LaneState) → Knows s l → OpensNot event → WireStep s event t → QuietWire s event t
wire_quiet s l event t knows not step =
    let view = lane_view s (OnWire event) t step in
    record { client = client_quiet s t l event knows not view.client; near = ap (λ (x : LaneState). x.near) view.is; work = server_quiet s t l event knows view.server }
