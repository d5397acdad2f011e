-- A packet that is taken lowers what remains, where the end that takes it has no more to put than before, and a server is asked for what
-- its client announced.
use Rattle.std.proofs.Common.{◌≡◌, ℕ, ◌+◌, ◌≤◌, Bool, Some, List, [], ◌∷◌, length, drop, subst, arith, inl, inr, length-drop}
use Rattle.std.specs.Prelude.{slice_get}
use Rattle.ldc_queue.specs.declared.end.ChannelState.TheVariants.{Up}
use Rattle.ldc_queue.specs.declared.end.End.TheVariants.{A, B}
use Rattle.ldc_queue.specs.Wire.{Wire, taken_for}
use Rattle.lane_models.specs.WireEvent.{Took}
use Rattle.lane_models.specs.WireLog.{wire_moved}
use Rattle.lane_models.specs.ClientRule as client_rules
use Rattle.lane_models.specs.ClientState.{ClientState}
use Rattle.lane_models.specs.DiskEvent.{OnWire}
use Rattle.lane_models.specs.LaneState.{LaneState}
use Rattle.lane_models.specs.LaneStep.{LaneStep}
use Rattle.lane_models.specs.ServerRule as server_rules
use Rattle.lane_models.specs.ServerState.{ServerState}
use Rattle.lane_laws.proofs.RemainingClientPuts.{ClientLowers}
use Rattle.lane_laws.proofs.RemainingLane.{falls_is, left}
use Rattle.lane_laws.proofs.LaneViews.{at_client, at_server}
use Rattle.lane_laws.proofs.Ruling.{client_may, server_may}
use Rattle.lane_laws.specs.Remaining.{remaining}
use Rattle.lane_laws.specs.RemainingSteps.{ServerHears, ServerIsAsked, ServerHeard, total_at}
use Rattle.lane_laws.specs.RuleFacts.{ClientMay, ServerMay}

-- a packet that waits is one more
pub first_gone : (packet : List ℕ) (packets : List (List ℕ)) → slice_get packets 0 ≡ Some packet → length (drop 1 packets) + 1 ≡ length packets
first_gone packet [] is = absurd (cc)
first_gone packet (one ∷ packets) is = omega (arith, length-drop 1 (one ∷ packets))

-- THE CLIENT
client_took : (w : Wire) (lossy : Bool) (c t : ClientState) (v : ServerState) (packet : List ℕ) → w.end_a ≡ Up → slice_get w.to_a 0 ≡ Some packet → ClientLowers 0 c t
    → left (taken_for A w) lossy t v + 1 ≤ left w lossy c v
client_took w lossy c t v packet up first lower = grind arith

-- THE SERVER
server_hears : (w : Wire) (lossy : Bool) (c : ClientState) (v u : ServerState) (packet : List ℕ) → w.end_b ≡ Up → slice_get w.to_b 0 ≡ Some packet → ServerHears v u
    → left (taken_for B w) lossy c u + 1 ≤ left w lossy c v
server_hears w lossy c v u packet up first hears = grind arith

server_is_asked : (w : Wire) (lossy : Bool) (c : ClientState) (v u : ServerState) (packet : List ℕ) (count : ℕ) → w.end_b ≡ Up → slice_get w.to_b 0 ≡ Some packet
    → ServerIsAsked (total_at w.end_a c) count v u → left (taken_for B w) lossy c u + 1 ≤ left w lossy c v
server_is_asked w lossy c v u packet count up first asks = grind arith

server_took : (w : Wire) (lossy : Bool) (c : ClientState) (v u : ServerState) (packet : List ℕ) → w.end_b ≡ Up → slice_get w.to_b 0 ≡ Some packet
    → ServerHeard (total_at w.end_a c) v u → left (taken_for B w) lossy c u + 1 ≤ left w lossy c v
server_took w lossy c v u packet up first (inl hears) = server_hears w lossy c v u packet up first hears
server_took w lossy c v u packet up first (inr asks) = server_is_asked w lossy c v u packet asks.0 up first asks.1

-- THE LANE
pub client_took_falls : (s : LaneState) (packet : List ℕ) (opens : Bool) (t : LaneState) → ClientLowers 0 s.client t.client → LaneStep s (OnWire (Took A packet opens)) t
    → remaining t + 1 ≤ remaining s
client_took_falls s packet opens t lower step =
    let may : ClientMay s.client (at_client s) (client_rules.Takes packet) = subst (ClientMay s.client (at_client s)) step.step.0 (client_may s.client (at_client s)) in
    falls_is s t (record s { wire = wire_moved s.wire (Took A packet opens); client = t.client; memory = t.memory; near = s.near }) step.is
    (client_took s.wire.wire s.wire.lossy s.client t.client s.server packet may.0 may.1 lower)

pub server_took_falls : (s : LaneState) (packet : List ℕ) (opens : Bool) (t : LaneState) → ServerHeard (total_at s.wire.wire.end_a s.client) s.server t.server
    → LaneStep s (OnWire (Took B packet opens)) t → remaining t + 1 ≤ remaining s
server_took_falls s packet opens t turn step =
    let may : ServerMay s.server (at_server s) (server_rules.Takes packet) = subst (ServerMay s.server (at_server s)) step.1.step.1.0 (server_may s.server (at_server s)) in
    falls_is s t (record s { wire = wire_moved s.wire (Took B packet opens); server = t.server; memory = t.memory; near = s.near }) step.1.is
    (server_took s.wire.wire s.wire.lossy s.client s.server t.server packet may.0 may.1 turn)
