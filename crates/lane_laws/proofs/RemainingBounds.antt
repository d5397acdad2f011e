-- What remains on a lane that begins: at most so much, exactly.
use Rattle.std.proofs.Common.{◌≡◌, ℕ, ◌+◌, ◌*◌, ◌<◌, Bool, true, Option, List, length, refl, sym, ap, ◌∙◌, subst, arith}
use Rattle.ldc_queue.specs.declared.end.ChannelState.TheVariants.{Up}
use Rattle.ldc_queue.specs.declared.end.End.{End}
use Rattle.ldc_queue.specs.declared.end.End.TheVariants.{A, B}
use Rattle.ldc_queue.specs.Transcript.{Utterance}
use Rattle.ldc_queue.specs.Wire.{Wire}
use Rattle.ldc_link.specs.declared.phase.Role.TheVariants.{Initiator, Responder}
use Rattle.lane_models.specs.TranscriptLog.{TranscriptLog}
use Rattle.lane_models.specs.Standing.{EndStands}
use Rattle.vio_tag.specs.declared.cause.Cause.{Cause}
use Rattle.lane_models.specs.WireAt.{IsUp}
use Rattle.lane_models.specs.WireEvent.{ByRestart, ByScript, ByStep, ByTick, Giver, Reset, giver}
use Rattle.lane_models.specs.WireLog.{lossy_behind, wire_moved}
use Rattle.lane_models.specs.ClientState.{ClientState, joined_client}
use Rattle.lane_models.specs.DiskEvent.{OnWire}
use Rattle.lane_models.specs.LaneState.{LaneState, Shape, fresh, near_disturbed}
use Rattle.lane_models.specs.LaneStep.{CallsReset, EndOnWire, LaneStep, ResetBy}
use Rattle.lane_models.specs.ServerState.{ServerState, joined_server, restarted_server}
use Rattle.lane_laws.proofs.RemainingLane.{begun_server, joined_a, joined_b, left}
use Rattle.lane_laws.specs.Remaining.{asked_in, remaining, server_remaining}
use Rattle.lane_laws.specs.ChannelEnds.{client_core, server_core}

-- both ends stand by their roles
pub record EndsStand (s : LaneState) (transcript : TranscriptLog) : Type 0 where
  pub client : EndStands Initiator (client_core s.client) transcript.a
  pub server : EndStands Responder (server_core s.server) transcript.b

pub fresh_remains : (shape : Shape) → remaining (fresh shape) ≡ 36
fresh_remains shape = omega arith

-- THE CLIENT is reset, which was up
begins_a : (w : Wire) (lossy : Bool) (c : ClientState) (v : ServerState) (turns : List Utterance) → EndStands Initiator (client_core c) turns → w.end_a ≡ Up
    → left (joined_a w.end_a w) (lossy_behind w.end_a lossy) (joined_client c) v ≡ 35 + 16 * length c.pending
begins_a w lossy c v turns stands up = grind arith

-- THE SERVER is reset, which was up
begins_b : (w : Wire) (lossy : Bool) (c : ClientState) (u : ServerState) → server_remaining Up u ≡ 16 → asked_in u.session ≡ 0 → w.end_b ≡ Up
    → left (joined_b w.end_b w) (lossy_behind w.end_b lossy) c u ≡ 35 + 16 * length c.pending
begins_b w lossy c u begun none up = grind arith

-- A RESET, whoever gave it
begins_is : (s t u : LaneState) (pending : ℕ) → t ≡ u → remaining u ≡ 35 + 16 * pending → remaining t ≡ 35 + 16 * pending
begins_is s t u pending is remains = ap remaining is ∙ remains

by_step : (e : End) (s : LaneState) (cause : Cause) (packet : Option (List ℕ)) (lost : ℕ) (t : LaneState) (transcript : TranscriptLog) → EndsStand s transcript → IsUp e s.wire.wire
    → EndOnWire e s (Reset e cause packet lost) t → remaining t ≡ 35 + 16 * length s.client.pending
by_step A s cause packet lost t transcript stand up step =
    begins_is s t (record s { wire = wire_moved s.wire (Reset A cause packet lost); client = t.client; memory = t.memory; near = near_disturbed s.client }) (length s.client.pending) step.is
    (subst (λ (c : ClientState). left (joined_a s.wire.wire.end_a s.wire.wire) (lossy_behind s.wire.wire.end_a s.wire.lossy) c s.server ≡ 35 + 16 * length s.client.pending) (sym step.step.2)
    (begins_a s.wire.wire s.wire.lossy s.client s.server transcript.a stand.client up))
by_step B s cause packet lost t transcript stand up step =
    begins_is s t (record s { wire = wire_moved s.wire (Reset B cause packet lost); server = t.server; memory = t.memory; near = near_disturbed s.client }) (length s.client.pending) step.1.is
    (subst (λ (v : ServerState). left (joined_b s.wire.wire.end_b s.wire.wire) (lossy_behind s.wire.wire.end_b s.wire.lossy) s.client v ≡ 35 + 16 * length s.client.pending) (sym step.1.step.1.2)
    (begins_b s.wire.wire s.wire.lossy s.client (joined_server s.server) (begun_server s.server transcript.b stand.server) refl up))

client_called : (s : LaneState) (cause : Cause) (packet : Option (List ℕ)) (lost : ℕ) (t : LaneState) (transcript : TranscriptLog) → EndsStand s transcript → s.wire.wire.end_a ≡ Up
    → CallsReset s (record s { client = joined_client s.client }) cause A packet lost t → remaining t ≡ 35 + 16 * length s.client.pending
client_called s cause packet lost t transcript stand up calls = search (begins_is, begins_a)

server_called : (s : LaneState) (u : ServerState) (cause : Cause) (packet : Option (List ℕ)) (lost : ℕ) (t : LaneState) → server_remaining Up u ≡ 16 → asked_in u.session ≡ 0
    → s.wire.wire.end_b ≡ Up → CallsReset s (record s { server = u }) cause B packet lost t → remaining t ≡ 35 + 16 * length s.client.pending
server_called s u cause packet lost t begun none up calls = search (begins_is, begins_b)

reset_by : (by : Giver) (e : End) (s : LaneState) (cause : Cause) (packet : Option (List ℕ)) (lost : ℕ) (t : LaneState) (transcript : TranscriptLog) → EndsStand s transcript
    → IsUp e s.wire.wire → ResetBy by e s cause packet lost t → remaining t ≡ 35 + 16 * length s.client.pending
reset_by ByStep e s cause packet lost t transcript stand up step = by_step e s cause packet lost t transcript stand up step
reset_by ByScript A s cause packet lost t transcript stand up step = client_called s cause packet lost t transcript stand up step
reset_by ByScript B s cause packet lost t transcript stand up step =
    server_called s (joined_server s.server) cause packet lost t (begun_server s.server transcript.b stand.server) refl up step.1
reset_by ByRestart A s cause packet lost t transcript stand up step = absurd step
reset_by ByRestart B s cause packet lost t transcript stand up step = server_called s (restarted_server s.server) cause packet lost t refl refl up step.1
reset_by ByTick A s cause packet lost t transcript stand up step = client_called s cause packet lost t transcript stand up step.1
reset_by ByTick B s cause packet lost t transcript stand up step = absurd step

pub reset_remains : (s : LaneState) (e : End) (cause : Cause) (packet : Option (List ℕ)) (lost : ℕ) (t : LaneState) (transcript : TranscriptLog) → EndsStand s transcript → IsUp e s.wire.wire
    → LaneStep s (OnWire (Reset e cause packet lost)) t → remaining t ≡ 35 + 16 * length s.client.pending
reset_remains s e cause packet lost t transcript stand up step = reset_by (giver cause) e s cause packet lost t transcript stand up step

-- where a packet was lost, that is less than remained
pub reset_falls : (s : LaneState) (e : End) (cause : Cause) (packet : Option (List ℕ)) (lost : ℕ) (t : LaneState) (transcript : TranscriptLog) → EndsStand s transcript → IsUp e s.wire.wire
    → s.wire.lossy ≡ true → LaneStep s (OnWire (Reset e cause packet lost)) t → remaining t < remaining s
reset_falls s e cause packet lost t transcript stand up lossy step = grind (arith, reset_remains)
