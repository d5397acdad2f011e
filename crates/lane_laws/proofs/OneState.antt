-- Two lanes that agree with one log are the same, but for their memories and what the log has no bytes of.
use Rattle.std.proofs.Common.{◌≡◌, ℕ, false, Option, List, sym, ap, ◌∙◌, arith}
use Rattle.ldc_link.specs.LinkState.{LinkState}
use Rattle.ldc_queue.specs.Transcript.{Utterance}
use Rattle.vio_tag.specs.declared.message.Message.{Message}
use Rattle.vio_handshake.specs.declared.handshake.Handshake.{Handshake}
use Rattle.lane_laws.specs.Agreement.{AgreesWithLog, LinkAgrees, NearAgrees, RangeAgrees, ServerAgrees, WorkNextAgrees}
use Rattle.lane_models.specs.Blockage.{Blockage}
use Rattle.lane_laws.specs.DiskLog.{DiskLog}
use Rattle.lane_laws.specs.EndLog.{server_left}
use Rattle.lane_models.specs.LaneState.{LaneState}
use Rattle.lane_models.specs.WireLog.{WireLog}
use Rattle.lane_laws.specs.NearLog.{NearLog}
use Rattle.lane_models.specs.Sayings.{half_said}
use Rattle.lane_models.specs.ServerState.{ServerSession, ServerState, Work}
use Rattle.lane_laws.specs.WorkLog.{ServerCounts}
use Rattle.lane_laws.specs.SameEnds.{SameClient, SameLane, SameServer, SameWork}

-- LINKS are one where their fields are
same_link : (k m : LinkState) (turns : List Utterance) → k.role ≡ m.role → k.phase ≡ m.phase → k.to_send ≡ m.to_send → LinkAgrees k turns → LinkAgrees m turns → k ≡ m
same_link k m turns role phase left one other = grind arith

-- CLIENTS
pub same_client : (s t : LaneState) (l : DiskLog) → AgreesWithLog s l → AgreesWithLog t l → SameClient s.client t.client
same_client s t l one other = grind arith

-- SERVERS
same_counts : (o p : Option ServerSession) (v w : Option Work) (k : Option ServerCounts) (turns : List Utterance) → ServerAgrees o v k → ServerAgrees p w k → RangeAgrees o turns → RangeAgrees p turns → o ≡ p
same_counts o p v w k turns one other range ranged = grind arith

server_same : (owed : Option Message) (v w : ServerState) (half : List ℕ) (blockage : Blockage) → v.handshake ≡ w.handshake → v.session ≡ w.session
    → server_left v owed half blockage ≡ server_left w owed half blockage
server_same owed v w half blockage handshake session = grind arith

-- the descriptor in work
same_work : (o p : Option ServerSession) (v w : Option Work) (d : Option ServerCounts) → ServerAgrees o v d → ServerAgrees p w d → WorkNextAgrees v d → WorkNextAgrees w d → SameWork v w
same_work o p v w d one other next follows = grind arith

pub same_server : (s t : LaneState) (l : DiskLog) → AgreesWithLog s l → AgreesWithLog t l → SameServer s.server t.server
same_server s t l one other =
    let half = half_said l.transcript.b in
    let handshake : s.server.handshake ≡ t.server.handshake = one.server_end.handshake ∙ sym other.server_end.handshake in
    let session : s.server.session ≡ t.server.session =
    same_counts s.server.session t.server.session s.server.work t.server.work l.work.server l.transcript.b one.server other.server one.server_end.range other.server_end.range in
    let left : s.server.link.to_send ≡ t.server.link.to_send =
    one.server_end.left ∙ server_same s.server.handshake.owed s.server t.server half l.blocked.server handshake session
    ∙ ap (λ (h : Handshake). server_left t.server h.owed half l.blocked.server) handshake ∙ sym other.server_end.left in
    record {
      link = same_link s.server.link t.server.link l.transcript.b (one.server_end.role ∙ sym other.server_end.role) (one.server_end.phase ∙ sym other.server_end.phase) left one.server_link other.server_link;
      handshake = handshake;
      first = one.server_end.first ∙ sym other.server_end.first;
      blocks = one.server_end.blocks ∙ sym other.server_end.blocks;
      slots = one.server_end.slots ∙ sym other.server_end.slots;
      session = session;
      work = same_work s.server.session t.server.session s.server.work t.server.work l.work.server one.server other.server one.next other.next;
    }

-- LANES
same_near : (s t : LaneState) (n : NearLog) → NearAgrees s n → NearAgrees t n → s.near ≡ t.near
same_near s t n one other = grind arith

pub same_lane : (s t : LaneState) (l : DiskLog) → AgreesWithLog s l → AgreesWithLog t l → SameLane s t
same_lane s t l one other =
    let clean : s.wire.forged ≡ false → l.wire.forged ≡ false = (λ not. ap (λ (w : WireLog). w.forged) (sym one.wire) ∙ not) in
    record {
      shape = one.shape ∙ sym other.shape;
      wire = one.wire ∙ sym other.wire;
      client = same_client s t l one other;
      server = same_server s t l one other;
      table = one.table ∙ sym other.table;
      stopped = one.stopped ∙ sym other.stopped;
      failed = one.failed ∙ sym other.failed;
      near = λ not. same_near s t l.near (one.near (clean not)) (other.near (clean not));
      published = λ not. (one.near (clean not)).p ∙ sym (other.near (clean not)).p;
    }
