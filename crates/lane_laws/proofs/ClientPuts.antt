-- The client as it puts a packet: what it holds then, and what it has said after it.
use Rattle.std.proofs.Common.{ℕ, Bool, List}
use Rattle.ldc_queue.specs.declared.end.End.TheVariants.{A}
use Rattle.lane_laws.specs.DiskLog.{DiskLog}
use Rattle.lane_models.specs.ClientPutting.{client_kind, is_announcing}
use Rattle.lane_models.specs.ClientRule as client_rules
use Rattle.lane_models.specs.ClientState.{ClientState}
use Rattle.lane_models.specs.ClientStep.{ClientSends}
use Rattle.lane_models.specs.Seeing.{seen}
use Rattle.lane_models.specs.LaneState.{LaneState}
use Rattle.lane_laws.proofs.LaneCounting.{Knows}
use Rattle.lane_laws.proofs.ClientHolding.{client_held}
use Rattle.lane_laws.proofs.ClientWorkCounting.{client_holds_counting}
use Rattle.lane_models.proofs.PutSayings.{PutSays, put_says}
use Rattle.lane_laws.proofs.Ruling.{client_may}
use Rattle.lane_laws.proofs.Speaking.{client_blocked_rests}
use Rattle.lane_laws.specs.Counted.{ClientCounted}
use Rattle.lane_laws.specs.LaneRests.{ClientRests}
use Rattle.lane_laws.specs.Sound.{ClientSound}

pub record Putting (s : LaneState) (l : DiskLog) (packet : List ℕ) (held : ClientState) : Type 0 where
  pub sound : ClientSound held
  pub rests : ClientRests held l.transcript.a
  pub counted : ClientCounted l.shape held l.transcript.a l.work.done l.work.client
  pub says : PutSays (client_kind held) (is_announcing held.session) held.link l.transcript.a packet

pub putting : (s : LaneState) (l : DiskLog) (packet : List ℕ) (opens : Bool) (t : ClientState) (new : List ℕ) → Knows s l
    → (sends : ClientSends s.client (seen A s.shape.entries s.wire.wire) s.memory packet opens t new) → Putting s l packet sends.held
putting s l packet opens t new knows sends =
    let at = seen A s.shape.entries s.wire.wire in
    let rule = client_rules.client_rule s.client at in
    let rests : ClientRests sends.held l.transcript.a = client_blocked_rests s.client at sends.held l.transcript.a knows.all.sound sends.holds knows.rests.client in
    record {
      sound = client_held s.client at rule sends.held (client_may s.client at) sends.holds knows.all.sound;
      rests = rests;
      counted = client_holds_counting l.shape s.client at rule sends.held l.transcript.a l.work.done l.work.client knows.all.sound knows.rests.client knows.utters.client
          (client_may s.client at) sends.holds knows.counted.client;
      says = put_says (is_announcing sends.held.session) sends.held.link t.link l.transcript.a packet rests.stands.link.follows sends.packet;
    }
