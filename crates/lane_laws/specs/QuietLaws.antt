-- Where an end may be idle, and where a tick is calm.
use Rattle.std.specs.Prelude.{◌≡◌, ◌≢◌, ◌+◌, false, [], length, Some, None, ⊤}
use Rattle.ldc_queue.specs.declared.end.End.{End}
use Rattle.ldc_queue.specs.declared.end.End.TheVariants.{A, B}
use Rattle.ldc_queue.specs.Wire.{peer_of, waiting_for}
use Rattle.lane_models.specs.WireEvent.{ByTick, Giver, Idle, Reset, giver}
use Rattle.lane_models.specs.DiskEvent.{CalmTick, DiskEvent, OnWire, Calms}
use Rattle.lane_laws.specs.DiskLog.{DiskLog}
use Rattle.lane_laws.specs.WorkLaws.{IfClient, IfServer}
use Rattle.lane_laws.specs.WorkLog.{ClientCounts, ServerCounts}

-- AN IDLE END has nothing to take; a client in session has published, announced and completed all that it can, and a server has
-- answered all that it was asked
pub record ClientIsIdle (l : DiskLog) (c : ClientCounts) : Type 0 where
  pub published : c.base + c.published ≡ length l.work.issued
  pub announced : c.announced ≡ c.published
  pub completed : l.work.done ≡ c.base + c.acked

pub record ServerIsIdle (c : ServerCounts) : Type 0 where
  pub nothing_owed : c.owed ≡ []
  pub fetched : c.asked ≡ c.descs
  pub answered : c.descs ≡ c.answered

abbrev pub EndIsIdle : End → DiskLog → Type 0
EndIsIdle A l = IfClient l.work.client (ClientIsIdle l)
EndIsIdle B l = IfServer l.work.server ServerIsIdle

abbrev pub IdleAt : DiskLog → DiskEvent → Type 0
IdleAt l (OnWire (Idle e)) = (waiting_for e l.wire.wire ≡ []) × EndIsIdle e l
IdleAt l _ = ⊤

-- TWO IDLE ENDS, one directly after the other, where nobody meddled and nothing was lost: nothing is pending, and both sessions are open
pub record IsLogAtRest (l : DiskLog) : Type 0 where
  pub finished : l.work.done ≡ length l.work.issued
  pub client_open : l.work.client ≢ None
  pub server_open : l.work.server ≢ None

abbrev pub TwoIdleAt : DiskLog → DiskEvent → Type 0
TwoIdleAt l (OnWire (Idle e)) = l.last_idle ≡ Some (peer_of e) → l.wire.forged ≡ false → l.wire.lossy ≡ false → IsLogAtRest l
TwoIdleAt l _ = ⊤

-- A TICK is calm exactly where the client's session is open and nothing is pending
abbrev pub IsFinished : DiskLog → Type 0
IsFinished l = (l.work.client ≢ None) × (l.work.done ≡ length l.work.issued)

abbrev pub TickOf : Giver → DiskLog → Type 0
TickOf ByTick l = IsFinished l → ⊥
TickOf _ l = ⊤

abbrev pub TickAt : DiskLog → DiskEvent → Type 0
TickAt l (OnWire (Reset e cause packet lost)) = TickOf (giver cause) l
TickAt l (Calms CalmTick) = IsFinished l
TickAt l _ = ⊤
