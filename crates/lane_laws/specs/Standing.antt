-- How the requests of a lane and its log stand to each other, also where somebody forges packets and memory.
use Rattle.std.specs.Prelude.{◌≡◌, ℕ, ◌+◌, ◌≤◌, drop, length, Option, Some, None, ⊤}
use Rattle.lane_laws.specs.DiskLog.{DiskLog}
use Rattle.lane_laws.specs.RequestLaws.{AdmissionAt, OnceAt, ServerRunsAt}
use Rattle.lane_laws.specs.WorkLog.{WorkLog}
use Rattle.lane_models.specs.ClientState.{ClientSession, ClientState}
use Rattle.lane_models.specs.DiskEvent.{DiskEvent}
use Rattle.lane_models.specs.LaneState.{LaneState}

-- a session counts what is done from its base on
abbrev pub SessionStands : ℕ → Option ClientSession → Type 0
SessionStands done None = ⊤
SessionStands done (Some s) = done ≡ s.base + s.completed

-- what is pending is what was accepted and isn't done
pub record RequestsStand (c : ClientState) (w : WorkLog) : Type 0 where
  pub pending : c.pending ≡ drop w.done w.issued
  pub next : c.next_id ≡ length w.issued
  pub done : w.done ≤ length w.issued
  pub session : SessionStands w.done c.session

pub record LaneInvariant (s : LaneState) (l : DiskLog) : Type 0 where
  pub shape : s.shape ≡ l.shape
  pub wire : s.wire ≡ l.wire
  pub stopped : s.stopped ≡ l.work.stopped
  pub blocks : s.client.blocks ≡ s.shape.blocks
  pub slots : s.client.slots ≡ s.shape.slots
  pub requests : RequestsStand s.client l.work

-- three of the conditions on an event: what comes of a request, completions once and in order, and when the server may make a step
pub record MayOfRequests (l : DiskLog) (event : DiskEvent) : Type 0 where
  pub admission : AdmissionAt l event
  pub once : OnceAt l event
  pub runs : ServerRunsAt l event
