-- How the counts of what is near stand to one another, where nobody meddles.
use Rattle.std.specs.Prelude.{◌≡◌, ◌≤◌, false, ⊤}
use Rattle.lane_models.specs.DiskEvent.{DiskEvent, Done, Works}
use Rattle.lane_laws.specs.DiskLog.{DiskLog}
use Rattle.lane_laws.specs.RequestLaws.{pending_count}

-- Of the pending requests: those that the server finished in its session, and those that were published in an earlier
-- session, are among the ones that were ever published.
pub record NearInOrder (l : DiskLog) : Type 0 where
  pub finished : l.near.k ≤ l.near.p
  pub earlier : l.near.m ≤ l.near.p
  pub published : l.near.p ≤ pending_count l.work

-- A completion is of a request that the server finished in its session.
abbrev pub NearAt : DiskLog → DiskEvent → Type 0
NearAt l (Works (Done id operation status bytes)) = l.wire.forged ≡ false → 1 ≤ l.near.k
NearAt l _ = ⊤
