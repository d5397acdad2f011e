-- A line of a script that is for one lane alone, and what it leaves of all others.
use Rattle.std.specs.Prelude.{◌≡◌, ◌≢◌, ℕ, List, ◌++◌, length, Some, slice_get}
use Rattle.lane_models.specs.PortState.{PortState}
use Rattle.world_laws.specs.Settle.{SettleEntry}
use Rattle.domain_laws.specs.Domain.{DomainState}
use Rattle.domain_laws.specs.Frames.{frames_put}
use Rattle.domain_laws.specs.Lines.{Asked, Calls, DiskLane, Joins, LaneName, Line, PortLane, Sends, Steps}

-- it asks this disk, gives this port a frame or a group, steps an end of this lane or calls it: it injects, pokes,
-- loses, resets, stops and so on
abbrev pub IsFor : LaneName → Line → Type 0
IsFor lane (Asked k request) = DiskLane k ≡ lane
IsFor lane (Sends k frame) = PortLane k ≡ lane
IsFor lane (Joins k address) = PortLane k ≡ lane
IsFor lane (Steps other e count) = other ≡ lane
IsFor lane (Calls other call) = other ≡ lane
IsFor lane _ = ⊥

-- A PART OF ONE PORT leaves the disks and the image. Every other port is as it was, but that these frames stand last in
-- its out queue: those that the part switched to it.
pub record OnlyPortPart (k : ℕ) (part : List SettleEntry) (w v : DomainState) : Type 0 where
  pub disks_stay : v.first ≡ w.first
  pub many : length v.second ≡ length w.second
  pub others : (j : ℕ) (s t : PortState) → j ≢ k → slice_get w.second j ≡ Some s → slice_get v.second j ≡ Some t
      → t ≡ record s { queue = s.queue ++ frames_put j part }
