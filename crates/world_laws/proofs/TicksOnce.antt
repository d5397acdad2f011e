-- In one settle each lane gets one tick at most.
use Rattle.std.proofs.Common.{◌≡◌, ℕ, ◌≤◌, List}
use Rattle.lane_models.specs.LaneState.{LaneState}
use Rattle.lane_kinds.proofs.Counting.{part_counted, settles_counted}
use Rattle.lane_kinds.proofs.LaneCounts.{lanes_tick}
use Rattle.lane_kinds.specs.LaneCounts.{mark_at}
use Rattle.lane_kinds.specs.Laws.{CountsRounds}
use Rattle.world_laws.proofs.DiskLaws.{disk_ticks}
use Rattle.world_laws.specs.DiskKind.{disk_kind}
use Rattle.world_laws.specs.Moves.{ticks, ticks_in}
use Rattle.world_laws.specs.Settle.{SettleEntry, SettlePart, Settles, disk_entries, disks}

counts : (k : ℕ) → CountsRounds disks (ticks_in k) (mark_at k 0)
counts k = lanes_tick disk_kind disk_entries ticks disk_ticks k

pub settles_ticks : (start : List LaneState) (part : List SettleEntry) (behind : List LaneState) (k : ℕ) (at : Settles start part behind) → ticks_in k part ≡ mark_at k 0 at.now.marks
settles_ticks start part behind k at = settles_counted disks (ticks_in k) (mark_at k 0) (counts k) start part behind at

pub part_ticks : (start : List LaneState) (part : List SettleEntry) (behind : List LaneState) (k : ℕ) → SettlePart start part behind → ticks_in k part ≤ 1
part_ticks start part behind k settle = part_counted disks (ticks_in k) (mark_at k 0) (counts k) start part behind settle
