-- Where the rounds of a settle ran out some lane is named: one that wasn't quiet in the last of them, or one that had its tick after it.
use Rattle.std.proofs.Common.{◌≤◌, List, length}
use Rattle.lane_models.specs.LaneState.{LaneState}
use Rattle.lane_models.specs.Reached.{IsReached}
use Rattle.lane_kinds.proofs.LaneCounts.{lanes_name}
use Rattle.lane_kinds.proofs.Naming as kind
use Rattle.world_laws.proofs.Behind.{Stands, begins, keeps}
use Rattle.world_laws.proofs.DiskLaws.{IsLossless, disk_rests, tick_waits}
use Rattle.world_laws.specs.DiskKind.{disk_kind}
use Rattle.world_laws.specs.Rounds.{Each}
use Rattle.world_laws.specs.Settle.{RunsOut, SettleEntry, disk_entries, disks, left_over}
use Rattle.world_laws.specs.Sums.{IsUnforged}

pub out_names : (start : List LaneState) (part : List SettleEntry) (behind : List LaneState) (out : RunsOut start part behind) → Each IsReached start
    → 1 ≤ length (left_over 0 out.last.steps behind)
out_names start part behind out reached =
    kind.out_names disks Stands keeps (lanes_name disk_kind disk_entries IsReached IsUnforged IsLossless disk_rests tick_waits) start part behind out (begins start reached)
