-- Over the whole part of a settle, and over a front of it: no end finds no room three times with nothing but Blocked between, and each round
-- that goes on leaves an entry that is a step other than Blocked, or a tick.
use Rattle.std.proofs.Common.{ℕ, ◌≤◌, List, length}
use Rattle.runs.specs.Run.{Run}
use Rattle.ldc_queue.specs.declared.end.End.{End}
use Rattle.lane_models.specs.LaneState.{LaneState}
use Rattle.lane_kinds.proofs.Counting as kind
use Rattle.lane_kinds.proofs.LaneCounts.{lanes_move, lanes_unstick}
use Rattle.lane_kinds.proofs.LaneFronts.{fronts_unstick}
use Rattle.lane_kinds.proofs.Stuck as ends
use Rattle.lane_kinds.specs.Laws.{Unsticks}
use Rattle.world_laws.proofs.Counts.{blocked}
use Rattle.world_laws.proofs.DiskLaws.{disk_moves, disk_unsticks}
use Rattle.world_laws.specs.Begun.{SettleFront, fronts}
use Rattle.world_laws.specs.DiskKind.{disk_kind}
use Rattle.world_laws.specs.Moves.{NeverThree, moves, moves_in, stuck}
use Rattle.world_laws.specs.Settle.{GoesOn, RunsOut, SettleEntry, SettlePart, SettleRound, Settling, disk_entries, disks, entries_of_rounds, most_rounds}

unsticks : (k : ℕ) (e : End) → Unsticks disks (stuck k e) (blocked k e) moves
unsticks k e = lanes_unstick disk_kind disk_entries k (stuck k e) (blocked k e) moves (disk_unsticks k e)

pub part_never : (start : List LaneState) (part : List SettleEntry) (behind : List LaneState) (k : ℕ) (e : End) → SettlePart start part behind → NeverThree k e 0 part
part_never start part behind k e settle = ends.part_never disks (stuck k e) (blocked k e) moves (unsticks k e) start part behind settle

pub front_never : (start : List LaneState) (part : List SettleEntry) (behind : List LaneState) (k : ℕ) (e : End) → SettleFront start part behind → NeverThree k e 0 part
front_never start part behind k e at =
    ends.front_never disks (stuck k e) (blocked k e) moves (unsticks k e) fronts (fronts_unstick disk_kind disk_entries k (stuck k e) (blocked k e) moves (disk_unsticks k e)) start part behind at

pub out_moves : (start : List LaneState) (part : List SettleEntry) (behind : List LaneState) → RunsOut start part behind → most_rounds start ≤ moves_in part
out_moves start part behind out = kind.out_moves disks moves_in (lanes_move disk_kind disk_entries moves disk_moves) start part behind out

pub made_move : (w : Settling) (rounds : List SettleRound) (v : Settling) → Run GoesOn w rounds v → length rounds ≤ moves_in (entries_of_rounds rounds)
made_move w rounds v run = kind.rounds_move disks moves_in (lanes_move disk_kind disk_entries moves disk_moves) w rounds v run
