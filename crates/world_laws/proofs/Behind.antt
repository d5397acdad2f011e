-- What stands after quiet rounds: all ends are still; and after the last round of a settle each running lane is finished, or is one that
-- somebody forged and that had its tick.
use Rattle.std.proofs.Common.{◌≡◌, ◌⊎◌, inl, inr, Bool, true, false, List, [], ◌∷◌, arith}
use Rattle.runs.specs.Run.{Run}
use Rattle.lane_models.specs.ClientState.{is_finished}
use Rattle.lane_models.specs.LaneState.{LaneState}
use Rattle.lane_models.specs.Reached.{IsReached}
use Rattle.lane_kinds.proofs.Finishing.{IsWhole, all_each, lanes_keep, whole_fresh}
use Rattle.lane_kinds.proofs.Lanes.{own_turns}
use Rattle.lane_kinds.proofs.Standing.{rounds_stand}
use Rattle.lane_kinds.proofs.Sums.{and_left, and_right}
use Rattle.lane_kinds.specs.Lanes.{CalmTurn, OwnTurns}
use Rattle.lane_kinds.specs.Laws.{KeepsStanding}
use Rattle.world_laws.proofs.DiskLaws.{IsLossless, disk_rests, gives_nothing}
use Rattle.world_laws.proofs.LaneRounds.{quiet_finished, quiet_same, quiet_still, round_keeps}
use Rattle.world_laws.proofs.LaneTicks.{rests_where}
use Rattle.world_laws.specs.DiskKind.{disk_kind}
use Rattle.world_laws.specs.Ended.{AllStill, EndsFinished}
use Rattle.world_laws.specs.Rounds.{Each, EachMarked, LaneRound, MakeRound, MakesRound, are_quiet, is_quiet}
use Rattle.world_laws.specs.Settle.{GoesOn, IsLast, SettleRound, Settling, begin, disk_entries, disks}
use Rattle.world_laws.specs.Sums.{IsUnforged}
use Rattle.world_laws.specs.Ticks.{gets_tick, no_marks}

-- ALL ENDS ARE STILL
stills : (lanes : List LaneState) (rounds : List LaneRound) (behind : List LaneState) → OwnTurns disk_kind lanes rounds behind → are_quiet rounds ≡ true → AllStill lanes rounds behind
stills [] [] [] made quiet = tt
stills (s ∷ lanes) (r ∷ rounds) (t ∷ behind) made quiet =
    (quiet_still s r t made.0 (and_left (is_quiet r) (are_quiet rounds) quiet), stills lanes rounds behind made.1 (and_right (is_quiet r) (are_quiet rounds) quiet))
stills _ _ _ made quiet = absurd made

pub all_still : (lanes : List LaneState) (rounds : List LaneRound) (behind : List LaneState) → MakeRound lanes rounds behind → are_quiet rounds ≡ true → AllStill lanes rounds behind
all_still lanes rounds behind made quiet = stills lanes rounds behind (own_turns disk_kind gives_nothing lanes rounds behind made) quiet

-- ALONG THE ROUNDS each lane was reached, and lost nothing where it had its tick
abbrev pub Whole : LaneState → Bool → Type 0
Whole = IsWhole disk_kind IsReached IsUnforged IsLossless disk_rests

abbrev pub Stands : List LaneState → List Bool → Type 0
Stands = EachMarked Whole

pub keeps : KeepsStanding disks Stands
keeps = lanes_keep disk_kind IsReached IsUnforged IsLossless disk_rests disk_entries

pub begins : (start : List LaneState) → Each IsReached start → Stands start (no_marks start)
begins start reached = whole_fresh disk_kind IsReached IsUnforged IsLossless disk_rests start reached

-- THE LAST ROUND
-- a lane that is finished where no packet was lost, or that is finished as no tick comes
finished_by : (had : Bool) (s : LaneState) (r : LaneRound) (t : LaneState) → Whole s had → MakesRound s r t → is_quiet r ≡ true → IsUnforged s → s.stopped ≡ false
    → (is_finished t.client ≡ true) ⊎ (had ≡ true) → is_finished t.client ≡ true
finished_by had s r t at made quiet clean runs (inl finished) = finished
finished_by had s r t at made quiet clean runs (inr ticked) = (quiet_finished s r t at.reached clean (at.whole ticked) runs made quiet).finished

pub lane_ends : (had : Bool) (s : LaneState) (r : LaneRound) (t : LaneState) → Whole s had → CalmTurn disk_kind s r t → gets_tick t had ≡ false → EndsFinished t had
lane_ends had s r t given turn none = grind (arith, round_keeps, rests_where, quiet_finished, quiet_same)

pub ends_finished : (start : List LaneState) (rounds : List SettleRound) (now : Settling) (steps : List LaneRound) (behind : List LaneState) → Each IsReached start
    → Run GoesOn (begin start) rounds now → IsLast now steps behind → EachMarked EndsFinished behind now.marks
ends_finished start rounds now steps behind reached run last =
    all_each disk_kind IsReached IsUnforged IsLossless disk_rests EndsFinished lane_ends disk_entries behind now.marks (record {
      before = now.lanes;
      stands = rounds_stand disks Stands keeps (begin start) rounds now run (begins start reached);
      steps = steps;
      made = last.made;
      quiet = last.quiet;
      no_tick = last.no_tick;
    })
