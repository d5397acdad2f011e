use Rattle.std.proofs.Common.{◌≡◌, length}
use Rattle.lane_kinds.specs.Rounds.{tick_marks}
use Rattle.ldom_world.specs.SettleParts.{LaneTicksAdd}
use Rattle.recorded_lanes.specs.Steps.{Counted, moment}
use Rattle.ldom_world.specs.TurnsMade.{SameNumbers}
use Rattle.ldom_world.proofs.world.World.ticks_of.Given as goal

abbrev pub invariant-loop-number : goal.invariant-loop-number
invariant-loop-number g l = record {
  ticked : LaneTicksAdd l.fn.kind l.number (tick_marks l.fn.had l.some l.had) (moment l.fn.self l.fn.journal.entries) (moment l.self l.journal.entries);
  many : SameNumbers l.fn.self l.self;
  long : length l.had ≡ 8;
  agrees : Counted l.journal.entries l.self;
}
