use Rattle.std.proofs.Common.{◌≡◌, length, take}
use Rattle.ldom_world.specs.SettleParts.{LanesAdd}
use Rattle.recorded_lanes.specs.Steps.{Counted, moment}
use Rattle.ldom_world.specs.TurnsMade.{SameNumbers}
use Rattle.lane_kinds.specs.LanesMade.{all_true}
use Rattle.ldom_world.proofs.world.World.round_of.Given as goal

abbrev pub invariant-loop-number : goal.invariant-loop-number
invariant-loop-number g l = record {
  made : LanesAdd l.fn.kind l.number l.quiet (moment l.fn.self l.fn.journal.entries) (moment l.self l.journal.entries);
  calm : all_true (take l.number l.quiet) ≡ l.all;
  many : SameNumbers l.fn.self l.self;
  long : length l.quiet ≡ 8;
  agrees : Counted l.journal.entries l.self;
}
