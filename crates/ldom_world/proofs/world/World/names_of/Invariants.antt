use Rattle.ldom_world.specs.SettleParts.{LaneNamesAdd}
use Rattle.recorded_lanes.specs.Steps.{Counted}
use Rattle.ldom_world.proofs.world.World.names_of.Given as goal

abbrev pub invariant-loop-number : goal.invariant-loop-number
invariant-loop-number g l = record {
  named : LaneNamesAdd l.fn.kind l.number l.self l.quiet l.fn.journal.entries l.journal.entries;
  agrees : Counted l.journal.entries l.self;
}
