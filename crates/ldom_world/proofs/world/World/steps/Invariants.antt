use Rattle.std.proofs.Common.{replicate}
use Rattle.recorded_lanes.specs.world_parts.domain_laws.Lines.{turn}
use Rattle.recorded_lanes.specs.ldom_report.LaneEvents.{end_of}
use Rattle.ldom_world.specs.TurnsMade.{SameNumbers, TurnsMade}
use Rattle.recorded_lanes.specs.world_parts.Lines.{lane_named}
use Rattle.recorded_lanes.specs.Steps.{Counted}
use Rattle.ldom_world.proofs.world.World.steps.Given as goal

abbrev pub invariant-loop : goal.invariant-loop
invariant-loop g l = record {
  turned : TurnsMade (replicate l.counter (turn (lane_named l.fn.lane) (end_of l.fn.side))) l.fn.self l.fn.journal.entries
      l.journal.entries l.self;
  many : SameNumbers l.fn.self l.self;
  agrees : Counted l.journal.entries l.self;
}
