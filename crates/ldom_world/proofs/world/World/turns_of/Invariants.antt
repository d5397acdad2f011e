use Rattle.ldom_world.specs.TurnsMade.{SameNumbers, TurnsMade, lane_turns}
use Rattle.recorded_lanes.specs.Steps.{Counted}
use Rattle.ldom_world.proofs.world.World.turns_of.Given as goal

abbrev pub invariant-loop-number : goal.invariant-loop-number
invariant-loop-number g l = record {
  turned : TurnsMade (lane_turns l.fn.kind 0 l.number) l.fn.self l.fn.journal.entries l.journal.entries l.self;
  many : SameNumbers l.fn.self l.self;
  agrees : Counted l.journal.entries l.self;
}
