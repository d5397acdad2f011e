use Rattle.recorded_lanes.specs.world_parts.domain_laws.Domain.{lanes_in}
use Rattle.recorded_lanes.specs.world_parts.domain_laws.Lines.{turns_of}
use Rattle.recorded_lanes.specs.Steps.{Counted}
use Rattle.ldom_world.specs.TurnsMade.{TurnsMade}
use Rattle.ldom_world.proofs.world.World.rounds.Given as goal

abbrev pub invariant-loop : goal.invariant-loop
invariant-loop g l = record {
  turned : TurnsMade (turns_of l.counter (lanes_in l.fn.self)) l.fn.self l.fn.journal.entries l.journal.entries l.self;
  agrees : Counted l.journal.entries l.self;
}
