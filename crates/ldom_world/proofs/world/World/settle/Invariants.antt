use Rattle.ldom_world.specs.SettleParts.{RoundsAdd, marks_of, pass_moment}
use Rattle.recorded_lanes.specs.Steps.{Counted, moment}
use Rattle.ldom_world.proofs.world.World.settle.Given as goal

abbrev pub invariant-loop : goal.invariant-loop
invariant-loop g l = record {
  gone : RoundsAdd l.counter (moment l.fn.self l.fn.journal.entries) (pass_moment (moment l.self l.journal.entries) (marks_of l.had) (marks_of l.quiet));
  agrees : Counted l.journal.entries l.self;
}
