use Rattle.std.proofs.Common.{◌≡◌, ◌-◌, ◌≤◌, true}
use Rattle.script_reader.specs.declared.lines.LinesStop.TheVariants.{Going}
use Rattle.script_reader.specs.LinesState.{GoesOn, KeepsEnds, to_come}
use Rattle.ldom_replay.specs.NamesLanes.{HasLanes}
use Rattle.ldom_world.specs.Steps.{Counted}
use Rattle.script_laws.specs.Going.{run_at}
use Rattle.script_laws.proofs.RunLemmas.{RunsSoFar}
use Rattle.ldom_replay.proofs.run.run_lines.Given as goal

abbrev pub invariant-loop-stop : goal.invariant-loop-stop
invariant-loop-stop g l = record {
  goes : GoesOn l.reader.lines (g.S.Source.left l.source);
  few : l.reader.lines.number ≤ 20000;
  ended : l.reader.names.ended ≡ true;
  lanes : HasLanes l.reader.names l.world;
  agrees : Counted l.reader.journal.entries l.world;
  going : l.reader.lines.stop ≡ Going → l.fn.reader.lines.stop ≡ Going;
  so_far : RunsSoFar l.reader.lines.stop (to_come l.fn.reader.lines (g.S.Source.left l.fn.source)) (to_come l.reader.lines (g.S.Source.left l.source))
      (run_at l.fn.reader.names l.fn.reader.journal.entries l.fn.world l.fn.reader.lines.number)
      (run_at l.reader.names l.reader.journal.entries l.world l.reader.lines.number);
  ends : KeepsEnds l.fn.reader.lines.stop l.reader.lines.stop (g.S.Source.ends l.fn.source) (g.S.Source.ends l.source);
  unfailed : g.S.Source.faults l.source ≡ g.S.Source.faults l.fn.source;
}

abbrev pub decreases-loop-stop : goal.decreases-loop-stop
decreases-loop-stop g l = 20000 - l.reader.lines.number
