use Rattle.std.proofs.Common.{◌≡◌, ◌-◌, ◌≤◌}
use Rattle.script_reader.specs.LinesState.{GoesOn, KeepsEnds, to_come}
use Rattle.script_laws.proofs.ReadLemmas.{OpensSoFar}
use Rattle.ldom_replay.proofs.run.read_opening.Given as goal

abbrev pub invariant-loop-event : goal.invariant-loop-event
invariant-loop-event g l = record {
  goes : GoesOn l.reader.lines (g.S.Source.left l.source);
  few : l.reader.lines.number ≤ 20000;
  so_far : OpensSoFar l.reader.lines.stop (to_come l.fn.reader.lines (g.S.Source.left l.fn.source)) (to_come l.reader.lines (g.S.Source.left l.source)) l.reader.names l.reader.lines.number;
  journal : l.reader.journal ≡ l.fn.reader.journal;
  ends : KeepsEnds l.fn.reader.lines.stop l.reader.lines.stop (g.S.Source.ends l.fn.source) (g.S.Source.ends l.source);
  unfailed : g.S.Source.faults l.source ≡ g.S.Source.faults l.fn.source;
}

abbrev pub decreases-loop-event : goal.decreases-loop-event
decreases-loop-event g l = 20000 - l.reader.lines.number
