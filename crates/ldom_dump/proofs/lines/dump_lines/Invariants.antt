use Rattle.std.proofs.Common.{◌≡◌, ◌+◌, ◌-◌, ◌≤◌}
use Rattle.script_reader.specs.LinesState.{GoesOn, KeepsEnds, to_come}
use Rattle.ldom_dump.proofs.DumpLemmas.{LinesSoFar}
use Rattle.ldom_dump.proofs.lines.dump_lines.Given as goal

abbrev pub invariant-loop-bytes : goal.invariant-loop-bytes
invariant-loop-bytes g l = record {
  goes : GoesOn l.lines (g.S.Source.left l.source);
  few : l.lines.number ≤ 20000;
  sum : l.packets + l.faults ≡ l.lines.number;
  so_far : LinesSoFar l.lines.stop (to_come l.fn.lines (g.S.Source.left l.fn.source)) (to_come l.lines (g.S.Source.left l.source)) (g.K.Sink.written l.fn.out) (g.K.Sink.written l.out) l.text l.lines.number l.packets l.faults;
  ends : KeepsEnds l.fn.lines.stop l.lines.stop (g.S.Source.ends l.fn.source) (g.S.Source.ends l.source);
  source : g.S.Source.faults l.source ≡ g.S.Source.faults l.fn.source;
  sink : g.K.Sink.faults l.out ≡ g.K.Sink.faults l.fn.out;
}

abbrev pub decreases-loop-bytes : goal.decreases-loop-bytes
decreases-loop-bytes g l = 20000 - l.lines.number
