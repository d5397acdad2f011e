use Rattle.std.proofs.Common.{◌≡◌, ℕ, List, ◌++◌, length}
use Rattle.std.specs.Prelude.{All}
use Rattle.ldom_report.specs.EntryText.{report_entries}
use Rattle.ldom_report.specs.HasWords.{HasWords}
use Rattle.gathered_text.specs.Gathered.{Gathers}
use Rattle.ldom_report.proofs.lines.write_lines.Given as goal

abbrev pub invariant-loop-rest : goal.invariant-loop-rest
invariant-loop-rest g l = record {
  so_far : List ℕ;
  whole : report_entries l.mode l.names l.journal.entries ≡ so_far ++ report_entries l.mode l.names l.rest;
  words : All (HasWords l.names) l.rest;
  gathers : Gathers (g.K.Sink.written l.initial.out) (g.K.Sink.written l.out) l.text so_far;
  unfailed : g.K.Sink.faults l.out ≡ g.K.Sink.faults l.initial.out;
}

abbrev pub decreases-loop-rest : goal.decreases-loop-rest
decreases-loop-rest g l = length l.rest
