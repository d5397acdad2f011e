use Rattle.std.proofs.Common.{◌∙◌, List, length, ap, arith, refl, subst, sym}
use Rattle.std.proofs.lemmas.Result.{err_from_is_err_and}
use Rattle.domain_script.specs.Declarations.{AreDeclared}
use Rattle.domain_script.specs.NamesState.{NamesState, declared_by}
use Rattle.script_reader.specs.LinesState.{to_come}
use Rattle.ldom_entries.specs.JournalState.{JournalState}
use Rattle.ldom_entries.specs.declared.entry.Entry.{Entry}
use Rattle.ldom_report.specs.declared.stop.Stop.{Stop}
use Rattle.ldom_report.specs.Stops.{stop_lines, stop_status}
use Rattle.ldom_report.proofs.StopLemmas.{failed_at_source}
use Rattle.script_laws.proofs.ReadLemmas.{opens, opens_more, opens_none, opens_stop, read_declared}
use Rattle.ldom_replay.proofs.run.read_opening.Goals as goal

pub loop-event-init : goal.loop-event-init
loop-event-init g c = record {
  goes = c.requires.goes;
  few = omega (arith, c.requires.first);
  so_far = opens_none c.args.reader.now.lines.stop (to_come c.args.reader.now.lines (g.S.Source.left c.args.source.now)) c.args.reader.now.names c.args.reader.now.lines.number c.requires.names c.requires.first;
  journal = refl;
  ends = λ base is. is;
  unfailed = refl;
}

pub loop-event-preserved : goal.loop-event-preserved
loop-event-preserved g c =
    let start = to_come c.args.reader.now.lines (g.S.Source.left c.args.source.now) in
    let rest = to_come c.loop-event.reader.lines (g.S.Source.left c.loop-event.source) in
    let left = to_come c.read_event.new.self.lines (g.S.Source.left c.read_event.new.source) in
    record {
      goes = c.in_ok-read_event.ensures.next.2;
      few = c.in_ok-read_event.ensures.next.1;
      so_far = opens_more c.loop-event.reader.lines.stop c.read_event.new.self.lines.stop start rest left c.read_event.new.event c.loop-event.reader.names c.read_event.new.self.names c.loop-event.reader.lines.number c.read_event.new.self.lines.number
          c.loop-event.invariant.so_far c.in_ok-read_event.ensures.event c.in_ok-read_event.ensures.next.0 c.in_ok-read_event.ensures.next.1 (c.if-not-is_opening.ensures.0 refl);
      journal = c.in_ok-read_event.ensures.journal ∙ c.loop-event.invariant.journal;
      ends = λ base is. c.in_ok-read_event.ensures.ends base (c.loop-event.invariant.ends base is);
      unfailed = c.in_ok-read_event.ensures.source.unfailed (λ is. cc) ∙ c.loop-event.invariant.unfailed;
    }

pub returns-then-not-is_opening-clause-opens : goal.returns-then-not-is_opening-clause-opens
returns-then-not-is_opening-clause-opens g c =
    opens c.loop-event.reader.lines.stop (to_come c.args.reader.now.lines (g.S.Source.left c.args.source.now)) (to_come c.loop-event.reader.lines (g.S.Source.left c.loop-event.source)) c.read_event.new.self.lines (g.S.Source.left c.read_event.new.source)
    c.read_event.new.event c.loop-event.reader.names c.read_event.new.self.names c.loop-event.reader.lines.number c.loop-event.invariant.so_far c.in_ok-read_event.ensures.event c.in_ok-read_event.ensures.next.0 c.in_ok-read_event.ensures.next.1 c.in_ok-read_event.ensures.held (λ opening. (cc (c.if-not-is_opening.ensures.1 opening)))

pub returns-then-not-is_opening-clause-limits : goal.returns-then-not-is_opening-clause-limits
returns-then-not-is_opening-clause-limits g c =
    let start = to_come c.args.reader.now.lines (g.S.Source.left c.args.source.now) in
    let left = to_come c.read_event.new.self.lines (g.S.Source.left c.read_event.new.source) in
    let opened = opens c.loop-event.reader.lines.stop start (to_come c.loop-event.reader.lines (g.S.Source.left c.loop-event.source)) c.read_event.new.self.lines (g.S.Source.left c.read_event.new.source)
    c.read_event.new.event c.loop-event.reader.names c.read_event.new.self.names c.loop-event.reader.lines.number c.loop-event.invariant.so_far c.in_ok-read_event.ensures.event c.in_ok-read_event.ensures.next.0 c.in_ok-read_event.ensures.next.1 c.in_ok-read_event.ensures.held (λ opening. (cc (c.if-not-is_opening.ensures.1 opening))) in
    read_declared start left _ c.read_event.new.self.names c.read_event.new.self.lines.number opened.read

pub returns-in_err-read_event-clause-limits : goal.returns-in_err-read_event-clause-limits
returns-in_err-read_event-clause-limits g c =
    let start = to_come c.args.reader.now.lines (g.S.Source.left c.args.source.now) in
    let rest = to_come c.loop-event.reader.lines (g.S.Source.left c.loop-event.source) in
    let so_far = c.loop-event.invariant.so_far in
    subst (λ (n : NamesState). AreDeclared (declared_by n)) (sym c.in_err-read_event.ensures.lines.1)
    (read_declared start rest so_far.opening c.loop-event.reader.names c.loop-event.reader.lines.number so_far.read)

pub returns-in_err-read_event-clause-stops : goal.returns-in_err-read_event-clause-stops
returns-in_err-read_event-clause-stops g c =
    let start = to_come c.args.reader.now.lines (g.S.Source.left c.args.source.now) in
    let rest = to_come c.loop-event.reader.lines (g.S.Source.left c.loop-event.source) in
    let read = c.read_event.new.self in
    let stop : Stop = c.in_err-read_event.field-0.0 in
    let p = err_from_is_err_and c.from_residual.result c.from_residual.ensures.1 in
    rw (p.1, p.2)
    (opens_stop c.loop-event.reader.lines.stop start rest (g.S.Source.left c.read_event.new.source) read.lines.held c.loop-event.reader.names read.names c.loop-event.reader.lines.number
    (length c.loop-event.reader.journal.entries) (stop_lines stop read.lines.number) (stop_status stop read.lines.number) c.loop-event.invariant.so_far c.in_err-read_event.ensures.stop
    (λ failed. c.in_err-read_event.ensures.going (λ is. let at_source = failed_at_source stop read.lines.number failed in cc (at_source, is)))
    (ap (λ (j : JournalState). length j.entries) c.loop-event.invariant.journal ∙ ap (λ (l : List Entry). length l) c.requires.empty)
    c.in_err-read_event.ensures.lines.0 c.in_err-read_event.ensures.lines.1)
