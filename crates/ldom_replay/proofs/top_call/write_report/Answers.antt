use Rattle.std.proofs.Common.{rules, ◌≡◌, List, ℕ, ◌++◌, sym, subst}
use Rattle.std.proofs.KnownBytes.{Appends-trans}
use Rattle.std.specs.Io.KnownBytes.{Appends}
use Rattle.domain_script.specs.NamesState.{declared_by}
use Rattle.ldom_report.specs.EntryText.{report_entries}
use Rattle.gathered_text.specs.Gathered.{WroteFront}
use Rattle.ldom_report.specs.Report.{last_line, report}
use Rattle.gathered_text.proofs.GatheredText.{on_err_then, on_ok_then, wrote_front_appended, wrote_front_of_more}
use Rattle.ldom_report.proofs.ReportLines.{report_parts}
use Rattle.ldom_replay.proofs.top_call.write_report.Goals as goal

pub returns-in_err-write_text-clause-err : goal.returns-in_err-write_text-clause-err
returns-in_err-write_text-clause-err g c =
    let whole : List ℕ = report c.args.mode (declared_by c.args.names.now) c.args.lines c.args.journal.now.entries c.args.status.now in
    let entries : List ℕ = report_entries c.args.mode (declared_by c.args.names.now) c.args.journal.now.entries in
    let last : List ℕ = last_line c.args.lines c.args.journal.now.entries c.args.status.now in
    let parts : entries ++ last ≡ whole =
    report_parts c.args.mode (declared_by c.args.names.now) c.args.lines c.args.journal.now.entries c.args.status.now (λ is. absurd (c.requires.ran is)) in
    let wrote : WroteFront (g.K.Sink.written c.args.out.now) (g.K.Sink.written c.write_text.new.out) whole =
    wrote_front_of_more _ _ entries last whole (sym parts) c.in_err-write_text.ensures.front in
    search rules

pub returns-clause-ok : goal.returns-clause-ok
returns-clause-ok g c =
    let entries : List ℕ = report_entries c.args.mode (declared_by c.args.names.now) c.args.journal.now.entries in
    let last : List ℕ = last_line c.args.lines c.args.journal.now.entries c.args.status.now in
    on_ok_then c.write_end.result
    (λ told. subst (λ (l : List ℕ). Appends (g.K.Sink.written c.args.out.now) (g.K.Sink.written c.write_end.new.out) l)
    (report_parts c.args.mode (declared_by c.args.names.now) c.args.lines c.args.journal.now.entries c.args.status.now (λ is. absurd (c.requires.ran is)))
    (Appends-trans (g.K.Sink.written c.args.out.now) (g.K.Sink.written c.write_text.new.out) (g.K.Sink.written c.write_end.new.out) entries last c.in_ok-write_text.ensures.told told))
    c.write_end.ensures.told

pub returns-clause-err : goal.returns-clause-err
returns-clause-err g c =
    let entries : List ℕ = report_entries c.args.mode (declared_by c.args.names.now) c.args.journal.now.entries in
    let last : List ℕ = last_line c.args.lines c.args.journal.now.entries c.args.status.now in
    on_err_then c.write_end.result
    (λ front. subst (λ (l : List ℕ). WroteFront (g.K.Sink.written c.args.out.now) (g.K.Sink.written c.write_end.new.out) l)
    (report_parts c.args.mode (declared_by c.args.names.now) c.args.lines c.args.journal.now.entries c.args.status.now (λ is. absurd (c.requires.ran is)))
    (wrote_front_appended (g.K.Sink.written c.args.out.now) (g.K.Sink.written c.write_text.new.out) (g.K.Sink.written c.write_end.new.out) entries last c.in_ok-write_text.ensures.told front))
    c.write_end.ensures.front
