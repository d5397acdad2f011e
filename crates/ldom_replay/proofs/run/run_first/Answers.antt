use Rattle.std.proofs.Common.{◌∙◌, List, Option, IfSome, IsNone, IsSome, refl, subst, sym}
use Rattle.domain_script.specs.declared.event.Event.{Event}
use Rattle.ldom_entries.specs.declared.entry.Entry.{Entry}
use Rattle.ldom_report.specs.declared.status.Status.TheVariants as status
use Rattle.ldom_report.specs.Stops.{stop_lines, stop_status}
use Rattle.script_laws.specs.Going.{RunsAll, run_at}
use Rattle.script_laws.specs.Opening.{OpensOrStops}
use Rattle.ldom_world.specs.world_parts.Lines.{line_of}
use Rattle.ldom_world.specs.world_parts.Parts.{Fits, FitsSoFar}
use Rattle.domain_script.specs.Spells.{IsDeclared}
use Rattle.script_laws.proofs.LineCases.{for_declared}
use Rattle.script_laws.proofs.Assembly.{runs_all, runs_first_cut, runs_none_more}
use Rattle.ldom_report.proofs.StopLemmas.{failed_at_source, readers_of}
use Rattle.ldom_replay.proofs.run.run_first.Goals as goal

pub returns-in-None-clause-runs : goal.returns-in-None-clause-runs
returns-in-None-clause-runs g c start opened =
    let now = g.S.Source.left c.args.source.now in
    subst (λ (l : List Entry). RunsAll start now c.args.reader.now.names c.args.world.now status.Done (run_at c.args.reader.now.names l c.args.world.now c.args.reader.now.lines.number)) (sym c.requires.journal)
    (runs_none_more start now c.args.reader.now.names c.args.world.now c.args.reader.now.lines.number
    (subst (λ (first : Option Event). OpensOrStops start c.args.reader.now.lines now first c.args.reader.now.names) c.in-None.is opened))

pub returns-in-Ok-clause-runs : goal.returns-in-Ok-clause-runs
returns-in-Ok-clause-runs g c start opened =
    let now = g.S.Source.left c.args.source.now in
    runs_all start (g.S.Source.left c.run_lines.new.source) c.args.reader.now.lines now c.in-Some.event c.args.reader.now.names c.args.world.now c.apply.new.self c.apply.new.journal.entries
    (stop_status c.run_lines.result c.run_lines.new.reader.lines.number)
    (run_at c.run_lines.new.reader.names c.run_lines.new.reader.journal.entries c.run_lines.new.world (stop_lines c.run_lines.result c.run_lines.new.reader.lines.number))
    (readers_of c.run_lines.result c.run_lines.new.reader.lines.number)
    (subst (λ (first : Option Event). OpensOrStops start c.args.reader.now.lines now first c.args.reader.now.names) c.in-Some.is opened)
    (subst (λ (l : List Entry). Fits c.args.world.now (line_of c.in-Some.event) l c.apply.new.journal.entries c.apply.new.self) c.requires.journal c.in-Ok.ensures.fits)
    c.run_lines.ensures.runs (λ failed. c.run_lines.ensures.going (failed_at_source c.run_lines.result c.run_lines.new.reader.lines.number failed))

pub returns-in-Err-clause-runs : goal.returns-in-Err-clause-runs
returns-in-Err-clause-runs g c start opened =
    let now = g.S.Source.left c.args.source.now in
    runs_first_cut start now c.args.reader.now.lines c.in-Some.event c.args.reader.now.names c.args.world.now c.apply.new.self c.apply.new.journal.entries
    (subst (λ (first : Option Event). OpensOrStops start c.args.reader.now.lines now first c.args.reader.now.names) c.in-Some.is opened)
    (subst (λ (l : List Entry). FitsSoFar c.args.world.now (line_of c.in-Some.event) l c.apply.new.journal.entries c.apply.new.self) c.requires.journal c.in-Err.ensures.so_far)

pub run_lines-requires-clause-goes : goal.run_lines-requires-clause-goes
run_lines-requires-clause-goes g c = (c.requires.goes (subst (λ (first : Option Event). IsSome first) (sym c.in-Some.is) refl)).0

pub run_lines-requires-clause-lanes : goal.run_lines-requires-clause-lanes
run_lines-requires-clause-lanes g c = record {
  disks = c.in-Ok.ensures.many.disks ∙ c.requires.lanes.disks;
  ports = c.in-Ok.ensures.many.ports ∙ c.requires.lanes.ports;
}

pub apply-requires-clause-event : goal.apply-requires-clause-event
apply-requires-clause-event g c =
    let names = c.args.reader.now.names in
    let declared : IsDeclared names c.in-Some.event = subst (λ (first : Option Event). IfSome first (IsDeclared names)) c.in-Some.is c.requires.declared in
    for_declared names c.args.world.now c.requires.lanes.disks c.requires.lanes.ports c.in-Some.event declared

pub returns-in-None-clause-stands : goal.returns-in-None-clause-stands
returns-in-None-clause-stands g c = c.requires.ended (subst (λ (first : Option Event). IsNone first) (sym c.in-None.is) refl)
