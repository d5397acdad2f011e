use Rattle.std.proofs.Common.{◌∙◌, ap, refl, subst, sym}
use Rattle.ldom_entries.specs.JournalState.{JournalState}
use Rattle.ldom_report.specs.declared.status.Status.{Status}
use Rattle.script_laws.specs.Going.{run_at}
use Rattle.script_reader.specs.LinesState.{to_come}
use Rattle.ldom_report.specs.Stops.{stop_lines, stop_status}
use Rattle.script_laws.proofs.ReadLemmas.{same_disks, same_ports, still_ended}
use Rattle.script_laws.proofs.LineCases.{asks_something, for_declared}
use Rattle.ldom_world.specs.world_parts.Lines.{line_of}
use Rattle.ldom_world.specs.world_parts.Parts.{Fits, FitsSoFar}
use Rattle.ldom_replay.specs.NamesLanes.{HasLanes}
use Rattle.ldom_replay.proofs.Beginning.{has_still}
use Rattle.script_laws.proofs.RunLemmas.{runs_cut, runs_more, runs_none, runs_stop}
use Rattle.ldom_report.proofs.StopLemmas.{failed_at_source, readers_of, wanted_memory}
use Rattle.ldom_replay.proofs.run.run_lines.Goals as goal

pub loop-stop-init : goal.loop-stop-init
loop-stop-init g c =
    let start = to_come c.args.reader.now.lines (g.S.Source.left c.args.source.now) in
    record {
      goes = c.requires.goes;
      few = c.requires.few;
      ended = c.requires.ended;
      lanes = c.requires.lanes;
      agrees = c.requires.agrees;
      going = λ going. going;
      so_far = runs_none c.args.reader.now.lines.stop start (run_at c.args.reader.now.names c.args.reader.now.journal.entries c.args.world.now c.args.reader.now.lines.number) c.requires.few;
      ends = λ base is. is;
      unfailed = refl;
    }

pub loop-stop-preserved : goal.loop-stop-preserved
loop-stop-preserved g c =
    let start = to_come c.args.reader.now.lines (g.S.Source.left c.args.source.now) in
    let rest = to_come c.loop-stop.reader.lines (g.S.Source.left c.loop-stop.source) in
    let left = to_come c.read_event.new.self.lines (g.S.Source.left c.read_event.new.source) in
    let names = c.loop-stop.reader.names in
    let after = c.read_event.new.self.names in
    record {
      goes = c.in-Ok.ensures.next.2;
      few = c.in-Ok.ensures.next.1;
      ended = still_ended rest left c.read_event.new.event c.loop-stop.reader.names c.read_event.new.self.names c.in-Ok.ensures.event c.loop-stop.invariant.ended;
      lanes = has_still names after c.loop-stop.world c.apply.new.self
          (same_disks rest left c.read_event.new.event names after c.in-Ok.ensures.event c.loop-stop.invariant.ended)
          (same_ports rest left c.read_event.new.event names after c.in-Ok.ensures.event c.loop-stop.invariant.ended)
          c.in-Ok-apply.ensures.many c.loop-stop.invariant.lanes;
      agrees = c.in-Ok-apply.ensures.agrees;
      going = λ _. c.loop-stop.invariant.going (c.in-Ok.ensures.going (λ is. cc is));
      so_far = runs_more c.loop-stop.reader.lines.stop c.read_event.new.self.lines.stop start rest left
          (run_at c.args.reader.now.names c.args.reader.now.journal.entries c.args.world.now c.args.reader.now.lines.number)
          (run_at names c.loop-stop.reader.journal.entries c.loop-stop.world c.loop-stop.reader.lines.number)
          (run_at after c.apply.new.journal.entries c.apply.new.self c.read_event.new.self.lines.number) c.read_event.new.event
          c.loop-stop.invariant.so_far c.in-Ok.ensures.event c.in-Ok.ensures.next.0 c.in-Ok.ensures.next.1 c.in-Ok.ensures.below
          (subst (λ (j : JournalState). Fits c.loop-stop.world (line_of c.read_event.new.event) j.entries c.apply.new.journal.entries c.apply.new.self) c.in-Ok.ensures.journal c.in-Ok-apply.ensures.fits);
      ends = λ base is. c.in-Ok.ensures.ends base (c.loop-stop.invariant.ends base is);
      unfailed = c.in-Ok.ensures.source.unfailed (λ is. cc) ∙ c.loop-stop.invariant.unfailed;
    }

pub returns-in-Err-apply-clause-runs : goal.returns-in-Err-apply-clause-runs
returns-in-Err-apply-clause-runs g c =
    runs_cut (to_come c.args.reader.now.lines (g.S.Source.left c.args.source.now)) (to_come c.loop-stop.reader.lines (g.S.Source.left c.loop-stop.source)) (g.S.Source.left c.read_event.new.source) c.read_event.new.self.lines.held
    (run_at c.args.reader.now.names c.args.reader.now.journal.entries c.args.world.now c.args.reader.now.lines.number)
    (run_at c.loop-stop.reader.names c.loop-stop.reader.journal.entries c.loop-stop.world c.loop-stop.reader.lines.number)
    (run_at c.read_event.new.self.names c.apply.new.journal.entries c.apply.new.self c.read_event.new.self.lines.number) c.read_event.new.event
    c.loop-stop.invariant.so_far c.in-Ok.ensures.event c.in-Ok.ensures.next.0 c.in-Ok.ensures.next.1 c.in-Ok.ensures.below
    (subst (λ (j : JournalState). FitsSoFar c.loop-stop.world (line_of c.read_event.new.event) j.entries c.apply.new.journal.entries c.apply.new.self) c.in-Ok.ensures.journal c.in-Err-apply.ensures.so_far)
    (asks_something c.read_event.new.event (λ none. cc (c.in-Err-apply.ensures.nothing none).0))
    (still_ended (to_come c.loop-stop.reader.lines (g.S.Source.left c.loop-stop.source)) (to_come c.read_event.new.self.lines (g.S.Source.left c.read_event.new.source)) c.read_event.new.event
    c.loop-stop.reader.names c.read_event.new.self.names c.in-Ok.ensures.event c.loop-stop.invariant.ended)
    c.in-Ok.ensures.held

pub returns-in-Err-clause-runs : goal.returns-in-Err-clause-runs
returns-in-Err-clause-runs g c =
    let start = to_come c.args.reader.now.lines (g.S.Source.left c.args.source.now) in
    let rest = to_come c.loop-stop.reader.lines (g.S.Source.left c.loop-stop.source) in
    let now = g.S.Source.left c.read_event.new.source in
    let read = c.read_event.new.self in
    let why : Status = stop_status c.in-Err.stop read.lines.number in
    runs_stop c.loop-stop.reader.lines.stop start rest now read.lines.held
    (run_at c.args.reader.now.names c.args.reader.now.journal.entries c.args.world.now c.args.reader.now.lines.number)
    (run_at c.loop-stop.reader.names c.loop-stop.reader.journal.entries c.loop-stop.world c.loop-stop.reader.lines.number)
    read.names read.journal.entries (stop_lines c.in-Err.stop read.lines.number) why (readers_of c.in-Err.stop read.lines.number) c.loop-stop.invariant.so_far c.in-Err.ensures.stop
    (λ failed. c.in-Err.ensures.going (λ is. let at_source = failed_at_source c.in-Err.stop read.lines.number failed in cc (at_source, is)))
    (λ wanted. c.in-Err.ensures.memory (wanted_memory c.in-Err.stop read.lines.number wanted)) c.in-Err.ensures.lines.0 c.in-Err.ensures.lines.1
    (ap (λ (j : JournalState). j.entries) c.in-Err.ensures.journal)

pub apply-requires-clause-event : goal.apply-requires-clause-event
apply-requires-clause-event g c =
    let rest = to_come c.loop-stop.reader.lines (g.S.Source.left c.loop-stop.source) in
    let left = to_come c.read_event.new.self.lines (g.S.Source.left c.read_event.new.source) in
    let names = c.loop-stop.reader.names in
    let after = c.read_event.new.self.names in
    let lanes : HasLanes after c.loop-stop.world = has_still names after c.loop-stop.world c.loop-stop.world
    (same_disks rest left c.read_event.new.event names after c.in-Ok.ensures.event c.loop-stop.invariant.ended)
    (same_ports rest left c.read_event.new.event names after c.in-Ok.ensures.event c.loop-stop.invariant.ended)
    (record { disks = refl; ports = refl }) c.loop-stop.invariant.lanes in
    for_declared after c.loop-stop.world lanes.disks lanes.ports c.read_event.new.event c.in-Ok.ensures.declared
