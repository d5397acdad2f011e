use Rattle.std.proofs.Common.{◌≡◌, ◌∙◌, Some, ap, subst, sym}
use Rattle.ldom_entries.specs.JournalState.{JournalState}
use Rattle.ldom_report.specs.declared.status.Status.{Status}
use Rattle.ldom_report.specs.Stops.{EndsTold, stop_lines, stop_status}
use Rattle.ldom_report.proofs.StopLemmas.{ends_told, readers_of}
use Rattle.script_laws.specs.Going.{run_at}
use Rattle.script_laws.specs.Replayed.{ended_status}
use Rattle.script_laws.proofs.Assembly.{ended_as, replayed_as, replayed_of}
use Rattle.script_laws.proofs.Sizes.{sized_as, sized_run}
use Rattle.disk_law.specs.ListState.{as_image}
use Rattle.ldom_replay.proofs.Beginning.{same_lanes}
use Rattle.ldom_replay.proofs.run.run_world.Goals as goal

pub returns-clause-replayed : goal.returns-clause-replayed
returns-clause-replayed g c start gives opened begins =
    let now = g.S.Source.left c.run_first-stop.new.source in
    let read = c.run_first-stop.new.reader in
    let why : Status = stop_status c.run_first-stop.result read.lines.number in
    let ended_is : c.ended-status.result ≡ ended_status why c.faulty.result = c.ended-status.ensures ∙ ap (λ (w : Status). ended_status w c.faulty.result) c.status.ensures in
    let status_is : c.into_run.result.status ≡ ended_status why c.faulty.result = c.into_run.ensures.status ∙ ended_is in
    replayed_as (as_image g.D.Store) start now gives (ended_status why c.faulty.result) c.into_run.result.status (stop_lines c.run_first-stop.result read.lines.number) c.into_run.result.lines
    read.names c.into_run.result.names read.journal.entries c.into_run.result.journal.entries (Some c.finish-image.result.0) c.into_run.result.image (Some c.finish-image.result.1) c.into_run.result.lanes
    status_is (c.into_run.ensures.lines ∙ c.counted-lines.ensures) c.into_run.ensures.names
    (ap (λ (j : JournalState). j.entries) c.into_run.ensures.journal) c.into_run.ensures.image c.into_run.ensures.lanes
    (replayed_of (as_image g.D.Store) start now gives why c.faulty.result c.args.reader.names c.args.world
    (run_at read.names read.journal.entries c.run_first-stop.new.world (stop_lines c.run_first-stop.result read.lines.number)) c.finish-image.result.0 c.finish-image.result.1 (readers_of c.run_first-stop.result read.lines.number) (c.run_first-stop.ensures.runs start opened) begins
    (record {
      told = c.finish-image.ensures.content;
      faults = c.finish-image.ensures.faults;
      flushes = c.finish-image.ensures.flushes;
      writes = c.finish-image.ensures.writes;
      calls = c.finish-image.ensures.calls;
    })
    (same_lanes c.finish-image.result.1 c.run_first-stop.new.world c.finish-image.ensures.lanes c.finish-image.ensures.ports) c.faulty.ensures)

pub returns-clause-sized : goal.returns-clause-sized
returns-clause-sized g c start gives opened begins long =
    let now = g.S.Source.left c.run_first-stop.new.source in
    let read = c.run_first-stop.new.reader in
    let why : Status = stop_status c.run_first-stop.result read.lines.number in
    let ended_is : c.ended-status.result ≡ ended_status why c.faulty.result = c.ended-status.ensures ∙ ap (λ (w : Status). ended_status w c.faulty.result) c.status.ensures in
    let status_is : c.into_run.result.status ≡ ended_status why c.faulty.result = c.into_run.ensures.status ∙ ended_is in
    sized_as g.D.Store.size gives (ended_status why c.faulty.result) c.into_run.result.status read.names c.into_run.result.names (Some c.finish-image.result.0) c.into_run.result.image
    status_is c.into_run.ensures.names c.into_run.ensures.image
    (sized_run g.D.Store.size start now gives why c.faulty.result c.args.reader.names c.args.world
    (run_at read.names read.journal.entries c.run_first-stop.new.world (stop_lines c.run_first-stop.result read.lines.number)) c.finish-image.result.0 (readers_of c.run_first-stop.result read.lines.number) (c.run_first-stop.ensures.runs start opened) begins c.finish-image.ensures.size long)

pub returns-clause-ends : goal.returns-clause-ends
returns-clause-ends g c base is =
    let now = g.S.Source.ends c.run_first-stop.new.source in
    let read = c.run_first-stop.new.reader in
    let why : Status = stop_status c.run_first-stop.result read.lines.number in
    let ended_is : c.ended-status.result ≡ ended_status why c.faulty.result = c.ended-status.ensures ∙ ap (λ (w : Status). ended_status w c.faulty.result) c.status.ensures in
    let told : EndsTold why base now =
    ends_told c.run_first-stop.result read.lines.number read.lines.stop base now c.run_first-stop.ensures.stands (c.run_first-stop.ensures.ends base is) in
    subst (λ (w : Status). EndsTold w base now) (sym (c.into_run.ensures.status ∙ ended_is))
    (ended_as (λ (w : Status). EndsTold w base now) why c.faulty.result (readers_of c.run_first-stop.result read.lines.number) (λ t. t) told)
