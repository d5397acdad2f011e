use Rattle.std.proofs.Common.{◌≡◌, inl, List, [], ℕ, ◌*◌, ◌∙◌, Option, None, arith, refl, ap, rules, subst, sym}
use Rattle.domain_script.specs.ScriptEvents.{no_names}
use Rattle.script_reader.specs.LinesState.{GoesOn, LinesState, ends_after}
use Rattle.ldom_entries.specs.JournalState.{JournalState}
use Rattle.ldom_report.specs.declared.status.Status.{Status}
use Rattle.ldom_report.specs.declared.status.Status.TheVariants as status
use Rattle.ldom_report.specs.declared.stop.Stop.{Stop}
use Rattle.ldom_report.specs.Stops.{EndsTold, ReaderStandsAt, stop_lines, stop_status}
use Rattle.ldom_report.proofs.StopLemmas.{done_at_end, ends_told, readers_of}
use Rattle.script_laws.specs.Opening.{Opens, OpensAndStops}
use Rattle.script_laws.proofs.Assembly.{from_start, replayed_as, replayed_none, replayed_unattached}
use Rattle.disk_law.specs.ListState.{as_image}
use Rattle.ldom_world.specs.world_parts.Declared.{blocks_of}
use Rattle.script_laws.proofs.Sizes.{sized_as, sized_none}
use Rattle.ldom_replay.proofs.Holding.{gave_as}
use Rattle.ldom_replay.proofs.run.run_script.Goals as goal

pub returns-in-Err-clause-replayed : goal.returns-in-Err-clause-replayed
returns-in-Err-clause-replayed g c =
    let seen = as_image g.H.Disk.Store in
    let left = g.S.Source.left c.args.source.now in
    let gives = g.H.Host.gives c.args.host.now c.args.name.now in
    replayed_as seen left left gives status.NoMemory c.without_memory.result.status 0 c.without_memory.result.lines no_names c.without_memory.result.names
    [] c.without_memory.result.journal.entries None c.without_memory.result.image None c.without_memory.result.lanes
    c.without_memory.ensures.status c.without_memory.ensures.lines c.without_memory.ensures.names c.without_memory.ensures.journal c.without_memory.ensures.image c.without_memory.ensures.lanes
    (replayed_none seen left left gives no_names refl refl)

-- the source wasn't asked
pub returns-in-Err-clause-ends : goal.returns-in-Err-clause-ends
returns-in-Err-clause-ends g c =
    let base : ℕ = g.S.Source.ends c.args.source.now in
    subst (λ (w : Status). EndsTold w base base) (sym c.without_memory.ensures.status) (inl refl)

pub returns-in_default : goal.returns-in_default
returns-in_default g c =
    let left = g.S.Source.left c.args.source.now in
    let gives = g.H.Host.gives c.args.host.now c.args.name.now in
    let read = c.read_opening.new.reader in
    let why : Status = stop_status c.in-Err-read_opening.stop read.lines.number in
    let lines : ℕ = stop_lines c.in-Err-read_opening.stop read.lines.number in
    let base : ℕ = g.S.Source.ends c.args.source.now in
    let begun : base ≡ ends_after c.in-Ok.reader.lines.stop base = sym (ap (λ (l : LinesState). ends_after l.stop base) c.in-Ok.ensures.lines) in
    record {
      replayed =
          replayed_as (as_image g.H.Disk.Store) left (g.S.Source.left c.read_opening.new.source) gives why c.into_run.result.status lines c.into_run.result.lines
          read.names c.into_run.result.names [] c.into_run.result.journal.entries None c.into_run.result.image None c.into_run.result.lanes
          (c.into_run.ensures.status ∙ c.status-status.ensures) (c.into_run.ensures.lines ∙ c.counted-lines.ensures) c.into_run.ensures.names
          (ap (λ (j : JournalState). j.entries) (c.into_run.ensures.journal ∙ c.read_opening.ensures.journal ∙ c.in-Ok.ensures.journal)) c.into_run.ensures.image c.into_run.ensures.lanes
          (replayed_unattached (as_image g.H.Disk.Store) left (g.S.Source.left c.read_opening.new.source) gives why read.names lines
          (readers_of c.in-Err-read_opening.stop read.lines.number) (done_at_end c.in-Err-read_opening.stop read.lines.number c.in_default.not-End)
          (subst (λ (start : Option (List ℕ)). OpensAndStops start (g.S.Source.left c.read_opening.new.source) why read.names lines) (from_start c.in-Ok.reader.lines left (ap (λ (l : LinesState). l.held) c.in-Ok.ensures.lines)) c.in-Err-read_opening.ensures.stops));
      sized = sized_as g.H.Disk.Store.size gives why c.into_run.result.status read.names c.into_run.result.names None c.into_run.result.image
          (c.into_run.ensures.status ∙ c.status-status.ensures) c.into_run.ensures.names c.into_run.ensures.image
          (sized_none g.H.Disk.Store.size why (512 * blocks_of read.names.disks) (gives (512 * blocks_of read.names.disks)) (readers_of c.in-Err-read_opening.stop read.lines.number));
      source = record { unfailed = search rules; count = search rules; cause = search rules; once = search rules };
      host = record { unfailed = search rules; count = omega arith; cause = search rules; once = search rules };
      image = gave_as _ _ None c.into_run.result.image c.into_run.ensures.image refl;
      ends = subst (λ (w : Status). EndsTold w base (g.S.Source.ends c.read_opening.new.source)) (sym (c.into_run.ensures.status ∙ c.status-status.ensures))
          (ends_told c.in-Err-read_opening.stop read.lines.number read.lines.stop base (g.S.Source.ends c.read_opening.new.source)
          c.in-Err-read_opening.ensures.stands (c.read_opening.ensures.ends base begun));
    }

pub returns-in-Ok-read_opening-clause-replayed : goal.returns-in-Ok-read_opening-clause-replayed
returns-in-Ok-read_opening-clause-replayed g c =
    let left = g.S.Source.left c.args.source.now in
    let read = c.read_opening.new.reader in
    c.attach.ensures.replayed left
    (subst (λ (start : Option (List ℕ)). Opens start read.lines (g.S.Source.left c.read_opening.new.source) c.in-Ok-read_opening.event read.names)
    (from_start c.in-Ok.reader.lines left (ap (λ (l : LinesState). l.held) c.in-Ok.ensures.lines)) c.in-Ok-read_opening.ensures.opens)

pub returns-in-End-clause-replayed : goal.returns-in-End-clause-replayed
returns-in-End-clause-replayed g c =
    let left = g.S.Source.left c.args.source.now in
    let now = g.S.Source.left c.read_opening.new.source in
    let read = c.read_opening.new.reader in
    c.attach-in-End.ensures.replayed left
    (subst (λ (stop : Stop). OpensAndStops left now (stop_status stop read.lines.number) read.names (stop_lines stop read.lines.number)) c.in-End.is
    (subst (λ (start : Option (List ℕ)). OpensAndStops start now (stop_status c.in-Err-read_opening.stop read.lines.number) read.names (stop_lines c.in-Err-read_opening.stop read.lines.number))
    (from_start c.in-Ok.reader.lines left (ap (λ (l : LinesState). l.held) c.in-Ok.ensures.lines)) c.in-Err-read_opening.ensures.stops))

pub read_opening-requires-clause-goes : goal.read_opening-requires-clause-goes
read_opening-requires-clause-goes g c = subst (λ (l : LinesState). GoesOn l (g.S.Source.left c.args.source.now)) (sym c.in-Ok.ensures.lines) tt

pub returns-in-Ok-read_opening-clause-ends : goal.returns-in-Ok-read_opening-clause-ends
returns-in-Ok-read_opening-clause-ends g c =
    let base : ℕ = g.S.Source.ends c.args.source.now in
    let begun : base ≡ ends_after c.in-Ok.reader.lines.stop base = sym (ap (λ (l : LinesState). ends_after l.stop base) c.in-Ok.ensures.lines) in
    c.attach.ensures.ends base (c.read_opening.ensures.ends base begun)

pub returns-in-End-clause-ends : goal.returns-in-End-clause-ends
returns-in-End-clause-ends g c =
    let base : ℕ = g.S.Source.ends c.args.source.now in
    let begun : base ≡ ends_after c.in-Ok.reader.lines.stop base = sym (ap (λ (l : LinesState). ends_after l.stop base) c.in-Ok.ensures.lines) in
    c.attach-in-End.ensures.ends base (c.read_opening.ensures.ends base begun)

-- a script that has nothing but declarations was read to its end
pub attach-requires-in-End-clause-ended : goal.attach-requires-in-End-clause-ended
attach-requires-in-End-clause-ended g c none = subst (λ (stop : Stop). ReaderStandsAt stop c.read_opening.new.reader.lines.stop) c.in-End.is c.in-Err-read_opening.ensures.stands
