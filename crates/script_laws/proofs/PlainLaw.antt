-- A quiet script that fits its journal without a fault is what the plain run makes of it.
use Rattle.std.proofs.Common.{◌≡◌, ℕ, ◌+◌, ◌*◌, ◌≤◌, List, [], ◌∷◌, ◌++◌, length, map, refl, sym, ◌∙◌, ap, subst, arith, None, Some}
use Rattle.std.proofs.lemmas.List.FromFn.{length-range_with_len}
use Rattle.runs.specs.Run.{Run}
use Rattle.disk_law.specs.ListState.{ImageState}
use Rattle.domain_script.specs.Declarations.{IsDisk}
use Rattle.domain_script.specs.declared.event.DiskDecl.{DiskDecl}
use Rattle.domain_script.specs.declared.event.Event.{Event}
use Rattle.world_parts.specs.world_laws.Settle.{SettleEntry}
use Rattle.world_parts.specs.world_laws.World.{WorldState}
use Rattle.world_parts.proofs.domain_laws.Running.{disks_run}
use Rattle.world_parts.proofs.domain_laws.ScriptEntries.{lines_run}
use Rattle.world_parts.specs.domain_laws.Domain.{DomainState, fresh_domain}
use Rattle.world_parts.specs.domain_laws.Lines.{Line, LineStep, entries_of_lines}
use Rattle.ldom_report.specs.EntryText.{report_entries}
use Rattle.ldom_report.specs.Report.{accepted_count, done_count, end_line, frame_count, report, reset_count}
use Rattle.ldom_entries.specs.declared.entry.Entry.{Entry}
use Rattle.ldom_report.specs.declared.status.Mode.TheVariants as mode
use Rattle.ldom_report.specs.declared.status.Status.TheVariants as status
use Rattle.script_laws.proofs.EndLine.{ends_agree}
use Rattle.script_laws.proofs.LaneReport.{SaysSame, Told, ids_in, told_lanes, told_part}
use Rattle.script_laws.proofs.PlainGrows.{Grows, ids_below, listed, run_grows, run_same}
use Rattle.script_laws.proofs.LineLists.{RanWhole, ran_whole}
use Rattle.script_laws.proofs.QuietLanes.{disk_front, disk_shape, quiet_events}
use Rattle.script_laws.proofs.ThroughLanes.{ThroughLanes, all_shown, of_disks, through_lanes}
use Rattle.script_laws.specs.PlainRun.{Plain, one_disk, plain_content, plain_ids, plain_run, plain_text, untouched}
use Rattle.script_laws.specs.Quiet.{IsQuiet}
use Rattle.script_laws.specs.Completed.{completed_ids}
use Rattle.world_parts.specs.Declared.{shape_of, world_of}
use Rattle.world_parts.specs.Lines.{line_of}
use Rattle.world_parts.specs.Script.{FitsScript, ScriptParts, entries_in, events_in, events_of, journal_of}
use Rattle.world_parts.proofs.domain_laws.QuietLines.{lines_before, quiet_lines}
use Rattle.world_parts.specs.domain_laws.PlainLines as plain_lines
use Rattle.world_parts.specs.domain_laws.Quiet as quiet_world
use Rattle.world_parts.specs.domain_laws.Quiet.{RunsPlainly, RunsQuietly, lines_of, shown_of}
use Rattle.world_parts.specs.world_laws.Plain as lanes
use Rattle.world_parts.specs.world_laws.Quiet.{IsPlain}
use Rattle.world_parts.proofs.world_laws.Counting.{world_counts}
use Rattle.world_parts.specs.world_laws.Accepted.{accepted_in, next_ids}

-- WHAT A QUIET SCRIPT COMES TO: the report's text, the image's bytes and the completed ids are those of the plain run
pub record PlainLaw (disk : DiskDecl) (content : List ℕ) (events : List Event) (journal : List Entry) (v : WorldState)
    : Type 0 where
  pub text : report mode.Run (one_disk disk) (length events) journal status.Done ≡ plain_text disk content events
  pub told : v.image.told ≡ Some (plain_content disk content events)
  pub ids : completed_ids journal ≡ plain_ids disk content events

-- the plain run after the script
abbrev ran : DiskDecl → List ℕ → List Event → Plain
ran disk content events = plain_run disk (untouched content) events

-- THE PLAIN RUN has what the journal tells: its lines, its counts and its ids
record Tells (disk : DiskDecl) (journal : List Entry) (v : WorldState) (p : Plain) : Type 0 where
  text : report_entries mode.Run (one_disk disk) journal ≡ p.text
  ids : completed_ids journal ≡ ids_below p
  done : done_count journal ≡ p.completed
  accepted : accepted_count journal ≡ p.completed + length p.waiting
  resets : reset_count journal ≡ 0
  frames : frame_count journal ≡ 0
  told : v.image.told ≡ Some p.content

-- and what lines of lanes show
record ShowsPlain (disk : DiskDecl) (content : List ℕ) (events : List Event) (lines : List (Line × List SettleEntry))
    (v : WorldState) : Type 0 where
  shows : shown_of lines ≡ plain_lines.plain_journal (shape_of 0 disk) (lanes.untouched content) (map line_of events)
  ends : IsPlain (listed (ran disk content events)) v

shows_plain : (disk : DiskDecl) (content : List ℕ) (events : List Event) (lines : List (Line × List SettleEntry))
    (v : DomainState) → lines_of lines ≡ map line_of events → RunsPlainly (shape_of 0 disk) content lines v
    → ShowsPlain disk content events lines v.first
shows_plain disk content events lines v are runs = grind (arith, run_same)

-- the next id of the one lane counts what was accepted
accepted_all : (disk : DiskDecl) (image : ImageState) (lines : List (Line × List SettleEntry)) (v : DomainState)
    (p : lanes.Plain) → IsDisk disk → Run LineStep (fresh_domain (shape_of 0 disk ∷ []) image []) lines v → IsPlain p v.first
    → accepted_in (entries_of_lines lines) ≡ p.completed + length p.waiting
accepted_all disk image lines v p is run plain =
    let shape = shape_of 0 disk in
    let start = fresh_domain (shape ∷ []) image [] in
    let entries_run = disks_run start (entries_of_lines lines) v (lines_run start lines v run) in
    let sum = world_counts (shape ∷ []) image (entries_of_lines lines) v.first (disk_shape disk is, refl, tt) entries_run in
    let ids = ap next_ids plain.lanes in
    let accepted = plain.accepted in
    omega (arith, sum, ids, accepted)

tells_plain : (disk : DiskDecl) (content : List ℕ) (events : List Event) (journal : List Entry)
    (lines : List (Line × List SettleEntry)) (v : WorldState) → SaysSame disk journal (entries_of_lines lines)
    → (shows : ShowsPlain disk content events lines v)
    → accepted_in (entries_of_lines lines) ≡ (ran disk content events).completed + length (ran disk content events).waiting
    → Tells disk journal v (ran disk content events)
tells_plain disk content events journal lines v says shows accepted =
    let p = ran disk content events in
    let shown_same = all_shown disk lines in
    let told : told_part disk journal ≡ told_lanes disk (shown_of lines) = says.0 ∙ shown_same in
    let grows : Grows disk (untouched content) (shown_of lines) p =
    subst (λ (l : List SettleEntry). Grows disk (untouched content) l p) (sym shows.shows)
    (run_grows disk (untouched content) events) in
    let ids : ids_in (shown_of lines) ≡ ids_below p = sym grows.ids in
    let long : length (ids_in (shown_of lines)) ≡ p.completed =
    ap (λ (l : List ℕ). length l) ids ∙ length-range_with_len 0 p.completed in
    record {
      text = ap (λ (t : Told). t.text) told ∙ sym grows.text;
      ids = ap (λ (t : Told). t.ids) told ∙ ids;
      done = ap (λ (t : Told). t.done) told ∙ long;
      accepted = says.1 ∙ accepted;
      resets = ap (λ (t : Told). t.resets) told ∙ grows.resets;
      frames = ap (λ (t : Told). t.frames) told;
      told = shows.ends.told;
    }

told_plain : (disk : DiskDecl) (content : List ℕ) (events : List Event) (journal : List Entry) (v : WorldState)
    → Tells disk journal v (ran disk content events) → PlainLaw disk content events journal v
told_plain disk content events journal v tells =
    let p = ran disk content events in
    let lines = length events in
    let ends = ends_agree journal p lines tells.done tells.accepted tells.resets tells.frames in
    record {
      text = ap (λ (l : List ℕ). l ++ end_line lines journal status.Done) tells.text
          ∙ ap (λ (l : List ℕ). p.text ++ l) ends;
      told = tells.told;
      ids = tells.ids;
    }

-- A QUIET SCRIPT whose journal fits, over an image that tells its bytes, is long enough and never failed
pub plain_law : (disk : DiskDecl) (image : ImageState) (content : List ℕ) (parts : ScriptParts) (v : DomainState)
    → IsDisk disk → image.told ≡ Some content → 512 * disk.blocks ≤ length content → IsQuiet disk (events_of parts)
    → parts.cut ≡ None → FitsScript 0 (world_of (disk ∷ []) [] image) parts v → v.first.image.faults ≡ 0
    → PlainLaw disk content (events_of parts) (journal_of parts) v.first
plain_law disk image content parts v is told holds quiet none_cut fits well =
    let shape = shape_of 0 disk in
    let events : List Event = events_of parts in
    let w : DomainState = world_of (disk ∷ []) [] image in
    let whole : RanWhole 0 w parts v = ran_whole 0 w parts v none_cut fits in
    let calm = subst (λ (l : List (Event × List Entry)). quiet_world.AreQuiet (map line_of (events_in l))) whole.lines_are
    (quiet_events disk events quiet) in
    let through : ThroughLanes w parts.whole v = through_lanes w parts.whole v calm whole.run in
    let are : lines_of through.lanes ≡ map line_of events =
    through.lines_are ∙ ap (λ (l : List (Event × List Entry)). map line_of (events_in l)) (sym whole.lines_are) in
    let quiet_lanes = subst (λ (l : List Line). quiet_world.AreQuiet l) (sym are) (quiet_events disk events quiet) in
    let runs : RunsQuietly shape image through.lanes v =
    record { quiet = quiet_lanes; run = through.run; well = well } in
    let first : image.faults ≡ 0 = lines_before w through.lanes v through.run well in
    let plainly = quiet_lines shape image content through.lanes v (disk_front disk image content is told holds first) runs in
    let shows = shows_plain disk content events through.lanes v are plainly in
    let says : SaysSame disk (journal_of parts) (entries_of_lines through.lanes) =
    subst (λ (l : List (Event × List Entry)). SaysSame disk (entries_in l) (entries_of_lines through.lanes))
    (sym whole.lines_are) (through.same disk (of_disks (shape ∷ []) image through.lanes v through.run)) in
    let p = listed (ran disk content events) in
    let accepted = accepted_all disk image through.lanes v p is through.run shows.ends in
    let tells = tells_plain disk content events (journal_of parts) through.lanes v.first says shows accepted in
    told_plain disk content events (journal_of parts) v.first tells
