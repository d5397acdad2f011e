-- A journal that fits leads the lanes of the declared disks line by line, and what its entries are for them is their
-- run.
use Rattle.std.proofs.Common.{◌≡◌, ℕ, suc, Option, Some, None, List, [], ◌∷◌, ◌++◌, length, map, slice_get, slice_set, sym, ap, ◌∙◌, subst, arith}
use Rattle.runs.specs.Run.{Run, run_append}
use Rattle.disk_law.specs.ListState.{ImageState}
use Rattle.world_parts.specs.lane_models.LaneState.{LaneState}
use Rattle.domain_script.specs.declared.event.DiskDecl.{DiskDecl}
use Rattle.domain_script.specs.declared.event.Event.{Event}
use Rattle.world_parts.proofs.lane_laws.RingPages.{same_pages}
use Rattle.world_parts.specs.world_laws.Settle.{SettleEntry}
use Rattle.world_parts.proofs.world_laws.Along.{lane_step}
use Rattle.world_parts.specs.world_laws.World.{WorldState, WorldStep, fresh_world}
use Rattle.lane_kinds.proofs.Places.{map_both}
use Rattle.world_parts.specs.lane_models.NetLaneState.{NetShape}
use Rattle.world_parts.proofs.domain_laws.LeftOver.{NamesBelow, cut_below, lines_below}
use Rattle.world_parts.proofs.domain_laws.Running.{disks_run}
use Rattle.world_parts.proofs.domain_laws.ScriptEntries.{lines_run}
use Rattle.world_parts.specs.domain_laws.Domain.{DomainState, DomainStep}
use Rattle.world_parts.specs.domain_laws.Lines.{Line, entries_of_lines}
use Rattle.world_parts.specs.domain_laws.Lines as script
use Rattle.ldom_entries.specs.declared.entry.Entry.{Entry}
use Rattle.world_parts.specs.Declared.{shapes_of, world_of}
use Rattle.world_parts.specs.Lines.{EventStep, all_happened, line_of}
use Rattle.world_parts.specs.Script.{FitsScript, LastStarts, ScriptParts, all_lines, journal_of}
use Rattle.world_parts.specs.WorldEvents.{told_of}
use Rattle.script_laws.proofs.Untold.{all_told, told_below, told_run}
use Rattle.script_laws.proofs.DiskShapes.{fresh_shapes, many_shapes}
use Rattle.script_laws.proofs.Tellings.{LinesTell, Telling, entries_told, line_first, line_last, means_of, no_lines, part_tells, seen_at}

-- LINES with their parts, as those of a script over lanes
pub record Through (w : DomainState) (lines : List (Event × List Entry)) (v : DomainState) : Type 0 where
  pub moved : List (Line × List SettleEntry)
  pub run : Run script.LineStep w moved v
  pub tells : LinesTell lines (all_told (entries_of_lines moved))

pub lines_through : (w : DomainState) (lines : List (Event × List Entry)) (v : DomainState) → Run EventStep w lines v
    → Through w lines v
lines_through w [] v run = record { moved = []; run = run; tells = no_lines }
lines_through w (line ∷ lines) v run =
    let step = run.1 in
    let rest = lines_through run.0 lines v run.2 in
    let later : List SettleEntry = entries_of_lines rest.moved in
    record {
      moved = (line_of line.0, step.entries) ∷ rest.moved;
      run = (run.0, step.moves, rest.run);
      tells = subst (LinesTell (line ∷ lines)) (sym (map_both told_of step.entries later))
          (line_first line lines (all_told step.entries) (all_told later)
          (part_tells line.0 line.1 step.entries step.says) rest.tells);
    }

-- A JOURNAL, entry by entry: what its lines say of each disk, and that what it is for the disks is a run of theirs
pub record JournalTells (disks : List DiskDecl) (nets : List NetShape) (image : ImageState) (parts : ScriptParts)
    (v : DomainState) : Type 0 where
  pub tellings : List Telling
  pub journal_is : entries_told tellings ≡ journal_of parts
  pub seen : (x : ℕ) → seen_at x tellings ≡ all_happened x (all_lines parts)
  pub run : Run WorldStep (fresh_world (shapes_of 0 disks) image) (means_of tellings) v.first
  pub below : NamesBelow (length disks) (length nets) (means_of tellings)
  -- the real entries, which led all lanes
  pub real : List SettleEntry
  pub led : Run DomainStep (world_of disks nets image) real v
  pub means_are : means_of tellings ≡ all_told real
  pub real_below : NamesBelow (length disks) (length nets) real

module _ (disks : List DiskDecl) (nets : List NetShape) (image : ImageState) where
  abbrev Start : DomainState
  Start = world_of disks nets image

  all_below : (n : ℕ) (entries : List SettleEntry) → n ≡ length disks → NamesBelow n (length nets) entries
      → NamesBelow (length disks) (length nets) entries
  all_below n entries is below = subst (λ (k : ℕ). NamesBelow k (length nets) entries) is below

  -- what is told of these entries, where they led here
  tells_of : (parts : ScriptParts) (v : DomainState) (real : List SettleEntry) → LinesTell (all_lines parts) (all_told real)
      → Run DomainStep Start real v → NamesBelow (length (shapes_of 0 disks)) (length nets) real
      → JournalTells disks nets image parts v
  tells_of parts v real tells run below =
      let back : all_told real ≡ means_of tells.tellings = sym tells.means_are in
      record {
        tellings = tells.tellings;
        journal_is = tells.entries_are;
        seen = tells.seen;
        run = subst (λ (l : List SettleEntry). Run WorldStep Start.first l v.first) back
            (told_run Start.first real v.first (disks_run Start real v run));
        below = subst (NamesBelow (length disks) (length nets)) back
            (told_below (length disks) (length nets) real
            (all_below (length (shapes_of 0 disks)) real (many_shapes 0 disks) below));
        real = real;
        led = run;
        means_are = tells.means_are;
        real_below = all_below (length (shapes_of 0 disks)) real (many_shapes 0 disks) below;
      }

  -- the whole lines, and the one that was cut off
  module _ (whole : List (Event × List Entry)) (m : DomainState) (run : Run EventStep Start whole m) where
    abbrev through : Through Start whole m
    through = lines_through Start whole m run

    tells_on : (cut : Option (Event × List Entry)) (v : DomainState) → LastStarts m cut v
        → JournalTells disks nets image (record { whole = whole; cut = cut }) v
    tells_on None v last =
        subst (λ (x : DomainState). JournalTells disks nets image (record { whole = whole; cut = None }) x) (sym last)
        (tells_of (record { whole = whole; cut = None }) m (entries_of_lines through.moved) through.tells
        (lines_run Start through.moved m through.run)
        (lines_below (shapes_of 0 disks) image nets through.moved m through.run))
    tells_on (Some line) v last =
        let past : List SettleEntry = entries_of_lines through.moved in
        let tells : LinesTell (whole ++ line ∷ []) (all_told (past ++ last.entries)) =
        subst (LinesTell (whole ++ line ∷ [])) (sym (map_both told_of past last.entries))
        (line_last whole line (all_told past) (all_told last.entries) through.tells
        (part_tells line.0 line.1 last.entries last.says)) in
        tells_of (record { whole = whole; cut = Some line }) v (past ++ last.entries) tells
        (run_append DomainStep Start m v past last.entries (lines_run Start through.moved m through.run) last.begins.run)
        (cut_below (shapes_of 0 disks) image nets through.moved m (line_of line.0) last.entries v through.run last.begins)

  pub script_tells : (entries : ℕ) (parts : ScriptParts) (v : DomainState) → FitsScript entries Start parts v
      → JournalTells disks nets image parts v
  script_tells entries parts v fits = tells_on parts.whole fits.middle fits.run parts.cut v fits.last

-- SHAPES STAY
set_shape : (lanes : List LaneState) (k : ℕ) (s t : LaneState) → slice_get lanes k ≡ Some s → t.shape ≡ s.shape
    → map (λ (l : LaneState). l.shape) (slice_set lanes k t) ≡ map (λ (l : LaneState). l.shape) lanes
set_shape (x ∷ lanes) (suc k) s t there is = grind (arith, set_shape lanes k s t there is)
set_shape lanes k s t there is = grind arith

step_shapes : (w : WorldState) (entry : SettleEntry) (v : WorldState) → WorldStep w entry v
    → map (λ (s : LaneState). s.shape) v.lanes ≡ map (λ (s : LaneState). s.shape) w.lanes
step_shapes w entry v step = grind (arith, set_shape, same_pages, lane_step)

run_shapes : (w : WorldState) (entries : List SettleEntry) (v : WorldState) → Run WorldStep w entries v
    → map (λ (s : LaneState). s.shape) v.lanes ≡ map (λ (s : LaneState). s.shape) w.lanes
run_shapes w [] v run = ap (λ (x : WorldState). map (λ (s : LaneState). s.shape) x.lanes) (sym run)
run_shapes w (entry ∷ entries) v run = run_shapes run.0 entries v run.2 ∙ step_shapes w entry run.0 run.1

pub script_shapes : (disks : List DiskDecl) (nets : List NetShape) (image : ImageState) (entries : ℕ) (parts : ScriptParts)
    (v : DomainState) → FitsScript entries (world_of disks nets image) parts v
    → map (λ (s : LaneState). s.shape) v.first.lanes ≡ shapes_of 0 disks
script_shapes disks nets image entries parts v fits =
    let tells = script_tells disks nets image entries parts v fits in
    run_shapes (fresh_world (shapes_of 0 disks) image) (means_of tells.tellings) v.first tells.run
    ∙ fresh_shapes (shapes_of 0 disks)
