-- A lane that was led on, by a part, from where the lines before it led.
use Rattle.std.proofs.Common.{◌≡◌, ℕ, List, ◌++◌, slice_get, Some, sym, subst, arith}
use Rattle.runs.specs.Run.{Run, run_append}
use Rattle.disk_law.specs.ListState.{ImageState}
use Rattle.world_parts.specs.lane_models.DiskEvent.{DiskEvent}
use Rattle.world_parts.specs.lane_models.LaneState.{LaneState, Shape, fresh}
use Rattle.world_parts.specs.lane_models.LaneStep.{LaneStep}
use Rattle.domain_script.specs.declared.event.DiskDecl.{DiskDecl}
use Rattle.domain_script.specs.declared.event.Event.{Event}
use Rattle.world_parts.proofs.world_laws.Along.{lanes_run}
use Rattle.world_parts.proofs.world_laws.Moving.{happened_both}
use Rattle.world_parts.specs.world_laws.Along.{happened}
use Rattle.world_parts.specs.world_laws.Settle.{SettleEntry}
use Rattle.world_parts.specs.world_laws.World.{WorldStep, fresh_world}
use Rattle.world_parts.specs.lane_models.NetLaneState.{NetShape}
use Rattle.world_parts.proofs.domain_laws.Running.{disks_run}
use Rattle.world_parts.proofs.domain_laws.ScriptEntries.{lines_run}
use Rattle.world_parts.specs.domain_laws.Domain.{DomainState, DomainStep}
use Rattle.world_parts.specs.domain_laws.Lines.{entries_of_lines}
use Rattle.ldom_entries.specs.declared.entry.Entry.{Entry}
use Rattle.script_laws.proofs.DeclaredWorlds.{as_lines}
use Rattle.script_laws.proofs.Untold.{told_run as world_run_told}
use Rattle.script_laws.specs.Told.{told}
use Rattle.world_parts.specs.Declared.{shapes_of, world_of}
use Rattle.world_parts.specs.Lines.{EventStep}

pub real_run : (disks : List DiskDecl) (nets : List NetShape) (image : ImageState) (lines : List (Event × List Entry))
    (w : DomainState) (run : Run EventStep (world_of disks nets image) lines w)
    → Run DomainStep (world_of disks nets image) (entries_of_lines (as_lines (world_of disks nets image) lines w run).real) w
real_run disks nets image lines w run = grind (arith, as_lines, lines_run)

pub told_run : (disks : List DiskDecl) (nets : List NetShape) (image : ImageState) (lines : List (Event × List Entry))
    (w : DomainState) → Run EventStep (world_of disks nets image) lines w
    → Run WorldStep (fresh_world (shapes_of 0 disks) image) (told lines) w.first
told_run disks nets image lines w run =
    let start = world_of disks nets image in
    let lines_are = as_lines start lines w run in
    let entries = entries_of_lines lines_are.real in
    subst (λ (l : List SettleEntry). Run WorldStep start.first l w.first) (sym lines_are.told_is)
    (world_run_told start.first entries w.first (disks_run start entries w (real_run disks nets image lines w run)))

module _ (disks : List DiskDecl) (nets : List NetShape) (image : ImageState) (x : ℕ) (shape : Shape)
    (of_shape : slice_get (shapes_of 0 disks) x ≡ Some shape) (before : List (Event × List Entry)) (w : DomainState)
    (run : Run EventStep (world_of disks nets image) before w) (s : LaneState) (there : slice_get w.first.lanes x ≡ Some s) where
  -- up to there
  pub own_run : Run LaneStep (fresh shape) (happened x (told before)) s
  own_run = grind (arith, lanes_run, told_run)

  -- and on
  pub led_run : (so_far : List SettleEntry) (t : LaneState) → Run LaneStep s (happened x so_far) t
      → Run LaneStep (fresh shape) (happened x (told before ++ so_far)) t
  led_run so_far t on =
      subst (λ (l : List DiskEvent). Run LaneStep (fresh shape) l t) (sym (happened_both x (told before) so_far))
      (run_append LaneStep (fresh shape) s t (happened x (told before)) (happened x so_far) own_run on)
