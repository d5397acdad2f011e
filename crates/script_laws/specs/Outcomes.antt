-- What the top call did.
use Rattle.std.specs.Prelude.{◌≡◌, ℕ, ◌⊎◌, List, Option, IfSome}
use Rattle.std.specs.Io.KnownBytes.{Appends}
use Rattle.domain_script.specs.NamesState.{NamesState, declared_by}
use Rattle.gathered_text.specs.Gathered.{WroteFront}
use Rattle.ldom_report.specs.Report.{report}
use Rattle.ldom_report.specs.declared.status.Mode.{Mode}
use Rattle.ldom_report.specs.declared.status.Status.{Status}
use Rattle.ldom_report.specs.declared.status.Status.TheVariants.{Done, SinkFault}
use Rattle.script_laws.specs.Counts.{RanTold}
use Rattle.script_laws.specs.Headline.{Headline}
use Rattle.script_laws.specs.Admitting.{AdmitsAll}
use Rattle.script_laws.specs.Objects.{HostTells, RunLeaves, Tells}
use Rattle.script_laws.specs.Outside.{IsOutsideDisks, KeepsTold}
use Rattle.script_laws.specs.Replayed.{Replayed, start_of}
use Rattle.script_laws.specs.Sized.{SizeIs}
use Rattle.script_laws.specs.Whole.{RunsWhole}
use Rattle.world_parts.specs.Declared.{bytes_needed, nets_of}
use Rattle.world_parts.specs.Script.{all_lines}

-- The whole text was written and the status is the run's, or the sink failed after some front of the text.
abbrev pub Reports : Status → Status → Option (List ℕ) → Option (List ℕ) → List ℕ → Type 0
Reports ran status old new text = ((status ≡ ran) × Appends old new text) ⊎ ((status ≡ SinkFault) × WroteFront old new text)

-- the script was run, and the report of its journal written as this mode shows it, of what the source, the sink and the
-- host tell before the run and behind it. All speaks of the one list of lines with their parts that `replayed` has, and
-- of the one end of the run that it leaves: also where the sink failed a run that was cut short says so.
pub record RunsScript {D : Type 0} (mode : Mode) (host : HostTells D) (before now : Tells) (left : RunLeaves D) : Type 0 where
  pub told : RanTold left.ran before.failed now.failed
  -- how many lines the report counts
  pub lines : ℕ
  pub names : NamesState
  pub replayed : Replayed host.seen before.left now.left host.gives left.ran lines names left.journal left.image left.lanes
  pub admits : AdmitsAll names.disks (all_lines replayed.parts)
  pub sized : SizeIs host.size left.ran (bytes_needed names.disks) (host.gives (bytes_needed names.disks)) left.image
  pub headline : IfSome left.lanes (λ stand. Headline names.disks (nets_of names.ports) (start_of names host.gives).first.image replayed.parts replayed.final)
  pub whole : left.status ≡ Done
      → RunsWhole mode host.seen before.left names replayed.parts replayed.final left.journal left.image before.written now.written
  pub others : IfSome left.image (λ disk. KeepsTold (host.gives (bytes_needed names.disks)) (IsOutsideDisks names.disks left.journal) (host.seen disk).told)
  pub reports : Reports left.ran left.status before.written now.written (report mode (declared_by names) lines left.journal left.ran)
