-- The run of a sample script.
use Rattle.std.specs.Prelude.{ℕ, List, Option, Some}
use Rattle.disk_law.specs.ListState.{ImageState}
use Rattle.ldom_world.specs.world_parts.domain_laws.Domain.{Lanes}
use Rattle.domain_script.specs.NamesState.{NamesState}
use Rattle.ldom_sample.specs.Sample.{sample_text}
use Rattle.ldom_entries.specs.declared.entry.Entry.{Entry}
use Rattle.ldom_report.specs.declared.status.Mode.TheVariants.{EndOnly}
use Rattle.ldom_report.specs.declared.status.Status.{Status}
use Rattle.script_laws.specs.Outcomes.{RunsScript}
use Rattle.script_laws.specs.Replayed.{Replayed}
use Rattle.script_laws.specs.Objects.{HostTells, RunLeaves, Tells}

-- the text of the sample of this number was run, and `left` of it was not read
pub record SampleReplayed {D : Type 0} (number : ℕ) (seen : D → ImageState) (gives : ℕ → Option (List ℕ)) (why : Status)
    (lines : ℕ) (names : NamesState) (journal : List Entry) (image : Option D) (lanes : Option Lanes) : Type 0 where
  pub left : Option (List ℕ)
  pub replayed : Replayed seen (Some (sample_text number)) left gives why lines names journal image lanes

-- and its report, the end line alone, was written: what the source tells isn't asked
pub record RunsSample {D : Type 0} (number : ℕ) (host : HostTells D) (before now : Tells) (run : RunLeaves D) : Type 0 where
  pub left : Option (List ℕ)
  pub runs : RunsScript EndOnly host (record before { left = Some (sample_text number) }) (record now { left = left }) run
