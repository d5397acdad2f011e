-- A sample script has no fault, and its source never fails.
use Rattle.std.proofs.Common.{◌≡◌, ◌≢◌, refl, ℕ, arith, true}
use Rattle.ldom_sample.specs.Sample.{SpellSample, sample_events, sample_names, sample_text}
use Rattle.ldom_sample.proofs.Sampling.{text_spells}
use Rattle.domain_script.specs.ScriptLines.{script_lines}
use Rattle.vio_io.specs.Causes.{Fails}
use Rattle.ldom_report.specs.declared.status.Status.{Status}
use Rattle.ldom_report.specs.declared.status.Status.TheVariants as status
use Rattle.script_laws.specs.Clean.{IsCleanScript}

pub sample_clean : (number : ℕ) → IsCleanScript (sample_text number)
sample_clean number =
    let lines : SpellSample number (script_lines (sample_text number)) = text_spells number (sample_text number) refl in
    record { events = sample_events number; names = sample_names true; spelled = lines.spelled; few = lines.few; short = lines.short }

-- a source that nobody read didn't fail
pub not_read : (why : Status) (before now : ℕ) → why ≢ status.SourceFault → now ≡ before → Fails (why ≡ status.SourceFault) before now
not_read why before now other same = record { unfailed = λ _. same; count = omega (arith, same); cause = λ is. absurd (other is); once = λ is. absurd (other is) }
