-- Scripts that are run to their end where memory suffices and nothing outside fails.
use Rattle.std.specs.Prelude.{◌≡◌, ℕ, ◌<◌, ◌≤◌, ◌⊎◌, List, length}
use Rattle.vio_io.specs.Causes.{last_count}
use Rattle.domain_script.specs.declared.event.Event.{Event}
use Rattle.domain_script.specs.NamesState.{NamesState}
use Rattle.domain_script.specs.ScriptLines.{AreShort, script_lines}
use Rattle.domain_script.specs.ScriptEvents.{AllSpell, no_names}
use Rattle.domain_script.specs.Limits.{most_lines}
use Rattle.ldom_report.specs.LinesEnd.{most_entries}
use Rattle.ldom_entries.specs.declared.entry.Entry.{Entry}
use Rattle.ldom_report.specs.declared.status.LimitKind.TheVariants.{Entries}
use Rattle.ldom_report.specs.declared.status.Status.{Status}
use Rattle.ldom_report.specs.declared.status.Status.TheVariants as status

-- each line of these bytes spells its event, and none is past a limit
pub record IsCleanScript (bytes : List ℕ) : Type 0 where
  pub events : List Event
  pub names : NamesState
  pub spelled : AllSpell (script_lines bytes) no_names events names
  pub few : length (script_lines bytes) ≤ most_lines
  pub short : AreShort (script_lines bytes)

-- a count of faults that could rise and didn't
pub record StandsStill (before now : ℕ) : Type 0 where
  pub could_rise : before < last_count
  pub same : now ≡ before

-- the count of a type whose values never fail
abbrev pub NeverFails : {A : Type 0} → (A → ℕ) → Type 0
NeverFails {A} faults = (x : A) → faults x ≡ 0

-- a line was not taken up, as the journal has too many entries
abbrev pub IsFullJournal : Status → List Entry → Type 0
IsFullJournal (status.Limit at Entries) journal = most_entries ≤ length journal
IsFullJournal other journal = ⊥

-- how a clean script's run ends: at its end, for want of memory, or where its journal is full
abbrev pub EndsClean : Status → List Entry → Type 0
EndsClean why journal = (why ≡ status.Done) ⊎ ((why ≡ status.NoMemory) ⊎ IsFullJournal why journal)
