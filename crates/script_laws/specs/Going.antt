-- The lines of a script after its declarations.
use Rattle.std.specs.Prelude.{◌≡◌, ◌≢◌, ℕ, ◌+◌, ◌≤◌, List, ◌++◌, length, Option}
use Rattle.domain_script.specs.declared.event.Event.{Event}
use Rattle.domain_script.specs.NamesState.{NamesState, declared_by}
use Rattle.ldom_entries.specs.declared.entry.Entry.{Entry}
use Rattle.ldom_report.specs.declared.status.Status.{Status}
use Rattle.ldom_report.specs.declared.status.Status.TheVariants as status
use Rattle.ldom_report.specs.LinesEnd.{counted_lines}
use Rattle.script_reader.specs.LinesState.{AllFed}
use Rattle.script_laws.specs.Attached.{AreOpening, IsCutOff}
use Rattle.world_parts.specs.Endings.{EndsSo, JournalIs, ending}
use Rattle.script_laws.specs.Reading.{StopsAt}
use Rattle.script_laws.specs.Replayed.{Stopped}
use Rattle.domain_script.specs.ScriptLines.{AreShort, TakesLines}
use Rattle.domain_script.specs.ScriptEvents.{AllSpell}
use Rattle.world_parts.specs.Script.{FitsScript, ScriptParts, events_of, journal_of}
use Rattle.world_parts.specs.domain_laws.Domain.{DomainState}
use Rattle.domain_script.specs.Limits.{most_lines}

-- A run at one moment: the names that it declared, the entries of its journal, its world, and a count of lines: before
-- lines are run it is how many were read, and behind them how many its report counts.
pub record RunAt : Type 0 where
  pub names : NamesState
  pub journal : List Entry
  pub world : DomainState
  pub count : ℕ

abbrev pub run_at : NamesState → List Entry → DomainState → ℕ → RunAt
run_at names journal world count = record { names = names; journal = journal; world = world; count = count }

-- from the bytes that are still to come, after so many lines, these lines were read
pub record ReadsOn (start left : Option (List ℕ)) (before : NamesState) (number : ℕ) (events : List Event) (after : NamesState) : Type 0 where
  pub texts : List (List ℕ)
  pub taken : TakesLines start left texts
  pub short : AreShort texts
  pub few : number + length texts ≤ most_lines
  pub spell : AllSpell texts before events after

-- They were read and run, and then no further one was taken up. Where the source failed, each had its line feed. Memory is
-- wanted by the work of a line alone.
pub record RunsLines (start now : Option (List ℕ)) (before : RunAt) (why : Status) (after : RunAt) : Type 0 where
  pub parts : ScriptParts
  pub left : Option (List ℕ)
  pub read : ReadsOn start left before.names before.count (events_of parts) after.names
  pub grew : after.journal ≡ before.journal ++ journal_of parts
  pub fits : FitsScript (length before.journal) before.world parts after.world
  pub ends : EndsSo (ending why) parts
  pub wanted : why ≡ status.NoMemory → IsCutOff parts
  pub held : List ℕ
  pub stop : StopsAt why left held now after.names (before.count + length read.texts) (length after.journal)
  pub feeds : why ≡ status.SourceFault → AllFed start left read.texts
  pub counted : after.count ≡ counted_lines why (before.count + length read.texts)

-- From its first line on the script was read and run, in the world `s`, and then no further line was taken up. That `s`
-- is the world of what these names declare is said where a run is attached.
pub record RunsAll (start now : Option (List ℕ)) (names : NamesState) (s : DomainState) (why : Status) (after : RunAt) : Type 0 where
  pub parts : ScriptParts
  pub stopped : Stopped start now why (events_of parts) after.names (length after.journal) after.count
  pub journal_is : JournalIs (ending why) s parts after.journal after.world
  pub declared : declared_by after.names ≡ declared_by names
  pub wanted : why ≡ status.NoMemory → IsCutOff parts
  -- but at the input's end, a line came at which the image is attached
  pub attached : why ≢ status.Done → AreOpening (events_of parts) → ⊥
