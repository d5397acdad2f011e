-- The text of a dump, and what a dump did.
use Rattle.std.specs.Prelude.{◌≡◌, ℕ, ◌+◌, ◌≤◌, ◌⊎◌, List, ◌++◌, length, map, codes, Option}
use Rattle.std.specs.Io.KnownBytes.{Appends}
use Rattle.std.specs.List.{count_by}
use Rattle.domain_script.specs.ScriptLines.{LinesTaken}
use Rattle.ldom_report.specs.declared.status.Status.{Status}
use Rattle.ldom_report.specs.declared.status.Status.TheVariants.{NoMemory, SinkFault, SourceFault}
use Rattle.script_reader.specs.LinesState.{AllFed}
use Rattle.gathered_text.specs.Gathered.{WroteFront, most_gathered}
use Rattle.vio_io.specs.Causes.{Fails}
use Rattle.ldom_report.specs.LinesEnd.{counted_lines}
use Rattle.ldom_report.specs.Stops.{EndsTold}
use Rattle.ldom_report.specs.Report.{cause_text}
use Rattle.ldom_report.specs.Status.{status_number}
use Rattle.ldom_dump.specs.Decoded.{AreOfLines, Decoded, decoded_lines, is_fault, is_packet}
use Rattle.ldom_dump.specs.Fields.{field_text}
use Rattle.ldom_dump.specs.Reading.{DumpHolds, DumpStops}

-- how many lines were taken up, how many of them are packets, and how many aren't
abbrev pub counts_text : ℕ → ℕ → ℕ → List ℕ
counts_text lines packets faults = field_text (codes "end lines=") lines ++ field_text (codes " packets=") packets ++ field_text (codes " faults=") faults

-- the line that ends a dump
abbrev pub end_line : ℕ → ℕ → ℕ → Status → List ℕ
end_line lines packets faults why = counts_text lines packets faults ++ field_text (codes " status=") (status_number why) ++ cause_text why ++ codes "\n"

-- the text of a dump that ends so after these lines
abbrev pub dump_text : List Decoded → Status → List ℕ
dump_text all why = decoded_lines all ++ end_line (counted_lines why (length all)) (count_by is_packet all) (count_by is_fault all) why

-- of a text that begins with these lines some front was written, and of the lines no more is missing than may be gathered
pub record WroteMostLines (old new : Option (List ℕ)) (lines text : List ℕ) : Type 0 where
  pub wrote : WroteFront old new text
  pub most : length lines ≤ length wrote.front + most_gathered

-- The sink failed after most of the lines, or the lines were read to where reading ended; then the whole text was written, or
-- the sink failed after most of its lines.
abbrev pub Written : Status → Status → Option (List ℕ) → Option (List ℕ) → List Decoded → Type 0
Written SinkFault status old new all = (status ≡ SinkFault) × WroteMostLines old new (decoded_lines all) (decoded_lines all)
Written why status old new all =
    ((status ≡ why) × Appends old new (dump_text all why))
    ⊎ ((status ≡ SinkFault) × WroteMostLines old new (decoded_lines all) (dump_text all why))

-- A source at one moment: the bytes that it has left, where it tells them, and how often it failed and said that it is at
-- its end.
pub record SourceTells : Type 0 where
  pub left : Option (List ℕ)
  pub faults : ℕ
  pub ends : ℕ

abbrev pub source_tells : Option (List ℕ) → ℕ → ℕ → SourceTells
source_tells left faults ends = record { left = left; faults = faults; ends = ends }

-- These lines were read and decoded from the front of what the source had, and then no further one; `old` was written before,
-- and `new` is now. Where the source failed, each line that was taken up had its line feed: so one that was at its end behind
-- a last line isn't asked again.
pub record Dumps (before now : SourceTells) (status : Status) (old new : Option (List ℕ)) : Type 0 where
  pub all : List Decoded
  -- what was to come after these lines
  pub left : Option (List ℕ)
  pub taken : LinesTaken before.left left (map (λ decoded. decoded.line) all)
  pub are : AreOfLines all
  -- bytes that were taken from the source and are in no line
  pub held : List ℕ
  -- why reading ended: for a fault of the source exactly where that failed
  pub why : Status
  pub told : Fails (why ≡ SourceFault) before.faults now.faults
  pub ends : EndsTold why before.ends now.ends
  -- memory is wanted before the source is asked
  pub unasked : why ≡ NoMemory → now.ends ≡ before.ends
  pub stop : DumpStops why left held now.left (length all)
  pub holds : DumpHolds why held
  pub feeds : why ≡ SourceFault → AllFed before.left left (map (λ decoded. decoded.line) all)
  pub written : Written why status old new all
