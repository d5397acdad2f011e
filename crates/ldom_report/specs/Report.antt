-- The end line, and the whole text of a report.
use Rattle.std.specs.Prelude.{ℕ, ◌-◌, List, [], ◌++◌, codes, decimal}
use Rattle.domain_script.specs.Declarations.{Declared}
use Rattle.domain_script.specs.declared.event.LineFault.{LineFault}
use Rattle.domain_script.specs.declared.event.LineFault.TheVariants as line_fault
use Rattle.ldom_entries.specs.declared.entry.Entry.{Entry}
pub use Rattle.ldom_journal.specs.Counts.{is_accepted, is_done, is_frame, is_reset, accepted_count, done_count, frame_count, reset_count}
use Rattle.ldom_report.specs.declared.status.Mode.{Mode}
use Rattle.ldom_report.specs.declared.status.LimitKind.{LimitKind}
use Rattle.ldom_report.specs.declared.status.LimitKind.TheVariants.{Lines, Bytes, Entries}
use Rattle.ldom_report.specs.declared.status.Status.{Status}
use Rattle.ldom_report.specs.declared.status.Status.TheVariants.{Usage, Script, ImageSize, Limit}
use Rattle.ldom_report.specs.EntryText.{report_entries}
use Rattle.ldom_report.specs.Status.{status_number}

-- why a line spells no event, or no packet
abbrev pub fault_text : LineFault → List ℕ
fault_text line_fault.Byte = codes "byte"
fault_text line_fault.Space = codes "space"
fault_text line_fault.Word = codes "word"
fault_text line_fault.Words = codes "words"
fault_text line_fault.Name = codes "name"
fault_text line_fault.Place = codes "place"
fault_text line_fault.Taken = codes "taken"
fault_text line_fault.Unknown = codes "unknown"
fault_text line_fault.Number = codes "number"
fault_text line_fault.Range = codes "range"
fault_text line_fault.Hex = codes "hex"
fault_text line_fault.Many = codes "many"

-- the limit that a line is past
abbrev pub limit_text : LimitKind → List ℕ
limit_text Lines = codes "lines"
limit_text Bytes = codes "bytes"
limit_text Entries = codes "entries"

-- after a status: the line at which the run ended, and why; or how long the image had to be, and is
abbrev pub cause_text : Status → List ℕ
cause_text (Script line fault) = codes " at=" ++ decimal line ++ codes " fault=" ++ fault_text fault
cause_text (ImageSize need have) = codes " need=" ++ decimal need ++ codes " have=" ++ decimal have
cause_text (Limit line kind) = codes " at=" ++ decimal line ++ codes " limit=" ++ limit_text kind
cause_text status = []

-- how many requests were taken up, how many completed, and how many are pending
abbrev pub counts_text : List Entry → List ℕ
counts_text entries =
    codes " accepted=" ++ decimal (accepted_count entries) ++ codes " done=" ++ decimal (done_count entries) ++ codes " pending=" ++ decimal (accepted_count entries - done_count entries)

-- how often an end was reset, and how many frames the guests of ports took
abbrev pub resets_text : List Entry → List ℕ
resets_text entries = codes " resets=" ++ decimal (reset_count entries) ++ codes " frames=" ++ decimal (frame_count entries)

-- the line that ends each report but that of a wrong command line
abbrev pub end_line : ℕ → List Entry → Status → List ℕ
end_line lines entries status =
    codes "end lines=" ++ decimal lines ++ counts_text entries ++ resets_text entries ++ codes " status=" ++ decimal (status_number status) ++ cause_text status ++ codes "\n"

-- the one line for words that are none of the program's
abbrev pub usage_line : List ℕ
usage_line = codes "usage: ldom COMMAND [WORD]\n"

-- the last line of a report
abbrev pub last_line : ℕ → List Entry → Status → List ℕ
last_line lines entries Usage = usage_line
last_line lines entries status = end_line lines entries status

-- the whole text of a report: `lines` is how many lines of the script were taken up
abbrev pub report : Mode → Declared → ℕ → List Entry → Status → List ℕ
report mode declared lines entries Usage = usage_line
report mode declared lines entries status = report_entries mode declared entries ++ end_line lines entries status
