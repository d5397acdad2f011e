-- Why a reader gave no further line, as a status.
use Rattle.std.specs.Prelude.{◌≡◌, ◌≢◌, ℕ, ◌+◌, ◌<◌, List, [], Option, IfSome}
use Rattle.domain_script.specs.ScriptLines.{BeginsWithLonger}
use Rattle.ldom_report.specs.declared.status.LimitKind.{LimitKind}
use Rattle.ldom_report.specs.declared.status.LimitKind.TheVariants.{Lines, Bytes, Entries}
use Rattle.ldom_report.specs.declared.status.Status.{Status}
use Rattle.ldom_report.specs.declared.status.Status.TheVariants as status
use Rattle.domain_script.specs.Limits.{most_line_bytes, most_lines}

-- how many entries a journal may have as a line begins: fewer than this
abbrev pub most_entries : ℕ
most_entries = 2000000

-- The limit that the next line doesn't keep: too many lines, or too many bytes. That of the entries no reader comes to: a line that begins
-- with too many of them was read.
abbrev pub IsPast : LimitKind → Option (List ℕ) → ℕ → Type 0
IsPast Lines rest count = (count ≡ most_lines) × IfSome rest (λ bytes. bytes ≢ [])
IsPast Bytes rest count = (count < most_lines) × IfSome rest (BeginsWithLonger most_line_bytes)
IsPast Entries rest count = ⊥

-- how many lines the report counts: those that were taken up, and one that has a fault
abbrev pub counted_lines : Status → ℕ → ℕ
counted_lines (status.Script at fault) count = count + 1
counted_lines other count = count
