-- Counts of entries.
use Rattle.std.specs.Prelude.{ℕ, Bool, true, false, List, count_by}
use Rattle.ldom_entries.specs.declared.entry.Entry.{Entry}
use Rattle.ldom_entries.specs.declared.entry.Entry.TheVariants as entry

-- whether a request was taken up
abbrev pub is_accepted : Entry → Bool
is_accepted (entry.Accepted disk id request) = true
is_accepted other = false

-- whether a request was completed
abbrev pub is_done : Entry → Bool
is_done (entry.Done disk id operation status bytes) = true
is_done other = false

-- whether an end was reset
abbrev pub is_reset : Entry → Bool
is_reset (entry.Reset e cause packet lost) = true
is_reset other = false

-- whether a port's guest took a frame
abbrev pub is_frame : Entry → Bool
is_frame (entry.Frame e bytes) = true
is_frame other = false

-- how many requests were taken up
abbrev pub accepted_count : List Entry → ℕ
accepted_count entries = count_by is_accepted entries

-- how many requests were completed
abbrev pub done_count : List Entry → ℕ
done_count entries = count_by is_done entries

-- how often an end was reset
abbrev pub reset_count : List Entry → ℕ
reset_count entries = count_by is_reset entries

-- how many frames the guests of ports took
abbrev pub frame_count : List Entry → ℕ
frame_count entries = count_by is_frame entries
