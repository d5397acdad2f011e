-- How often a journal says that the image was called, that it was asked to flush and to write, and that a call of it failed.
use Rattle.std.specs.Prelude.{ℕ, Bool, true, false, ◌==◌, List}
use Rattle.std.specs.List.{count_by}
use Rattle.ldom_entries.specs.declared.entry.Entry.{Entry}
use Rattle.ldom_entries.specs.declared.entry.Entry.TheVariants.{Stored}

-- an entry `stored` of whose operation this says so, and whether it failed
abbrev pub is_stored_that : (ℕ → Bool → Bool) → Entry → Bool
is_stored_that says (Stored end operation block count failed) = says operation failed
is_stored_that says other = false

abbrev pub stored_count : List Entry → ℕ
stored_count entries = count_by (is_stored_that (λ operation failed. true)) entries

-- a flush is the operation 3
abbrev pub flush_count : List Entry → ℕ
flush_count entries = count_by (is_stored_that (λ operation failed. operation == 3)) entries

-- and a write is 2
abbrev pub write_count : List Entry → ℕ
write_count entries = count_by (is_stored_that (λ operation failed. operation == 2)) entries

abbrev pub fault_count : List Entry → ℕ
fault_count entries = count_by (is_stored_that (λ operation failed. failed)) entries
