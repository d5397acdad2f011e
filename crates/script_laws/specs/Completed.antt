-- Which requests a journal completed.
use Rattle.std.specs.Prelude.{ℕ, List}
use Rattle.disk_law.specs.Issued.{completed}
use Rattle.ldom_report.specs.DiskEvents.{whole_history}
use Rattle.ldom_entries.specs.declared.entry.Entry.{Entry}

-- the ids of all completions, in their order
abbrev pub completed_ids : List Entry → List ℕ
completed_ids entries = completed (whole_history entries)
