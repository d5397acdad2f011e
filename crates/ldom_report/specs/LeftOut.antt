-- A reading that leaves out what a mode doesn't show.
use Rattle.std.specs.Prelude.{◌≡◌, false, List, ◌++◌, All}
use Rattle.ldom_entries.specs.declared.entry.Entry.{Entry}
use Rattle.ldom_report.specs.EntryText.{shows}
use Rattle.ldom_report.specs.declared.status.Mode.{Mode}

-- of `old` there is `new` left: the mode doesn't show what was left out
pub record LeavesOut (mode : Mode) (old new : List Entry) : Type 0 where
  pub left_out : List Entry
  pub are : old ≡ left_out ++ new
  pub unshown : All (λ entry. shows mode entry ≡ false) left_out
