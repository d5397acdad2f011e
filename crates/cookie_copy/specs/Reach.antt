-- What an end's copies work on, and how a cause of a reset numbers their faults.
use Rattle.std.specs.Prelude.{ℕ, Bool, List, Option}
use Rattle.cookie_copy.specs.declared.fault.CopyFault.{CopyFault}
use Rattle.cookie_copy.specs.declared.fault.CopyFault.TheVariants as fault
use Rattle.map_table.specs.declared.table.Entry.{Entry}

-- what a copy works on: whether both ends are up, and the table and memory of the end that grants them
pub record Reach : Type 0 where
  pub both : Bool
  pub table : List (Option Entry)
  pub memory : List ℕ

-- the number of a copy's fault, as a reset's cause has it
abbrev pub copy_number : CopyFault → ℕ
copy_number fault.Channel = 1
copy_number fault.BadAlign = 2
copy_number fault.Short = 3
copy_number fault.BadPage = 4
copy_number fault.NoMap = 5
copy_number fault.NoAccess = 6
