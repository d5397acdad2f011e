-- A table that grants the first pages of so many, each at its own index.
use Rattle.std.specs.Prelude.{ℕ, ◌-◌, ◌++◌, List, replicate, Option, None}
use Rattle.map_table.specs.declared.table.Entry.{Entry}
use Rattle.lane_models.specs.OwnMemory.{own_table}

abbrev pub granted_front : ℕ → ℕ → List (Option Entry)
granted_front count pages = own_table count ++ replicate (pages - count) None
