-- Which disks a journal says somebody forged: a packet was injected before an end, or bytes were written into its memory.
use Rattle.std.specs.Prelude.{◌≢◌, ℕ, List, [], ◌∷◌, Option, Some, None, ⊤}
use Rattle.world_parts.specs.lane_models.WireEvent.{Injected, Poked}
use Rattle.domain_script.specs.LaneKinds.{disk_of}
use Rattle.ldom_entries.specs.declared.entry.Entry.{Entry}
use Rattle.ldom_report.specs.LaneEvents.{AtWire, Meaning, meaning}

-- the disk that an entry forges, if it forges one
abbrev pub forged_disk : Meaning → Option ℕ
forged_disk (AtWire e (Injected d packet)) = disk_of e.lane
forged_disk (AtWire e (Poked d at bytes)) = disk_of e.lane
forged_disk _ = None

abbrev pub IsOther : ℕ → Option ℕ → Type 0
IsOther x None = ⊤
IsOther x (Some k) = k ≢ x

-- NOBODY FORGED the disk with this number, by these entries
abbrev pub IsUnforged : ℕ → List Entry → Type 0
IsUnforged x [] = ⊤
IsUnforged x (entry ∷ entries) = IsOther x (forged_disk (meaning entry)) × IsUnforged x entries
