-- What each request line of a script got.
use Rattle.std.specs.Prelude.{◌≡◌, ◌≤◌, ℕ, List, [], length, Some, slice_get}
use Rattle.disk_law.specs.Issued.{Admission}
use Rattle.domain_script.specs.declared.event.DiskDecl.{DiskDecl}
use Rattle.domain_script.specs.declared.event.Event.{Event}
use Rattle.ldom_entries.specs.declared.entry.Entry.{Entry}
use Rattle.world_parts.specs.Lines.{all_happened}

-- In the parts of these lines each request of each disk was refused for its count, else for its range, else found no room
-- exactly where the ring's number of requests were pending, else was accepted with the next id. There is no other disk.
pub record AdmitsAll (disks : List DiskDecl) (lines : List (Event × List Entry)) : Type 0 where
  pub admission : (x : ℕ) (disk : DiskDecl) → slice_get disks x ≡ Some disk → Admission disk.blocks disk.ring (all_happened x lines)
  pub no_other : (x : ℕ) → length disks ≤ x → all_happened x lines ≡ []
