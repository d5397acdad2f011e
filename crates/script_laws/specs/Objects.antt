-- What the objects that a run is given tell of themselves, and what the run leaves.
use Rattle.std.specs.Prelude.{ℕ, List, Option}
use Rattle.world_parts.specs.domain_laws.Domain.{Lanes}
use Rattle.vio_io.specs.declared.store.Store.{Ghosts}
use Rattle.disk_law.specs.ListState.{ImageState, as_image}
use Rattle.ldom_entries.specs.declared.entry.Entry.{Entry}
use Rattle.ldom_report.specs.declared.status.Status.{Status}
use Rattle.script_laws.specs.Counts.{FaultCounts, counts}

-- At one moment: the bytes that the source has left and those that the sink was given, where they tell them, and how
-- often each of them and the host failed.
pub record Tells : Type 0 where
  pub left : Option (List ℕ)
  pub written : Option (List ℕ)
  pub failed : FaultCounts

abbrev pub tells : Option (List ℕ) → Option (List ℕ) → ℕ → ℕ → ℕ → Tells
tells left written source host sink = record { left = left; written = written; failed = counts source host sink }

-- what a host gives under the name of the image, for so many bytes, and how an image of it is seen
pub record HostTells (D : Type 0) : Type 0 where
  pub gives : ℕ → Option (List ℕ)
  pub seen : D → ImageState
  pub size : D → ℕ

abbrev pub host_tells : {D : Type 0} → (ℕ → Option (List ℕ)) → Ghosts D → HostTells D
host_tells gives store = record { gives = gives; seen = as_image store; size = store.size }

-- what a run leaves: its status, how it ended before its report, what happened in it, and the image and the lanes, where
-- it had them
pub record RunLeaves (D : Type 0) : Type 0 where
  pub status : Status
  pub ran : Status
  pub journal : List Entry
  pub image : Option D
  pub lanes : Option Lanes

abbrev pub run_leaves : {D : Type 0} → Status → Status → List Entry → Option D → Option Lanes → RunLeaves D
run_leaves status ran journal image lanes = record { status = status; ran = ran; journal = journal; image = image; lanes = lanes }
