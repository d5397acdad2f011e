-- The completions of a journal by their status.
use Rattle.std.specs.Prelude.{◌≡◌, ◌≤◌, ℕ, Bool, false, ◌==◌, ◌⊎◌, List, ⊤}
use Rattle.std.specs.List.{All, count_by}
use Rattle.disk_law.specs.ListStep.{ListEvent, Done}
use Rattle.ldom_report.specs.DiskEvents.{history, whole_history}
use Rattle.ldom_entries.specs.declared.entry.Entry.{Entry}
use Rattle.script_laws.specs.Forged.{IsUnforged}

-- 5 is EIO: the image failed
abbrev pub has_failed : ListEvent → Bool
has_failed (Done id operation status bytes) = status == 5
has_failed other = false

-- how many completions failed
abbrev pub failed_count : List Entry → ℕ
failed_count entries = count_by has_failed (whole_history entries)

abbrev pub SucceedsOrFails : ListEvent → Type 0
SucceedsOrFails (Done id operation status bytes) = (status ≡ 0) ⊎ (status ≡ 5)
SucceedsOrFails other = ⊤

-- each completion of a disk that nobody forged has the status 0 or 5
abbrev pub SucceedOrFail : List Entry → Type 0
SucceedOrFail entries = (x : ℕ) → IsUnforged x entries → All SucceedsOrFails (history x entries)

-- No more completions failed than so many faults: of a disk that nobody forged; and of all disks together, where nobody
-- forged one.
pub record FailuresCounted (entries : List Entry) (faults : ℕ) : Type 0 where
  pub each : (x : ℕ) → IsUnforged x entries → count_by has_failed (history x entries) ≤ faults
  pub all : ((x : ℕ) → IsUnforged x entries) → failed_count entries ≤ faults
