-- What the fields of a descriptor in work say of its state.
use Rattle.std.specs.Prelude.{ℕ, List}
use Rattle.lane_models.specs.ServerState.{Ends, Flushes, Gathers, Gives, Progress, Reads, Work, Writes}
use Rattle.descriptor_work.specs.declared.work.Progress.{Progress as KeptProgress}
use Rattle.descriptor_work.specs.declared.work.Progress.TheVariants as kept
use Rattle.descriptor_work.specs.declared.work.Work.{Work as KeptWork}

-- the progress of a descriptor, where these bytes are those of the unit in between
abbrev pub progress_of : KeptProgress → List ℕ → Progress
progress_of (kept.Reads unit) bytes = Reads unit
progress_of (kept.Gives unit) bytes = Gives unit bytes
progress_of (kept.Gathers unit) bytes = Gathers unit
progress_of (kept.Writes unit) bytes = Writes unit bytes
progress_of kept.Flushes bytes = Flushes
progress_of (kept.Ends status) bytes = Ends status

abbrev pub work_with : KeptWork → List ℕ → Work
work_with work bytes = record { bytes = work.descriptor; progress = progress_of work.progress bytes }
