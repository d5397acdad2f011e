-- Whether a lane of a disk waits, by what its calls say.
use Rattle.std.proofs.Common.{◌≡◌, Bool, true, false, refl}
use Rattle.std.specs.Prelude.{◌&&◌, if◌then◌else◌, not}

pub waits_by : (finished stopped running : Bool) → running ≡ not stopped
    → (not finished && running) ≡ (if finished then false else if stopped then false else true)
waits_by true stopped running is = refl
waits_by false true running is = is
waits_by false false running is = is
