-- What a fetch makes of an end, by the answer of the code.
use Rattle.std.specs.Prelude.{◌≡◌, ℕ, List, Result, Ok, Err}
use Rattle.port_frames.specs.declared.fetching.SlotFault.{SlotFault}
use Rattle.port_frames.specs.Fetches.{found_fault}
use Rattle.lane_models.specs.Fetching.{Fetched, IsFrame}
use Rattle.lane_models.specs.NetEndState.{NetEndState}

-- a frame was taken, which is the last one then; or nothing changed
abbrev pub TakesFrame : {U : Type 0} → Result U SlotFault → Fetched → NetEndState → List ℕ → NetEndState → List ℕ → Type 0
TakesFrame (Ok done) found s peer t new = (found ≡ IsFrame t.last new) × (t ≡ record s { last = t.last })
TakesFrame (Err why) found s peer t new = (found ≡ found_fault why) × (t ≡ s) × (new ≡ peer)
