-- What comes of the next slot of the peer's ring, by the answers of the code.
use Rattle.std.specs.Prelude.{◌≡◌, ℕ, List, Result, Ok, Err}
use Rattle.dring.specs.declared.peer.RingFault.{RingFault}
use Rattle.dring.specs.declared.peer.RingFault.TheVariants as ring
use Rattle.lane_models.specs.Fetching.{Fetched, IsFrame, NotReady, Refuses, copy_refused}
use Rattle.port_frames.specs.declared.fetching.SlotFault.{SlotFault}
use Rattle.port_frames.specs.declared.fetching.SlotFault.TheVariants as fault

abbrev pub found_fault : SlotFault → Fetched
found_fault (fault.NotReady state) = NotReady state
found_fault (fault.Refused cause) = Refuses cause

-- this frame was taken, and the peer's memory is so; or the last frame is the one before, and nothing changed
abbrev pub FrameOf : {U : Type 0} → Result U SlotFault → Fetched → (before : List ℕ) → (peer : List ℕ) → (frame : List ℕ) → (new : List ℕ) → Type 0
FrameOf (Ok done) found before peer frame new = found ≡ IsFrame frame new
FrameOf (Err why) found before peer frame new = (found ≡ found_fault why) × (frame ≡ before) × (new ≡ peer)

-- why a descriptor isn't fetched
abbrev pub found_of : RingFault → Fetched
found_of (ring.Copy why) = copy_refused why
found_of (ring.NotReady state) = NotReady state
