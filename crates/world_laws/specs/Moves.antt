-- Counts over the part of a settle: entries that are steps other than Blocked, or ticks; how often an end found no room with nothing but
-- Blocked between; and how many ticks a lane got. And why a lane is left over.
use Rattle.std.specs.Prelude.{◌≡◌, ◌⊎◌, ℕ, ◌+◌, Bool, true, false, ◌&&◌, ◌==◌, if◌then◌else◌, List, ◌∷◌, ◌++◌, Some, slice_get}
use Rattle.ldc_queue.specs.declared.end.End.{End}
use Rattle.ldc_queue.specs.declared.end.End.TheVariants.{A, B}
use Rattle.vio_tag.specs.declared.cause.Cause.TheVariants as the_cause
use Rattle.lane_models.specs.WireEvent.{Blocked, Reset}
use Rattle.lane_models.specs.DiskEvent.{DiskEvent, OnWire}
use Rattle.lane_models.specs.LaneState.{LaneState}
use Rattle.lane_kinds.specs.Stuck as ends
use Rattle.lane_kinds.specs.Stuck.{sum_over}
use Rattle.world_laws.specs.DiskKind.{is_calm, waits_on}
use Rattle.world_laws.specs.Settle.{OfLane, SettleEntry}

abbrev pub moves : SettleEntry → ℕ
moves (OfLane j (OnWire (Blocked e))) = 0
moves (OfLane j event) = 1
moves _ = 0

abbrev pub moves_in : List SettleEntry → ℕ
moves_in part = sum_over moves part

-- how often this end of this lane found no room since the last entry that isn't Blocked
abbrev pub is_end : End → End → Bool
is_end A A = true
is_end B B = true
is_end _ _ = false

abbrev pub stuck : ℕ → End → ℕ → SettleEntry → ℕ
stuck k e n (OfLane j (OnWire (Blocked d))) = if (j == k) && is_end d e then n + 1 else n
stuck k e n _ = 0

abbrev pub NeverThree : ℕ → End → ℕ → List SettleEntry → Type 0
NeverThree k e n part = ends.NeverThree (stuck k e) n part

-- the ticks of this lane
abbrev pub is_tick : DiskEvent → Bool
is_tick (OnWire (Reset e the_cause.Tick packet lost)) = true
is_tick _ = false

abbrev pub ticks : ℕ → SettleEntry → ℕ
ticks k (OfLane j event) = if (j == k) && is_tick event then 1 else 0
ticks k _ = 0

abbrev pub ticks_in : ℕ → List SettleEntry → ℕ
ticks_in k part = sum_over (ticks k) part

-- THIS LANE MOVED in a part: by a step that isn't calm, or by a tick
pub record MovedIn (x : ℕ) (part : List SettleEntry) : Type 0 where
  pub before : List SettleEntry
  pub event : DiskEvent
  pub later : List SettleEntry
  pub is : part ≡ before ++ OfLane x event ∷ later
  pub loud : is_calm event ≡ false

-- or it waits where the part led to: it isn't finished, though its server runs
pub record WaitsIn (x : ℕ) (lanes : List LaneState) : Type 0 where
  pub lane : LaneState
  pub there : slice_get lanes x ≡ Some lane
  pub waits : waits_on lane ≡ true

abbrev pub IsLeftOver : ℕ → List SettleEntry → List LaneState → Type 0
IsLeftOver x part behind = MovedIn x part ⊎ WaitsIn x behind
