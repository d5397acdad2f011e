-- Lanes by their numbers: one that is set, a condition on each, and what moves them all.
use Rattle.std.proofs.Common.{◌≡◌, ℕ, zero, suc, ◌+◌, List, [], ◌∷◌, length, slice_get, slice_set, Some, refl, arith}
use Rattle.std.proofs.lemmas.Bool.{eqb-true}
use Rattle.runs.specs.Run.{Run}
use Rattle.lane_models.specs.DiskEvent.{DiskEvent}
use Rattle.lane_models.specs.LaneState.{LaneState}
use Rattle.lane_models.specs.LaneStep.{LaneStep}
use Rattle.lane_kinds.proofs.Moving as kind
use Rattle.world_laws.specs.Along.{LanesMove, event_at, happened}
use Rattle.world_laws.specs.Rounds.{Each}
use Rattle.world_laws.specs.Settle.{OfLane, SettleEntry}

-- A CONDITION ON EACH holds of each, and stays where one that has it is set
pub each_there : (P : LaneState → Type 0) (lanes : List LaneState) (k : ℕ) (s : LaneState) → Each P lanes → slice_get lanes k ≡ Some s → P s
each_there P lanes k s all there = kind.each_there P lanes k s all there

pub each_all : (P : LaneState → Type 0) (lanes : List LaneState) → ((k : ℕ) (s : LaneState) → slice_get lanes k ≡ Some s → P s) → Each P lanes
each_all P [] all = tt
each_all P (s ∷ lanes) all = (all 0 s refl, each_all P lanes (λ k t there. all (suc k) t there))

pub each_set : (P : LaneState → Type 0) (lanes : List LaneState) (k : ℕ) (t : LaneState) → Each P lanes → P t → Each P (slice_set lanes k t)
each_set P [] k t all holds = tt
each_set P (x ∷ lanes) zero t all holds = (holds, all.1)
each_set P (x ∷ lanes) (suc k) t all holds = (all.0, each_set P lanes k t all.1 holds)

-- NOTHING HAPPENED to a lane in an entry of another
pub other_event : (j n : ℕ) (event : DiskEvent) → (n ≡ j → ⊥) → happened j (OfLane n event ∷ []) ≡ []
other_event j n event other = grind (arith, eqb-true)

-- A LANE AMONG THOSE that were moved
pub lane_moved : (j k n : ℕ) (lanes : List LaneState) (part : List SettleEntry) (behind : List LaneState) (s t : LaneState) → n ≡ j + k → LanesMove j lanes part behind
    → slice_get lanes k ≡ Some s → slice_get behind k ≡ Some t → Run LaneStep s (happened n part) t
lane_moved j k n lanes part behind s t is moves there after = kind.lane_moved LaneStep event_at j k n lanes part behind s t is moves there after

pub many_moved : (j : ℕ) (lanes : List LaneState) (part : List SettleEntry) (behind : List LaneState) → LanesMove j lanes part behind → length behind ≡ length lanes
many_moved j lanes part behind moves = kind.many_moved LaneStep event_at j lanes part behind moves
