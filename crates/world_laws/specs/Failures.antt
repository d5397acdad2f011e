-- Which events tell of a call of the store, that it failed, or flushed or wrote it; and which that a request failed for it.
use Rattle.std.specs.Prelude.{◌≡◌, ℕ, ◌==◌, Bool, true, false}
use Rattle.lane_models.specs.DiskEvent.{DiskEvent, Done, Stored, Works}
use Rattle.lane_models.specs.LaneState.{LaneState}
use Rattle.world_laws.specs.Settle.{OfLane, SettleEntry}

-- a call of the store of whose operation this says so, and whether it failed
abbrev pub is_store_that : (ℕ → Bool → Bool) → DiskEvent → Bool
is_store_that says (Works (Stored operation block count failed)) = says operation failed
is_store_that says _ = false

-- a call of the store, one that failed, one that flushes it and one that writes it: those are the operations 3 and 2
abbrev pub is_store : DiskEvent → Bool
is_store event = is_store_that (λ operation failed. true) event

abbrev pub is_failed_store : DiskEvent → Bool
is_failed_store event = is_store_that (λ operation failed. failed) event

abbrev pub is_flush : DiskEvent → Bool
is_flush event = is_store_that (λ operation failed. operation == 3) event

abbrev pub is_write : DiskEvent → Bool
is_write event = is_store_that (λ operation failed. operation == 2) event

-- a completion with the status 5
abbrev pub is_failed_done : DiskEvent → Bool
is_failed_done (Works (Done id operation status bytes)) = status == 5
is_failed_done _ = false

-- in an entry of a world's journal, of any lane
abbrev pub in_entry : (DiskEvent → Bool) → SettleEntry → Bool
in_entry is (OfLane k event) = is event
in_entry is _ = false

-- a lane none of whose calls of the store failed
abbrev pub NeverFailed : LaneState → Type 0
NeverFailed s = s.failed ≡ false
