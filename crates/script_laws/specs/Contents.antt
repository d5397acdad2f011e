-- What the reads of a disk show, and what its part of an image holds, over an image that tells its bytes.
use Rattle.std.specs.Prelude.{◌≡◌, ℕ, ◌+◌, ◌*◌, ◌<◌, Bool, true, false, List, [], ◌∷◌, ◌++◌, length, take, Some, slice_get, ⊤}
use Rattle.world_parts.specs.lane_laws.DiskLog.{DiskLog}
use Rattle.world_parts.specs.lane_models.DiskEvent.{DiskEvent, Done, OnWire, Stopped, Switches, Works}
use Rattle.world_parts.specs.lane_models.LaneState.{Shape}
use Rattle.world_parts.specs.lane_laws.Blocks.{after_requests, block_at}
use Rattle.world_parts.specs.lane_laws.Headline.{CompletionShows, HoldsDone, LastWrite}
use Rattle.world_parts.specs.lane_laws.ImageStep.{region_of}
use Rattle.world_parts.specs.lane_models.WireEvent.{Reset}
use Rattle.world_parts.specs.world_laws.Along.{happened}
use Rattle.world_parts.specs.world_laws.Settle.{OfLane, SettleEntry}
use Rattle.script_laws.specs.Told.{log_at}
use Rattle.vdisk_msg.specs.declared.request.Request.{Request}
use Rattle.vdisk_msg.specs.declared.request.Request.TheVariants.{Flush, Read, Write}
use Rattle.world_parts.specs.world_laws.Failures.{is_failed_store}

-- WHAT DISTURBS a disk's requests: a reset of an end, and a stop of its server
abbrev pub disturbs : DiskEvent → Bool
disturbs (OnWire (Reset e cause packet lost)) = true
disturbs (Switches Stopped) = true
disturbs _ = false

abbrev pub AreUndisturbed : List DiskEvent → Type 0
AreUndisturbed [] = ⊤
AreUndisturbed (event ∷ events) = (disturbs event ≡ false) × AreUndisturbed events

-- NO CALL OF THE STORE FAILED for a disk among these events
abbrev pub NoStoreFailed : List DiskEvent → Type 0
NoStoreFailed [] = ⊤
NoStoreFailed (event ∷ events) = (is_failed_store event ≡ false) × NoStoreFailed events

-- A COMPLETION THAT NOTHING DISTURBED is of the first request that isn't done, with status 0; that of a read shows, block
-- by block, the last earlier write, or the first content where there is none, and nothing else.
abbrev pub ShowsLastAlone : List ℕ → DiskLog → Request → List ℕ → Type 0
ShowsLastAlone first l (Read block count) bytes =
    (length bytes ≡ 512 * count)
    × ((b : ℕ) → b < count → LastWrite first (take l.work.done l.work.issued) (block + b) (block_at b bytes))
ShowsLastAlone first l (Write block count fill) bytes = bytes ≡ []
ShowsLastAlone first l Flush bytes = bytes ≡ []

pub record CompletionShowsLast (first : List ℕ) (l : DiskLog) (status : ℕ) (bytes : List ℕ) : Type 0 where
  pub request : Request
  pub accepted : slice_get l.work.issued l.work.done ≡ Some request
  pub succeeds : status ≡ 0
  pub shows : ShowsLastAlone first l request bytes

-- EACH COMPLETION is of the first request that isn't done, with status 0; that of a read shows, block by block, the
-- last earlier write, or the first content where there is none; or, where a reset or a stop disturbed it, a later write
-- that was pending with it.
pub record ReadsShow (shape : Shape) (x : ℕ) (first : List ℕ) (entries : List SettleEntry) : Type 0 where
  pub shows : (before : List SettleEntry) (id operation status : ℕ) (bytes : List ℕ) (behind : List SettleEntry)
      → entries ≡ before ++ OfLane x (Works (Done id operation status bytes)) ∷ behind
      → CompletionShows (region_of shape first) (log_at shape x before) status bytes
  -- where nothing disturbed the disk before it
  pub undisturbed : (before : List SettleEntry) (id operation status : ℕ) (bytes : List ℕ) (behind : List SettleEntry)
      → entries ≡ before ++ OfLane x (Works (Done id operation status bytes)) ∷ behind
      → AreUndisturbed (happened x before)
      → CompletionShowsLast (region_of shape first) (log_at shape x before) status bytes

-- ITS BLOCKS are those of the first content with the completed requests, in order, or of an accepted write that isn't
-- completed; and where all are completed they are the first content with each accepted write applied once, in order.
pub record DiskHolds (shape : Shape) (x : ℕ) (first : List ℕ) (entries : List SettleEntry) (now : List ℕ) : Type 0 where
  pub holds : HoldsDone shape.blocks (region_of shape first) (log_at shape x entries) (region_of shape now)
  pub all : (log_at shape x entries).work.done ≡ length (log_at shape x entries).work.issued
      → region_of shape now ≡ after_requests (region_of shape first) (log_at shape x entries).work.issued
