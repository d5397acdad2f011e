-- What the status of a descriptor and of a completion tells, where nobody forged: that all went well, or that the store failed.
use Rattle.std.specs.Prelude.{◌≡◌, ◌⊎◌, ℕ, false, List, Some, slice_get, ⊤}
use Rattle.vdisk_msg.specs.declared.request.Request.{Request}
use Rattle.disk_law.specs.ListStep.{Carries}
use Rattle.lane_models.specs.DiskEvent.{DiskEvent, Done, Finished, Works}
use Rattle.lane_laws.specs.DiskLog.{DiskLog}
use Rattle.lane_laws.specs.WorkLog.{WorkLog}

-- all went well, or the store failed
abbrev pub TellsStore : ℕ → Type 0
TellsStore status = (status ≡ 0) ⊎ (status ≡ 5)

-- A COMPLETION is of the request that was accepted with its id, and carries what that gives, or nothing where the store failed
pub record CarriesAsAsked (w : WorkLog) (id status : ℕ) (bytes : List ℕ) : Type 0 where
  pub request : Request
  pub accepted : slice_get w.issued id ≡ Some request
  pub carries : Carries request status bytes

abbrev pub TellsAt : DiskLog → DiskEvent → Type 0
TellsAt l (Works (Finished slot status)) = TellsStore status
TellsAt l (Works (Done id operation status bytes)) = CarriesAsAsked l.work id status bytes
TellsAt l _ = ⊤

-- where nobody forged until then
abbrev pub StatusAt : DiskLog → DiskEvent → Type 0
StatusAt l event = l.wire.forged ≡ false → TellsAt l event
