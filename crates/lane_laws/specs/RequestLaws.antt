-- Where the events of requests may stand, and when the server may make a step, is started or is stopped.
use Rattle.std.specs.Prelude.{◌≡◌, ℕ, ◌-◌, ◌<◌, ◌==◌, true, false, List, length, Some, None, slice_get, if◌then◌else◌, ⊤}
use Rattle.ldc_queue.specs.declared.end.End.{End}
use Rattle.ldc_queue.specs.declared.end.End.TheVariants.{A, B}
use Rattle.vdisk_msg.specs.declared.request.Request.{Request}
use Rattle.vdisk_msg.specs.Requests.{defect, given_count, operation_of}
use Rattle.lane_models.specs.WireEvent.{Blocked, ByRestart, ByScript, ByStep, ByTick, Giver, Idle, Joined, Reset, Sent, Took, WireEvent, giver}
use Rattle.lane_models.specs.DiskEvent.{Accepted, Admitted, Asks, Calm, CalmReset, CalmRestart, CalmStart, CalmStop, CalmTick, Desc, DiskEvent, Done, Finished, Full, Misplaced, Moved, Off, OnWire, Published, Refused, Calms, Started, Stopped, Stored, Switched, Switches, Worked, Works}
use Rattle.lane_laws.specs.DiskLog.{DiskLog}
use Rattle.lane_laws.specs.WorkLog.{WorkLog}

abbrev pub pending_count : WorkLog → ℕ
pending_count w = length w.issued - w.done

-- WHAT COMES OF A REQUEST: refused for its defect, else full where as many are pending as the ring has slots, else accepted with the
-- number of those before it
abbrev pub Admits : DiskLog → Admitted → Type 0
Admits l (Refused why request) = defect l.shape.blocks request ≡ Some why
Admits l (Full request) = (defect l.shape.blocks request ≡ None) × (pending_count l.work ≡ l.shape.slots)
Admits l (Accepted id request) =
    (defect l.shape.blocks request ≡ None) × (pending_count l.work < l.shape.slots) × (id ≡ length l.work.issued)

abbrev pub AdmissionAt : DiskLog → DiskEvent → Type 0
AdmissionAt l (Asks event) = Admits l event
AdmissionAt l _ = ⊤

-- ONCE, IN ORDER: a completion has the number of those before it, and is the request's of that number
pub record IsNext (w : WorkLog) (id operation : ℕ) : Type 0 where
  pub next : id ≡ w.done
  pub request : Request
  pub accepted : slice_get w.issued id ≡ Some request
  pub operation_is : operation ≡ operation_of request

abbrev pub OnceAt : DiskLog → DiskEvent → Type 0
OnceAt l (Works (Done id operation status bytes)) = IsNext l.work id operation
OnceAt l _ = ⊤

-- WHAT IT CARRIES: a read that succeeded 512 bytes a block, all else nothing
abbrev pub carried_count : ℕ → Request → ℕ
carried_count status request = if status == 0 then given_count request else 0

pub record CarriesCount (w : WorkLog) (id status : ℕ) (bytes : List ℕ) : Type 0 where
  pub request : Request
  pub accepted : slice_get w.issued id ≡ Some request
  pub long : length bytes ≡ carried_count status request

abbrev pub CarriesAt : DiskLog → DiskEvent → Type 0
CarriesAt l (Works (Done id operation status bytes)) = CarriesCount l.work id status bytes
CarriesAt l _ = ⊤

-- A SERVER THAT RUNS: it makes a step or is reset or stopped only where it runs, and is started, or has nothing done to it, only where it is
-- stopped
abbrev pub RunsAtEnd : End → WorkLog → Type 0
RunsAtEnd A w = ⊤
RunsAtEnd B w = w.stopped ≡ false

abbrev pub RunsAtReset : Giver → End → WorkLog → Type 0
RunsAtReset ByStep e w = RunsAtEnd e w
RunsAtReset ByScript e w = RunsAtEnd e w
RunsAtReset ByRestart A w = ⊥
RunsAtReset ByRestart B w = w.stopped ≡ false
RunsAtReset ByTick A w = ⊤
RunsAtReset ByTick B w = ⊥

abbrev pub RunsAtWire : WorkLog → WireEvent → Type 0
RunsAtWire w (Joined e lost) = RunsAtEnd e w
RunsAtWire w (Took e packet opens) = RunsAtEnd e w
RunsAtWire w (Sent e packet opens) = RunsAtEnd e w
RunsAtWire w (Idle e) = RunsAtEnd e w
RunsAtWire w (Blocked e) = RunsAtEnd e w
RunsAtWire w (Reset e cause packet lost) = RunsAtReset (giver cause) e w
RunsAtWire w _ = ⊤

abbrev pub RunsAtWork : WorkLog → Worked → Type 0
RunsAtWork w (Published id) = ⊤
RunsAtWork w (Done id operation status bytes) = ⊤
RunsAtWork w (Desc slot bytes) = w.stopped ≡ false
RunsAtWork w (Moved unit fault) = w.stopped ≡ false
RunsAtWork w (Stored operation block count failed) = w.stopped ≡ false
RunsAtWork w (Finished slot status) = w.stopped ≡ false
RunsAtWork w Misplaced = ⊥

abbrev pub RunsAtSwitch : WorkLog → Switched → Type 0
RunsAtSwitch w Stopped = w.stopped ≡ false
RunsAtSwitch w Started = w.stopped ≡ true
RunsAtSwitch w Off = w.stopped ≡ true

abbrev pub RunsAtCalm : WorkLog → Calm → Type 0
RunsAtCalm w CalmTick = ⊤
RunsAtCalm w CalmStop = w.stopped ≡ true
RunsAtCalm w CalmStart = w.stopped ≡ false
RunsAtCalm w (CalmReset A) = ⊥
RunsAtCalm w (CalmReset B) = w.stopped ≡ true
RunsAtCalm w CalmRestart = w.stopped ≡ true

abbrev pub ServerRunsAt : DiskLog → DiskEvent → Type 0
ServerRunsAt l (OnWire event) = RunsAtWire l.work event
ServerRunsAt l (Asks event) = ⊤
ServerRunsAt l (Works event) = RunsAtWork l.work event
ServerRunsAt l (Switches event) = RunsAtSwitch l.work event
ServerRunsAt l (Calms event) = RunsAtCalm l.work event
