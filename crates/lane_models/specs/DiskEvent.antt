-- What may happen to a disk's lane, with what was asked and what came of it.
use Rattle.std.specs.Prelude.{ℕ, Bool, List, Option}
use Rattle.cookie_copy.specs.declared.fault.CopyFault.{CopyFault}
use Rattle.ldc_queue.specs.declared.end.End.{End}
use Rattle.vdisk_msg.specs.declared.request.Request.{Request}
use Rattle.vdisk_msg.specs.Requests.{Defect}
use Rattle.lane_models.specs.WireEvent.{WireEvent}

-- what comes of a request
pub data Admitted : Type 0 where
  Accepted : (id : ℕ) (request : Request) → Admitted
  Full : (request : Request) → Admitted
  Refused : (why : Defect) (request : Request) → Admitted

-- The work of the two ends. The client publishes a request in the ring, and completes it, with the bytes of a read; the server fetches
-- a descriptor, copies a unit, reads or writes it on its store, and gives the descriptor its status.
pub data Worked : Type 0 where
  Published : (id : ℕ) → Worked
  Done : (id operation status : ℕ) (bytes : List ℕ) → Worked
  Desc : (slot : ℕ) (bytes : List ℕ) → Worked
  Moved : (unit : ℕ) (fault : Option CopyFault) → Worked
  Stored : (operation block count : ℕ) (failed : Bool) → Worked
  Finished : (slot status : ℕ) → Worked
  -- the work of one end, told of the other: it never happens
  Misplaced : Worked

-- the server is stopped or started, or was to make a step while it is stopped
pub data Switched : Type 0 where
  Stopped : Switched
  Started : Switched
  Off : Switched

-- what was asked of the lane, and changes nothing there
pub data Calm : Type 0 where
  CalmTick : Calm
  CalmStop : Calm
  CalmStart : Calm
  CalmReset : (e : End) → Calm
  CalmRestart : Calm

pub data DiskEvent : Type 0 where
  OnWire : WireEvent → DiskEvent
  Asks : Admitted → DiskEvent
  Works : Worked → DiskEvent
  Switches : Switched → DiskEvent
  Calms : Calm → DiskEvent
