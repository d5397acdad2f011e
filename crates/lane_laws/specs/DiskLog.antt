-- What happened to a disk's lane, in groups: each law looks at its own, and each group reads those before it.
use Rattle.std.specs.Prelude.{Bool, false, ◌||◌, List, Option, Some, None}
use Rattle.ldc_queue.specs.declared.end.End.{End}
use Rattle.ldc_queue.specs.declared.end.End.TheVariants.{B}
use Rattle.lane_models.specs.TranscriptLog.{TranscriptLog, nothing_said, silenced, transcript_moved}
use Rattle.lane_models.specs.WireEvent.{Idle, WireEvent}
use Rattle.lane_models.specs.WireLog.{WireLog, nothing_on_wire, server_closed, wire_moved}
use Rattle.lane_laws.specs.BlockLog.{BlockLog, after_block, nothing_blocked}
use Rattle.lane_models.specs.DiskEvent.{DiskEvent, OnWire, Stopped, Stored, Switches, Works}
use Rattle.lane_models.specs.LaneState.{Shape}
use Rattle.lane_laws.specs.NearLog.{NearLog, after_near, nothing_near}
use Rattle.lane_laws.specs.RingLog.{SlotLog, after_ring, no_ring}
use Rattle.lane_laws.specs.WorkLog.{WorkLog, after_work, no_work}

pub record DiskLog : Type 0 where
  pub shape : Shape
  pub wire : WireLog
  pub transcript : TranscriptLog
  pub work : WorkLog
  pub ring : List SlotLog
  pub near : NearLog
  pub blocked : BlockLog
  -- a call of the server's store failed
  pub failed : Bool
  -- the end whose idle step was the last event
  pub last_idle : Option End

abbrev pub nothing_yet : Shape → DiskLog
nothing_yet shape = record {
  shape = shape;
  wire = nothing_on_wire;
  transcript = nothing_said;
  work = no_work;
  ring = no_ring shape.slots;
  near = nothing_near;
  blocked = nothing_blocked;
  failed = false;
  last_idle = None;
}

abbrev pub after_wire : WireLog → DiskEvent → WireLog
after_wire l (OnWire event) = wire_moved l event
after_wire l (Switches Stopped) = server_closed l
after_wire l _ = l

abbrev pub after_transcript : TranscriptLog → DiskEvent → TranscriptLog
after_transcript l (OnWire event) = transcript_moved l event
after_transcript l (Switches Stopped) = silenced B l
after_transcript l _ = l

abbrev pub after_failed : Bool → DiskEvent → Bool
after_failed before (Works (Stored operation block count failed)) = before || failed
after_failed before _ = before

abbrev pub idle_in : WireEvent → Option End
idle_in (Idle e) = Some e
idle_in _ = None

abbrev pub after_idle : DiskEvent → Option End
after_idle (OnWire event) = idle_in event
after_idle _ = None

-- the log after one more event
abbrev pub after : DiskLog → DiskEvent → DiskLog
after l event = record {
  shape = l.shape;
  wire = after_wire l.wire event;
  transcript = after_transcript l.transcript event;
  work = after_work l.shape.blocks l.shape.slots l.transcript l.work event;
  ring = after_ring l.shape.slots l.work l.ring event;
  near = after_near l.work.done l.near event;
  blocked = after_block l.blocked event;
  failed = after_failed l.failed event;
  last_idle = after_idle event;
}
