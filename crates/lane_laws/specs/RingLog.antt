-- The slots of the ring, as what happened leaves them. They stay as the last session left them until the next one opens.
use Rattle.std.specs.Prelude.{ℕ, ◌+◌, ◌-◌, ◌%◌, Bool, true, false, List, replicate, set, Option, Some, None}
use Rattle.ldc_queue.specs.declared.end.End.TheVariants.{A}
use Rattle.lane_models.specs.WireEvent.{Sent}
use Rattle.lane_models.specs.DiskEvent as event
use Rattle.lane_laws.specs.WorkLog.{ClientCounts, ServerCounts, WorkLog}

pub data SlotLog : Type 0 where
  -- before the first session
  Zeros : SlotLog
  Free : SlotLog
  Ready : (id : ℕ) → SlotLog
  Accepted : (id : ℕ) → SlotLog
  Done : (id status : ℕ) → SlotLog

abbrev pub no_ring : ℕ → List SlotLog
no_ring slots = replicate slots Zeros

-- the id at a number of the client's session, which is the server's too where nobody forges
abbrev pub id_at : Option ClientCounts → ℕ → ℕ
id_at None number = number
id_at (Some c) number = c.base + number

abbrev pub published_at : ℕ → Option ClientCounts → ℕ → List SlotLog → List SlotLog
published_at slots None id ring = ring
published_at slots (Some c) id ring = set ring (c.published % slots) (Ready id)

abbrev pub finished_at : ℕ → WorkLog → Option ServerCounts → ℕ → ℕ → List SlotLog → List SlotLog
finished_at slots w None slot status ring = ring
finished_at slots w (Some c) slot status ring = set ring slot (Done (id_at w.client c.finished) status)

abbrev pub fetched_at : ℕ → WorkLog → Option ServerCounts → ℕ → List SlotLog → List SlotLog
fetched_at slots w None slot ring = ring
fetched_at slots w (Some c) slot ring = set ring slot (Accepted (id_at w.client c.descs))

abbrev pub freed_at : ℕ → WorkLog → Option ClientCounts → List SlotLog → List SlotLog
freed_at slots w None ring = ring
freed_at slots w (Some c) ring = set ring ((w.done - c.base) % slots) Free

abbrev pub cleared_if : Bool → ℕ → List SlotLog → List SlotLog
cleared_if true slots ring = replicate slots Free
cleared_if false slots ring = ring

-- the slots after one more event, by the counts before it
abbrev pub after_ring : ℕ → WorkLog → List SlotLog → event.DiskEvent → List SlotLog
after_ring slots w ring (event.OnWire (Sent A packet opens)) = cleared_if opens slots ring
after_ring slots w ring (event.Works (event.Published id)) = published_at slots w.client id ring
after_ring slots w ring (event.Works (event.Desc slot bytes)) = fetched_at slots w w.server slot ring
after_ring slots w ring (event.Works (event.Finished slot status)) = finished_at slots w w.server slot status ring
after_ring slots w ring (event.Works (event.Done id operation status bytes)) = freed_at slots w w.client ring
after_ring slots w ring _ = ring
