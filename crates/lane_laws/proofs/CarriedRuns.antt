-- Along every run a read that succeeded carries 512 bytes a block, and every other completion none.
use Rattle.std.proofs.Common.{◌*◌, List, arith}
use Rattle.std.proofs.lemmas.List.{length-replicate}
use Rattle.runs.specs.Lawful.{Lawful, run_lawful}
use Rattle.runs.specs.Run.{Run}
use Rattle.lane_laws.specs.DiskLog.{DiskLog, after, nothing_yet}
use Rattle.lane_laws.specs.RequestLaws.{CarriesAt}
use Rattle.lane_models.specs.DiskEvent.{DiskEvent, Done, Works}
use Rattle.lane_models.specs.LaneState.{IsShape, LaneState, Shape, fresh, pages_of}
use Rattle.lane_models.specs.LaneStep.{LaneStep}
use Rattle.lane_laws.proofs.LaneStepping.{fresh_sound, sound_step}
use Rattle.lane_laws.proofs.MemorySteps.{carried_long, memory_step}
use Rattle.lane_laws.proofs.LaneViews.{at_client}
use Rattle.lane_laws.proofs.Requesting.{completed_next}
use Rattle.lane_laws.proofs.StandingRuns.{fresh_stands, stands_step}
use Rattle.lane_laws.specs.MemoryStands.{MemoryStands}
use Rattle.lane_laws.specs.Sound.{ClientSound}
use Rattle.lane_laws.specs.Standing.{LaneInvariant}

-- what an event may carry
carries : (s : LaneState) (l : DiskLog) (event : DiskEvent) (t : LaneState) → LaneInvariant s l → MemoryStands s → LaneStep s event t → CarriesAt l event
carries s l (Works (Done id operation status bytes)) t stands memory step =
    let next = completed_next s.client l.work (at_client s) s.memory id operation status bytes t.client t.memory stands.requests step.step in
    record { request = step.step.request; accepted = next.accepted; long = carried_long s id operation status bytes t.client t.memory memory step.step }
carries s l _ t stands memory step = tt

-- ALONG EVERY RUN
pub record AllStand (s : LaneState) (l : DiskLog) : Type 0 where
  pub sound : ClientSound s.client
  pub stands : LaneInvariant s l
  pub memory : MemoryStands s

fresh_memory : (shape : Shape) → IsShape shape → MemoryStands (fresh shape)
fresh_memory shape sound = record { some = omega (arith, sound.some_slots); long = length-replicate (8192 * pages_of shape) 0; sound = tt }

pub all_step : (s : LaneState) (l : DiskLog) (event : DiskEvent) (t : LaneState) → AllStand s l → LaneStep s event t → CarriesAt l event × AllStand t (after l event)
all_step s l event t all step = (
  carries s l event t all.stands all.memory step,
  record {
    sound = sound_step s event t all.sound step;
    stands = (stands_step s l event t all.stands step).stands;
    memory = memory_step s event t all.memory step;
  },
)

pub fresh_all : (shape : Shape) → IsShape shape → AllStand (fresh shape) (nothing_yet shape)
fresh_all shape sound = record { sound = fresh_sound shape sound; stands = fresh_stands shape; memory = fresh_memory shape sound }

pub carries_lawful : (shape : Shape) (events : List DiskEvent) (s : LaneState) → IsShape shape → Run LaneStep (fresh shape) events s → Lawful CarriesAt after (nothing_yet shape) events
carries_lawful shape events s sound run =
    (run_lawful LaneStep CarriesAt after AllStand all_step (fresh shape) s (nothing_yet shape) events
    (fresh_all shape sound) run).0
