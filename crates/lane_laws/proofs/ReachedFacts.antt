-- What holds of each lane that is reached, also where somebody forges.
use Rattle.std.proofs.Common.{◌≡◌, ◌*◌, ◌≤◌, List, length, ap, ◌∙◌}
use Rattle.runs.specs.Lawful.{log_of, run_lawful}
use Rattle.runs.specs.Run.{Run}
use Rattle.ldc_link.specs.Following.{Follows}
use Rattle.lane_laws.specs.DiskLog.{after, nothing_yet}
use Rattle.lane_laws.specs.RequestLaws.{CarriesAt}
use Rattle.lane_models.specs.DiskEvent.{DiskEvent}
use Rattle.lane_models.specs.LaneState.{IsShape, LaneState, Shape, fresh, pages_of}
use Rattle.lane_models.specs.LaneStep.{LaneStep}
use Rattle.lane_laws.proofs.CarriedRuns.{AllStand, all_step, fresh_all}
use Rattle.lane_laws.specs.LaneTranscripts.{transcript_behind}
use Rattle.lane_laws.specs.MemoryStands.{memory_long}
use Rattle.lane_laws.specs.Sound.{CountsInOrder}
use Rattle.lane_laws.proofs.LaneStepping.{run_sound}
use Rattle.lane_laws.proofs.Speaking.{run_rests}

pub client_follows : (shape : Shape) (events : List DiskEvent) (s : LaneState) → IsShape shape → Run LaneStep (fresh shape) events s → Follows s.client.link (transcript_behind events).a
client_follows shape events s sound run = (run_rests shape events s sound run).client.stands.link.follows

pub server_follows : (shape : Shape) (events : List DiskEvent) (s : LaneState) → IsShape shape → Run LaneStep (fresh shape) events s → Follows s.server.link (transcript_behind events).b
server_follows shape events s sound run = (run_rests shape events s sound run).server.stands.link.follows

pub counts_stand : (shape : Shape) (events : List DiskEvent) (s : LaneState) → IsShape shape → Run LaneStep (fresh shape) events s → CountsInOrder (length s.client.pending) s.client.session
counts_stand shape events s sound run = (run_sound shape events s sound run).counts

pub pending_fits : (shape : Shape) (events : List DiskEvent) (s : LaneState) → IsShape shape → Run LaneStep (fresh shape) events s → length s.client.pending ≤ s.client.slots
pending_fits shape events s sound run = (run_sound shape events s sound run).pending

pub all_behind : (shape : Shape) (events : List DiskEvent) (s : LaneState) → IsShape shape → Run LaneStep (fresh shape) events s → AllStand s (log_of after (nothing_yet shape) events)
all_behind shape events s sound run =
    (run_lawful LaneStep CarriesAt after AllStand all_step (fresh shape) s (nothing_yet shape) events (fresh_all shape sound) run).1

pub memory_stays : (shape : Shape) (events : List DiskEvent) (s : LaneState) → IsShape shape → Run LaneStep (fresh shape) events s → length s.memory ≡ 8192 * pages_of s.shape
memory_stays shape events s sound run =
    let all = all_behind shape events s sound run in all.memory.long ∙ ap memory_long all.stands.slots
