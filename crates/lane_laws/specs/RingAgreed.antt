-- A disk's ring along a run: what holds of it where nobody meddles, and what is taken for it of the two sessions.
use Rattle.std.specs.Prelude.{◌≡◌, ◌+◌, ◌^◌, ◌<◌, ◌≤◌, false, length, List, Some}
use Rattle.runs.specs.Lawful.{log_of}
use Rattle.runs.specs.Run.{Run}
use Rattle.cookie_copy.specs.Identity.{IsIdentity}
use Rattle.ldc_queue.specs.declared.end.ChannelState.TheVariants.{Up}
use Rattle.lane_laws.specs.Agreement.{ClientAgrees, ServerAgrees}
use Rattle.lane_laws.specs.DiskLog.{DiskLog, after, nothing_yet}
use Rattle.lane_laws.specs.WorkLaws.{IfServer}
use Rattle.lane_laws.specs.WorkLog.{ClientCounts, ServerCounts, WorkLog}
use Rattle.lane_models.specs.DiskEvent.{DiskEvent}
use Rattle.lane_models.specs.LaneState.{LaneState, Shape, fresh, pages_of}
use Rattle.lane_models.specs.LaneStep.{LaneStep}
use Rattle.lane_models.specs.Offering.{own_cookies}
use Rattle.lane_models.specs.ServerWork.{slots_cookies}
use Rattle.lane_laws.specs.RingSlots.{IdsStand, RingHolds, RingOf, StatusStands, WorkStands}

abbrev pub ring_in : DiskLog → RingOf
ring_in l = record { blocks = l.shape.blocks; slots = l.shape.slots; issued = l.work.issued }

-- THE TWO SESSIONS are of one ring: the server has the client's slots and cookies; what is done was finished; what is acknowledged was
-- answered, and so finished; and what the server was asked for was announced, and so published
pub record OneRing (s : LaneState) (w : WorkLog) (d : ServerCounts) : Type 0 where
  pub client : ClientCounts
  pub open_is : w.client ≡ Some client
  pub slots : s.server.handshake.draft.peer_slots ≡ s.client.slots
  pub cookies : slots_cookies s.server ≡ own_cookies s.client.slots
  pub done : w.done ≤ client.base + d.finished
  pub acked : client.acked ≤ d.answered
  pub answered : d.answered ≤ d.finished
  pub descs : d.descs ≤ d.asked
  pub announced : d.asked ≤ client.announced
  pub asked : d.asked ≤ client.published
  pub small : d.asked < 2 ^ 64

-- the log counts what the sessions count, and where the server's end is up its open session is of the client's ring
pub record SessionsAgree (s : LaneState) (l : DiskLog) : Type 0 where
  pub client : ClientAgrees s.client.session l.work.done l.work.client
  pub server : ServerAgrees s.server.session s.server.work l.work.server
  pub ring : l.wire.wire.end_b ≡ Up → IfServer l.work.server (OneRing s l.work)

-- where nobody forged: the slots' bytes and numbers, and the descriptor in work of a server whose end is up
pub record InRing (s : LaneState) (l : DiskLog) : Type 0 where
  pub holds : RingHolds (ring_in l) l.ring s.memory
  pub ids : IdsStand l.shape.slots l.work.done l.ring l.work.client
  pub work : l.wire.wire.end_b ≡ Up → WorkStands (ring_in l) l.ring l.work.server

-- the table grants each page of the memory at its own index
pub record PagesStand (s : LaneState) (l : DiskLog) : Type 0 where
  pub identity : IsIdentity s.table (pages_of l.shape)
  pub few : l.shape.slots ≤ 256
  pub disk : l.shape.blocks ≤ 65536

pub record RingStands (s : LaneState) (l : DiskLog) : Type 0 where
  pub pages : PagesStand s l
  pub issued : length l.work.issued < 2 ^ 64
  pub statuses : StatusStands l.work.server
  pub unforged : l.wire.forged ≡ false → InRing s l

-- the sessions agree after every run of a lane of this shape that nobody forged
abbrev pub AlwaysAgree : Shape → Type 0
AlwaysAgree shape = (events : List DiskEvent) (s : LaneState) → Run LaneStep (fresh shape) events s
    → (log_of after (nothing_yet shape) events).wire.forged ≡ false → SessionsAgree s (log_of after (nothing_yet shape) events)
