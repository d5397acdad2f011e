-- What is known of a lane that nobody forges, before an event and after it, and how its near counts stand to its log.
use Rattle.std.proofs.Common.{◌≡◌, ℕ, ◌+◌, ◌-◌, ◌≤◌, Some, sym, ap}
use Rattle.ldc_queue.specs.declared.end.ChannelState.TheVariants.{Up}
use Rattle.lane_laws.specs.DiskLog.{DiskLog}
use Rattle.lane_laws.specs.WorkLog.{ServerCounts}
use Rattle.lane_models.specs.ClientState.{ClientSession, ClientState, ever_published_count}
use Rattle.lane_models.specs.LaneState.{LaneState}
use Rattle.lane_laws.proofs.LaneCounting.{Knows}
use Rattle.lane_laws.proofs.Requesting.{first_done}
use Rattle.lane_laws.proofs.RingWork.{Known}
use Rattle.lane_laws.specs.SlotsInOrder.{SlotsInOrder}
use Rattle.lane_laws.specs.Standing.{LaneInvariant}
use Rattle.lane_laws.proofs.LiveCounts.{KIs, counts_while}

-- THE COUNTS: what is finished, and what was ever published
pub record EverStands (done : ℕ) (c : ClientState) : Type 0 where
  pub done_first : done ≤ c.ever_published
  pub most : c.ever_published ≤ c.next_id
  pub session : (session : ClientSession) → c.session ≡ Some session → session.base + session.published ≤ c.ever_published

pub record NearStands (s : LaneState) (l : DiskLog) : Type 0 where
  pub k : KIs (counts_while l.wire.wire.end_b l.work.server) l.work.client l.work.done s.near.k
  pub m : s.near.m ≤ s.client.ever_published - l.work.done
  pub ever : EverStands l.work.done s.client

-- what is known before an event
pub record Before (s : LaneState) (l : DiskLog) : Type 0 where
  pub knows : Knows s l
  pub known : Known s l
  pub order : SlotsInOrder l
  pub near : NearStands s l
  pub alive : (d : ServerCounts) → l.wire.wire.end_b ≡ Up → l.work.server ≡ Some d → l.wire.wire.end_a ≡ Up

pub ever_count : (s : LaneState) (l : DiskLog) → LaneInvariant s l → ever_published_count s.client ≡ s.client.ever_published - l.work.done
ever_count s l stands = let first = first_done s.client l.work stands.requests in ap (λ (n : ℕ). s.client.ever_published - n) (sym first)
