-- What the open sessions are to the log's counts, where they agree.
use Rattle.std.proofs.Common.{◌≡◌, ℕ, ◌+◌, ◌%◌, ◌^◌, ◌<◌, ◌≤◌, Option, Some, subst, arith}
use Rattle.ldc_queue.specs.declared.end.ChannelState.TheVariants.{Up}
use Rattle.lane_laws.specs.Agreement.{ClientAgrees, ClientCountsAgree, ServerAgrees, ServerCountsAgree, WorkAgrees}
use Rattle.lane_laws.specs.DiskLog.{DiskLog}
use Rattle.lane_laws.specs.WorkLaws.{IfServer}
use Rattle.lane_laws.specs.WorkLog.{ClientCounts, ServerCounts}
use Rattle.lane_models.specs.ClientState.{ClientSession}
use Rattle.lane_models.specs.LaneState.{LaneState}
use Rattle.lane_models.specs.ServerState.{ServerSession, Work}
use Rattle.lane_laws.proofs.SlotBytes.{Sizes}
use Rattle.lane_laws.specs.RingAgreed.{OneRing, PagesStand, SessionsAgree, ring_in}

-- THE CLIENT'S
pub record OfClient (c : ClientSession) (done : ℕ) (q : Option ClientCounts) : Type 0 where
  pub counts : ClientCounts
  pub open_is : q ≡ Some counts
  pub agree : ClientCountsAgree c done counts

of_client_if : (o : Option ClientSession) (done : ℕ) (q : Option ClientCounts) (c : ClientSession) → o ≡ Some c → ClientAgrees o done q → OfClient c done q
of_client_if o done q c is agree = grind arith

pub of_client : (s : LaneState) (l : DiskLog) (c : ClientSession) → s.client.session ≡ Some c → SessionsAgree s l → OfClient c l.work.done l.work.client
of_client s l c is agree = of_client_if s.client.session l.work.done l.work.client c is agree.client

-- what is published is within one turn behind what is done
pub record WithinRing (k : ClientCounts) (done slots : ℕ) : Type 0 where
  pub based : k.base ≤ done
  pub turn : k.base + k.published ≤ done + slots

-- THE SERVER'S
pub record OfServer (v : ServerSession) (w : Option Work) (q : Option ServerCounts) : Type 0 where
  pub counts : ServerCounts
  pub open_is : q ≡ Some counts
  pub agree : ServerCountsAgree v counts
  pub work : WorkAgrees w counts

of_server_if : (o : Option ServerSession) (w : Option Work) (q : Option ServerCounts) (v : ServerSession) → o ≡ Some v → ServerAgrees o w q → OfServer v w q
of_server_if o w q v is agree = grind arith

pub of_server : (s : LaneState) (l : DiskLog) (v : ServerSession) → s.server.session ≡ Some v → SessionsAgree s l → OfServer v s.server.work l.work.server
of_server s l v is agree = of_server_if s.server.session s.server.work l.work.server v is agree.server

pub one_ring : (s : LaneState) (l : DiskLog) (d : ServerCounts) → l.work.server ≡ Some d → l.wire.wire.end_b ≡ Up → SessionsAgree s l → OneRing s l.work d
one_ring s l d is up agree = subst (λ (q : Option ServerCounts). IfServer q (OneRing s l.work)) is (agree.ring up)

-- a number that didn't wrap
pub unwrapped : (n : ℕ) → n < 2 ^ 64 → n % 2 ^ 64 ≡ n
unwrapped n small = omega (arith, small)

pub sizes_of : (s : LaneState) (l : DiskLog) (slot : ℕ) → PagesStand s l → slot < l.shape.slots → Sizes (ring_in l) slot
sizes_of s l slot pages below = record { disk = omega (arith, pages.disk); below = below; few = pages.few }
