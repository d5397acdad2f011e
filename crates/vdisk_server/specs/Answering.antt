-- The answer of a step as an event of the disk's lane, and what the step does to the channel and to what the store
-- tells.
use Rattle.std.specs.Prelude.{◌≡◌, ℕ, List, [], Option, ⊤}
use Rattle.ldc_queue.specs.ChannelView.{ChannelView, channel_with, channel_without_first, configured_channel}
use Rattle.ldc_queue.specs.declared.end.End.TheVariants.{A, B}
use Rattle.map_table.specs.declared.table.Entry.{Entry}
use Rattle.lane_models.specs.WireEvent as wire
use Rattle.lane_models.specs.DiskEvent.{Desc, DiskEvent, Finished, Moved, OnWire, Stored, Works}
use Rattle.lane_models.specs.Seeing.{Seen, seen}
use Rattle.lane_models.specs.Served.{StoreDoes}
use Rattle.lane_models.specs.ServerState.{ServerState}
use Rattle.lane_models.specs.ServerStep.{ServerStep}
use Rattle.cookie_copy.specs.Reach.{Reach}
use Rattle.descriptor_work.specs.Calling.{reach_over}
use Rattle.vdisk_server.specs.declared.answers.ServerOut.{ServerOut}
use Rattle.vdisk_server.specs.declared.answers.ServerOut.TheVariants as out

-- a server loses nothing but its own work, which its client asks for again
abbrev pub server_event : ServerOut → DiskEvent
server_event out.Idle = OnWire (wire.Idle B)
server_event out.Blocked = OnWire (wire.Blocked B)
server_event out.Joined = OnWire (wire.Joined B 0)
server_event (out.Took packet opens) = OnWire (wire.Took B packet opens)
server_event (out.Sent packet opens) = OnWire (wire.Sent B packet opens)
server_event (out.Desc slot bytes) = Works (Desc slot bytes)
server_event (out.Moved unit fault) = Works (Moved unit fault)
server_event (out.Stored operation block count failed) = Works (Stored operation block count failed)
server_event (out.Finished slot status) = Works (Finished slot status)
server_event (out.Reset cause packet) = OnWire (wire.Reset B cause packet 0)

-- The channel after a step. A packet for which the end resets itself has left a queue that is emptied.
abbrev pub channel_after : ServerOut → ChannelView → ChannelView
channel_after out.Joined c = configured_channel B c
channel_after (out.Reset cause packet) c = configured_channel B c
channel_after (out.Took packet opens) c = channel_without_first B c
channel_after (out.Sent packet opens) c = channel_with A packet c
channel_after _ c = c

-- what the server sees of the channel
abbrev pub sees : ChannelView → Seen
sees c = seen B c.entries c.wire

-- what became of the bytes that the store tells, where it gave these
abbrev pub ToldAfter : ServerState → ServerOut → List ℕ → Option (List ℕ) → Option (List ℕ) → Type 0
ToldAfter s (out.Stored operation block count failed) gave told new = StoreDoes s.work s block failed gave told new
ToldAfter s _ gave told new = new ≡ told

-- ONE STEP OF THE SERVER, with what its store gave
pub record Serves (s : ServerState) (c : ChannelView) (table : List (Option Entry)) (memory : List ℕ) (told : Option (List ℕ)) (answer : ServerOut) (t : ServerState) (new_memory : List ℕ) (new_told : Option (List ℕ)) : Type 0 where
  pub gave : List ℕ
  pub step : ServerStep s (sees c) (reach_over c table memory) gave (server_event answer) t new_memory
  pub store : ToldAfter s answer gave told new_told

-- the store isn't called
abbrev pub LeavesStore : ServerOut → Type 0
LeavesStore (out.Stored operation block count failed) = ⊥
LeavesStore _ = ⊤

-- a step that reaches neither memory nor store
pub record StepsAlone (s : ServerState) (c : ChannelView) (answer : ServerOut) (t : ServerState) : Type 0 where
  pub leaves : LeavesStore answer
  pub step : (reach : Reach) → ServerStep s (sees c) reach [] (server_event answer) t reach.memory

-- a step that reaches the client's memory and no store
pub record StepsIn (s : ServerState) (c : ChannelView) (table : List (Option Entry)) (memory : List ℕ) (answer : ServerOut) (t : ServerState) (new : List ℕ) : Type 0 where
  pub leaves : LeavesStore answer
  pub step : ServerStep s (sees c) (reach_over c table memory) [] (server_event answer) t new

-- the disk stays where it is, and as it is
pub record SameDisk (s t : ServerState) : Type 0 where
  pub first : t.first ≡ s.first
  pub blocks : t.blocks ≡ s.blocks
  pub slots : t.slots ≡ s.slots
