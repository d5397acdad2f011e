-- One event of a disk's lane: a step of an end, a call of the lane, or a disturbance. Exact, also where somebody forges packets and
-- memory.
use Rattle.std.specs.Prelude.{◌≡◌, ℕ, ◌+◌, ◌≤◌, Bool, true, false, ◌||◌, ◌==◌, if◌then◌else◌, List, length, Option, None}
use Rattle.ldc_queue.specs.declared.end.End.{End}
use Rattle.ldc_queue.specs.declared.end.End.TheVariants.{A, B}
use Rattle.vio_bytes.specs.Place.{put_at}
use Rattle.vio_tag.specs.declared.cause.Cause.{Cause}
use Rattle.lane_models.specs.WireAt.{DeclinesAt, HasRoomFor, IsFirstOn, IsUp, Sizes}
use Rattle.lane_models.specs.WireEvent.{Blocked, ByRestart, ByScript, ByStep, ByTick, Declines, Giver, Idle, Injected, Joined, Lost, Poked, Reset, Sent, Took, WireEvent, giver}
use Rattle.lane_models.specs.WireLog.{server_closed, wire_moved}
use Rattle.lane_models.specs.ClientState.{is_finished, joined_client}
use Rattle.lane_models.specs.ClientStep.{ClientAdmits, ClientStep}
use Rattle.lane_models.specs.DiskEvent.{Asks, Calm, CalmReset, CalmRestart, CalmStart, CalmStop, CalmTick, Desc, DiskEvent, Done, Finished, Misplaced, Moved, Off, OnWire, Published, Calms, Started, Stopped, Stored, Switched, Switches, Worked, Works}
use Rattle.lane_models.specs.LaneState.{LaneState, NearCounts, near_disturbed, near_done, near_finished, risen}
use Rattle.lane_models.specs.Seeing.{seen}
use Rattle.lane_models.specs.ServerState.{joined_server, restarted_server}
use Rattle.lane_models.specs.ServerStep.{ServerStep}
use Rattle.cookie_copy.specs.Reach.{Reach}

abbrev pub sizes_of : LaneState → Sizes
sizes_of s = record { entries = s.shape.entries; memory = length s.memory }

-- the counts after an event of the work: a store that fails stores nothing, and a read or a flush no block of a write
abbrev pub stored_blocks : ℕ → ℕ → Bool → ℕ → ℕ
stored_blocks operation count true u = u
stored_blocks operation count false u = if operation == 2 then risen u count else u

abbrev pub near_worked : Worked → NearCounts → NearCounts
near_worked (Done id operation status bytes) n = near_done n
near_worked (Finished slot status) n = near_finished n
near_worked (Stored operation block count failed) n = record n { u = stored_blocks operation count failed n.u }
near_worked (Published id) n = n
near_worked (Desc slot bytes) n = n
near_worked (Moved unit fault) n = n
near_worked Misplaced n = n

abbrev pub failed_worked : Worked → Bool
failed_worked (Stored operation block count failed) = failed
failed_worked _ = false

-- A reset of an end disturbs the requests that were published.
abbrev pub near_on_wire : LaneState → WireEvent → NearCounts
near_on_wire s (Reset e cause packet lost) = near_disturbed s.client
near_on_wire s _ = s.near

-- A step of the client, and one of the server, which runs, with what its store gave.
pub record ClientOnWire (s : LaneState) (event : WireEvent) (t : LaneState) : Type 0 where
  pub step : ClientStep s.client (seen A s.shape.entries s.wire.wire) s.memory (OnWire event) t.client t.memory
  pub is : t ≡ record s { wire = wire_moved s.wire event; client = t.client; memory = t.memory; near = near_on_wire s event }

pub record ClientWorks (s : LaneState) (event : Worked) (t : LaneState) : Type 0 where
  pub step : ClientStep s.client (seen A s.shape.entries s.wire.wire) s.memory (Works event) t.client t.memory
  pub is : t ≡ record s { client = t.client; memory = t.memory; near = near_worked event s.near }

abbrev pub reach : LaneState → Bool → Reach
reach s both = record { both = both; table = s.table; memory = s.memory }

abbrev pub ServerSteps : LaneState → List ℕ → DiskEvent → LaneState → Type 0
ServerSteps s gave event t =
    (s.stopped ≡ false)
    × ServerStep s.server (seen B s.shape.entries s.wire.wire) (reach s (seen B s.shape.entries s.wire.wire).both) gave event t.server t.memory

pub record ServerOnWire (s : LaneState) (gave : List ℕ) (event : WireEvent) (t : LaneState) : Type 0 where
  pub step : ServerSteps s gave (OnWire event) t
  pub is : t ≡ record s { wire = wire_moved s.wire event; server = t.server; memory = t.memory; near = near_on_wire s event }

pub record ServerWorks (s : LaneState) (gave : List ℕ) (event : Worked) (t : LaneState) : Type 0 where
  pub step : ServerSteps s gave (Works event) t
  pub is : t ≡ record s {
    server = t.server;
    memory = t.memory;
    failed = s.failed || failed_worked event;
    near = near_worked event s.near;
  }

abbrev pub EndOnWire : End → LaneState → WireEvent → LaneState → Type 0
EndOnWire A s event t = ClientOnWire s event t
EndOnWire B s event t = (gave : List ℕ) × ServerOnWire s gave event t

-- A reset that no step gave: of either end by the script, of the server by a restart, which makes its values new, of the client by a tick
abbrev pub CallsReset : LaneState → LaneState → Cause → End → Option (List ℕ) → ℕ → LaneState → Type 0
CallsReset s behind cause e packet lost t =
    (packet ≡ None) × (lost ≡ 0)
    × (t ≡ record behind { wire = wire_moved s.wire (Reset e cause packet lost); near = near_disturbed s.client })

abbrev pub ResetBy : Giver → End → LaneState → Cause → Option (List ℕ) → ℕ → LaneState → Type 0
ResetBy ByStep e s cause packet lost t = EndOnWire e s (Reset e cause packet lost) t
ResetBy ByScript A s cause packet lost t = CallsReset s (record s { client = joined_client s.client }) cause A packet lost t
ResetBy ByScript B s cause packet lost t =
    (s.stopped ≡ false) × CallsReset s (record s { server = joined_server s.server }) cause B packet lost t
ResetBy ByRestart A s cause packet lost t = ⊥
ResetBy ByRestart B s cause packet lost t =
    (s.stopped ≡ false) × CallsReset s (record s { server = restarted_server s.server }) cause B packet lost t
ResetBy ByTick A s cause packet lost t =
    (is_finished s.client ≡ false) × CallsReset s (record s { client = joined_client s.client }) cause A packet lost t
ResetBy ByTick B s cause packet lost t = ⊥

-- THE WIRE
abbrev pub WireStep : LaneState → WireEvent → LaneState → Type 0
WireStep s (Joined e lost) t = EndOnWire e s (Joined e lost) t
WireStep s (Took e packet opens) t = EndOnWire e s (Took e packet opens) t
WireStep s (Sent e packet opens) t = EndOnWire e s (Sent e packet opens) t
WireStep s (Idle e) t = EndOnWire e s (Idle e) t
WireStep s (Blocked e) t = EndOnWire e s (Blocked e) t
WireStep s (Reset e cause packet lost) t = ResetBy (giver cause) e s cause packet lost t
WireStep s (Lost e packet) t = IsFirstOn packet e s.wire.wire × (t ≡ record s { wire = wire_moved s.wire (Lost e packet) })
WireStep s (Injected e packet) t =
    IsUp e s.wire.wire × HasRoomFor (sizes_of s) e s.wire.wire × (t ≡ record s { wire = wire_moved s.wire (Injected e packet) })
WireStep s (Poked A at bytes) t =
    (at + length bytes ≤ length s.memory)
    × (t ≡ record s { wire = wire_moved s.wire (Poked A at bytes); memory = put_at at bytes s.memory })
WireStep s (Poked B at bytes) t = ⊥
WireStep s (Declines d) t = DeclinesAt (sizes_of s) s.wire d × (t ≡ s)

-- THE WORK, each kind at its end
abbrev pub WorkStep : LaneState → Worked → LaneState → Type 0
WorkStep s (Published id) t = ClientWorks s (Published id) t
WorkStep s (Done id operation status bytes) t = ClientWorks s (Done id operation status bytes) t
WorkStep s (Desc slot bytes) t = (gave : List ℕ) × ServerWorks s gave (Desc slot bytes) t
WorkStep s (Moved unit fault) t = (gave : List ℕ) × ServerWorks s gave (Moved unit fault) t
WorkStep s (Stored operation block count failed) t = (gave : List ℕ) × ServerWorks s gave (Stored operation block count failed) t
WorkStep s (Finished slot status) t = (gave : List ℕ) × ServerWorks s gave (Finished slot status) t
WorkStep s Misplaced t = ⊥

-- STOPS: the server's values are made new and its end is closed, which empties the queues; a stopped server makes no step
abbrev pub SwitchedStep : LaneState → Switched → LaneState → Type 0
SwitchedStep s Stopped t =
    (s.stopped ≡ false)
    × (t ≡ record s { wire = server_closed s.wire; server = restarted_server s.server; stopped = true; near = near_disturbed s.client })
SwitchedStep s Started t = (s.stopped ≡ true) × (t ≡ record s { stopped = false })
SwitchedStep s Off t = (s.stopped ≡ true) × (t ≡ s)

-- CALLS that change nothing, each exactly where it is said
abbrev pub CalmStep : LaneState → Calm → LaneState → Type 0
CalmStep s CalmTick t = (is_finished s.client ≡ true) × (t ≡ s)
CalmStep s CalmStop t = (s.stopped ≡ true) × (t ≡ s)
CalmStep s CalmStart t = (s.stopped ≡ false) × (t ≡ s)
CalmStep s (CalmReset A) t = ⊥
CalmStep s (CalmReset B) t = (s.stopped ≡ true) × (t ≡ s)
CalmStep s CalmRestart t = (s.stopped ≡ true) × (t ≡ s)

abbrev pub LaneStep : LaneState → DiskEvent → LaneState → Type 0
LaneStep s (OnWire event) t = WireStep s event t
LaneStep s (Asks event) t = ClientAdmits s.client event t.client × (t ≡ record s { client = t.client })
LaneStep s (Works event) t = WorkStep s event t
LaneStep s (Switches event) t = SwitchedStep s event t
LaneStep s (Calms event) t = CalmStep s event t
