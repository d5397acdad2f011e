-- A server's step with its store: the lane's step, and what became of the bytes that the store tells.
use Rattle.std.specs.Prelude.{◌≡◌, ℕ, ◌+◌, ◌*◌, Bool, true, false, List, length, Option, Some, None}
use Rattle.vio_io.specs.Stores.{KeepsOutside, ReadsRange, WritesRange}
use Rattle.lane_models.specs.DiskEvent.{DiskEvent, Off, OnWire, Stored, Switched, Switches, Works}
use Rattle.lane_models.specs.LaneState.{LaneState}
use Rattle.lane_models.specs.LaneStep.{ServerOnWire, ServerWorks}
use Rattle.lane_models.specs.ServerState.{Progress, Reads, ServerState, Work, Writes}

-- a call of the store that read or wrote a range, or failed: then outside of the range of a write nothing changed
abbrev pub StoreReads : Bool → Option (List ℕ) → Option (List ℕ) → ℕ → List ℕ → Type 0
StoreReads true told new at gave = new ≡ told
StoreReads false told new at gave = ReadsRange told at gave × (new ≡ told)

abbrev pub StoreWrites : Bool → Option (List ℕ) → Option (List ℕ) → ℕ → List ℕ → Type 0
StoreWrites true told new at bytes = KeepsOutside told new at (length bytes)
StoreWrites false told new at bytes = WritesRange told new at bytes

-- where a block of the disk stands in the image
abbrev pub place_in : ServerState → ℕ → ℕ
place_in s block = 512 * (s.first + block)

abbrev pub StoreDoesIn : Progress → ServerState → ℕ → Bool → List ℕ → Option (List ℕ) → Option (List ℕ) → Type 0
StoreDoesIn (Reads unit) s block failed gave told new = StoreReads failed told new (place_in s block) gave
StoreDoesIn (Writes unit bytes) s block failed gave told new = StoreWrites failed told new (place_in s block) bytes
StoreDoesIn _ s block failed gave told new = new ≡ told

abbrev pub StoreDoes : Option Work → ServerState → ℕ → Bool → List ℕ → Option (List ℕ) → Option (List ℕ) → Type 0
StoreDoes None s block failed gave told new = new ≡ told
StoreDoes (Some work) s block failed gave told new = StoreDoesIn work.progress s block failed gave told new

-- only a unit that is stored changes the store
abbrev pub StoreDid : LaneState → DiskEvent → List ℕ → Option (List ℕ) → Option (List ℕ) → Type 0
StoreDid s (Works (Stored operation block count failed)) gave told new = StoreDoes s.server.work s.server block failed gave told new
StoreDid s _ gave told new = new ≡ told

abbrev pub ServerSwitched : LaneState → Switched → LaneState → Type 0
ServerSwitched s Off t = (s.stopped ≡ true) × (t ≡ s)
ServerSwitched s _ t = ⊥

-- a step of the server, or that it is off, with what the store gave
abbrev pub ServedStep : LaneState → List ℕ → DiskEvent → LaneState → Type 0
ServedStep s gave (OnWire event) t = ServerOnWire s gave event t
ServedStep s gave (Works event) t = ServerWorks s gave event t
ServedStep s gave (Switches event) t = ServerSwitched s event t
ServedStep s gave _ t = ⊥

pub record Served (s : LaneState) (told : Option (List ℕ)) (event : DiskEvent) (t : LaneState) (new : Option (List ℕ)) : Type 0 where
  pub gave : List ℕ
  pub step : ServedStep s gave event t
  pub store : StoreDid s event gave told new
