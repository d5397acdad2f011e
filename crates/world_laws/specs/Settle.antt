-- The entries of a settle over the lanes of disks and the ports of a switch. And a settle over disks: what their rounds and ticks leave in
-- the journal, and the part that it gives.
use Rattle.std.specs.Prelude.{ℕ, ◌+◌, ◌*◌, Bool, if◌then◌else◌, List, [], ◌∷◌, length}
use Rattle.lane_kinds.specs.Lanes.{Entries}
use Rattle.lane_kinds.specs.Lanes as lanes
use Rattle.lane_kinds.specs.Rounds.{Rounds}
use Rattle.lane_kinds.specs.Settles as settle
use Rattle.lane_models.specs.DiskEvent.{DiskEvent}
use Rattle.lane_models.specs.LaneState.{LaneState}
use Rattle.switch_laws.specs.Events.{SwitchEvent}
use Rattle.world_laws.specs.DiskKind.{disk_kind, is_silent}
use Rattle.world_laws.specs.Rounds.{LaneRound}

-- AN ENTRY of the part: an event of the disk's lane with this number, or of the port with it; or the answer of the settle
pub data SettleEntry : Type 0 where
  OfLane : (lane : ℕ) (event : DiskEvent) → SettleEntry
  OfPort : (port : ℕ) (event : SwitchEvent) → SettleEntry
  Settled : SettleEntry
  Unsettled : (lane : ℕ) → SettleEntry
  UnsettledPort : (port : ℕ) → SettleEntry

abbrev pub disk_entries : Entries DiskEvent SettleEntry
disk_entries = record { of_lane = OfLane; left_over = Unsettled; settled = Settled }

-- a step that idles, and one of a stopped server, leave none
abbrev pub entry_of : ℕ → DiskEvent → List SettleEntry
entry_of k event = if is_silent event then [] else OfLane k event ∷ []

-- the entries of a round, and of the ticks after it, of the lanes from this number on
abbrev pub round_entries : ℕ → List LaneRound → List SettleEntry
round_entries = lanes.round_entries disk_kind disk_entries

abbrev pub tick_entries : ℕ → List LaneState → List Bool → List SettleEntry
tick_entries = lanes.tick_entries disk_kind disk_entries

-- how many requests are pending on all of them
abbrev pub pending_on : List LaneState → ℕ
pending_on = lanes.sum_of (λ s. length s.client.pending)

-- where the rounds ran out: each lane that wasn't quiet in the last of them, or that isn't finished though its server runs, is named
abbrev pub left_over : ℕ → List LaneRound → List LaneState → List SettleEntry
left_over = lanes.left_names disk_kind disk_entries

-- DISKS, as a settle sees them
abbrev pub disks : Rounds (List LaneState) (List Bool) (List LaneRound) SettleEntry
disks = lanes.lanes_of disk_kind disk_entries

-- A SETTLE of them
abbrev pub Settling : Type 0
Settling = settle.Settling (List LaneState) (List Bool)

abbrev pub begin : List LaneState → Settling
begin = settle.begin disks

abbrev pub SettleRound : Type 0
SettleRound = settle.SettleRound (List LaneRound) SettleEntry

abbrev pub TicksBehind : Bool → Settling → List LaneRound → List LaneState → List SettleEntry → Settling → Type 0
TicksBehind = settle.TicksBehind disks

abbrev pub GoesOn : Settling → SettleRound → Settling → Type 0
GoesOn = settle.GoesOn disks

abbrev pub IsLast : Settling → List LaneRound → List LaneState → Type 0
IsLast = settle.IsLastRound disks

abbrev pub entries_of_rounds : List SettleRound → List SettleEntry
entries_of_rounds rounds = settle.entries_of_rounds rounds

abbrev pub most_rounds : List LaneState → ℕ
most_rounds lanes = 4096 + 64 * pending_on lanes

abbrev pub Settles : List LaneState → List SettleEntry → List LaneState → Type 0
Settles = settle.Settles disks

abbrev pub RunsOut : List LaneState → List SettleEntry → List LaneState → Type 0
RunsOut = settle.RunsOut disks

abbrev pub SettlePart : List LaneState → List SettleEntry → List LaneState → Type 0
SettlePart = settle.SettlePart disks
