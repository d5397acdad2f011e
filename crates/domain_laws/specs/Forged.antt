-- Who forges a port: events that put a packet which no end put, or write bytes into a memory that its end never wrote.
-- And lines of a script that forge nothing: they inject no packet and poke into no memory, or not on this lane.
use Rattle.std.specs.Prelude.{◌≡◌, ◌≢◌, Bool, true, false, List, ⊤}
use Rattle.lane_kinds.specs.Lanes.{EachOf}
use Rattle.lane_models.specs.NetEvent as net
use Rattle.lane_models.specs.PortState.{OnLane}
use Rattle.switch_laws.specs.Events.{OnPort, SwitchEvent}
use Rattle.world_laws.specs.Settle.{SettleEntry}
use Rattle.domain_laws.specs.Lines.{Calls, Injects, LaneName, Line, Pokes}

abbrev pub forges : SwitchEvent → Bool
forges (OnPort (OnLane (net.Injects e packet))) = true
forges (OnPort (OnLane (net.Pokes e at bytes))) = true
forges _ = false

-- NOBODY FORGED a port among these events
abbrev pub NobodyForgesPort : List SwitchEvent → Type 0
NobodyForgesPort events = EachOf (λ (event : SwitchEvent). forges event ≡ false) events

-- A LINE FORGES NOTHING where it injects no packet and pokes into no memory
abbrev pub ForgesNothing : Line → Type 0
ForgesNothing (Calls lane (Injects e packet)) = ⊥
ForgesNothing (Calls lane (Pokes e at bytes)) = ⊥
ForgesNothing _ = ⊤

abbrev pub AllForgeNothing : List (Line × List SettleEntry) → Type 0
AllForgeNothing lines = EachOf (λ (line : Line × List SettleEntry). ForgesNothing line.0) lines

-- IT FORGES ANOTHER LANE where it injects or pokes on that one, or nothing
abbrev pub ForgesOthers : LaneName → Line → Type 0
ForgesOthers lane (Calls other (Injects e packet)) = other ≢ lane
ForgesOthers lane (Calls other (Pokes e at bytes)) = other ≢ lane
ForgesOthers lane _ = ⊤

abbrev pub AllForgeOthers : LaneName → List (Line × List SettleEntry) → Type 0
AllForgeOthers lane lines = EachOf (λ (line : Line × List SettleEntry). ForgesOthers lane line.0) lines
