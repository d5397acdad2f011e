-- Conditions on entries: those of lanes; and those that aren't the answer of a settle, or name no lane that is left over.
use Rattle.std.proofs.Common.{List, [], ◌∷◌, arith}
use Rattle.std.specs.Prelude.{⊤}
use Rattle.world_parts.specs.world_laws.Settle.{OfLane, OfPort, SettleEntry, Settled, Unsettled, UnsettledPort}
use Rattle.world_parts.proofs.domain_laws.LineEntries.{EachEntry}

-- an event of a lane
abbrev pub IsOfLane : SettleEntry → Type 0
IsOfLane (OfLane k event) = ⊤
IsOfLane (OfPort k event) = ⊤
IsOfLane _ = ⊥

-- no lane is left over by it
abbrev pub LeavesNone : SettleEntry → Type 0
LeavesNone (Unsettled k) = ⊥
LeavesNone (UnsettledPort k) = ⊥
LeavesNone _ = ⊤

-- it names a lane that is left over
abbrev pub IsName : SettleEntry → Type 0
IsName (Unsettled k) = ⊤
IsName (UnsettledPort k) = ⊤
IsName _ = ⊥

-- it doesn't say that all is settled
abbrev pub NotSettled : SettleEntry → Type 0
NotSettled Settled = ⊥
NotSettled _ = ⊤

-- events of lanes leave no disk over, and don't say so
lane_leaves : (entry : SettleEntry) → IsOfLane entry → LeavesNone entry
lane_leaves entry is = grind arith

pub lanes_leave : (part : List SettleEntry) → EachEntry IsOfLane part → EachEntry LeavesNone part
lanes_leave [] each = tt
lanes_leave (entry ∷ part) each = (lane_leaves entry each.0, lanes_leave part each.1)

lane_unsettled : (entry : SettleEntry) → IsOfLane entry → NotSettled entry
lane_unsettled entry is = grind arith

pub lanes_unsettled : (part : List SettleEntry) → EachEntry IsOfLane part → EachEntry NotSettled part
lanes_unsettled [] each = tt
lanes_unsettled (entry ∷ part) each = (lane_unsettled entry each.0, lanes_unsettled part each.1)

-- nor do names
name_unsettled : (entry : SettleEntry) → IsName entry → NotSettled entry
name_unsettled entry is = grind arith

pub names_unsettled : (names : List SettleEntry) → EachEntry IsName names → EachEntry NotSettled names
names_unsettled [] each = tt
names_unsettled (entry ∷ names) each = (name_unsettled entry each.0, names_unsettled names each.1)
