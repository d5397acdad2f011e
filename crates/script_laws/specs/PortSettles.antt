-- What each settle of a script's lines comes to for a port.
use Rattle.std.specs.Prelude.{◌≡◌, ◌⊎◌, ℕ, Bool, true, false, List, ◌∷◌, ◌++◌}
use Rattle.domain_script.specs.declared.event.Event.{Event}
use Rattle.domain_script.specs.declared.event.Event.TheVariants.{Settle}
use Rattle.ldom_entries.specs.declared.entry.Entry.{Entry}
use Rattle.world_parts.specs.lane_models.FrameLaws.{IsFinished}
use Rattle.world_parts.specs.lane_models.NetEvent.{Ticked}
use Rattle.world_parts.specs.lane_models.NetLaneState.{NetShape}
use Rattle.world_parts.specs.lane_models.PortLog.{PortLog}
use Rattle.world_parts.specs.lane_models.PortState.{OnLane}
use Rattle.world_parts.specs.switch_laws.Events.{OnPort, SwitchEvent}
use Rattle.world_parts.specs.switch_laws.Ports.{is_calm}
use Rattle.world_parts.specs.world_laws.Settle.{OfPort, SettleEntry, Settled, UnsettledPort}
use Rattle.world_parts.specs.domain_laws.Settling.{port_ticks_in}
use Rattle.script_laws.specs.Still.{IsPortStill}
use Rattle.script_laws.specs.Told.{port_log_at, told, told_by}

-- A TICK IN IT comes only where the port isn't finished and both its ends are still; and where nobody forged the port,
-- only where a packet was lost since its queues were last emptied.
abbrev pub is_port_tick : SwitchEvent → Bool
is_port_tick (OnPort (OnLane (Ticked queued lost))) = true
is_port_tick _ = false

pub record PortNeedsTick (l : PortLog) : Type 0 where
  pub waits : IsFinished l → ⊥
  pub lost : l.wire.forged ≡ false → l.wire.lossy ≡ true
  pub still : IsPortStill l

abbrev pub PortTicksAreNeeded : NetShape → ℕ → List (Event × List Entry) → Type 0
PortTicksAreNeeded shape k lines =
    (before : List (Event × List Entry)) (part : List Entry) (behind : List (Event × List Entry))
    (so_far : List SettleEntry) (event : SwitchEvent) (rest : List SettleEntry)
    → lines ≡ before ++ (Settle, part) ∷ behind → told_by (Settle, part) ≡ so_far ++ OfPort k event ∷ rest
    → is_port_tick event ≡ true → PortNeedsTick (port_log_at shape k (told before ++ so_far))

-- IT IS LEFT OVER in it only where it moved there, by a step that isn't calm or by its tick, or isn't finished.
pub record PortMovedIn (k : ℕ) (part : List SettleEntry) : Type 0 where
  pub before : List SettleEntry
  pub event : SwitchEvent
  pub later : List SettleEntry
  pub is : part ≡ before ++ OfPort k event ∷ later
  pub loud : is_calm event ≡ false

abbrev pub PortLeftWhereBusy : NetShape → ℕ → List (Event × List Entry) → Type 0
PortLeftWhereBusy shape k lines =
    (before : List (Event × List Entry)) (part : List Entry) (behind : List (Event × List Entry))
    (so_far rest : List SettleEntry)
    → lines ≡ before ++ (Settle, part) ∷ behind → told_by (Settle, part) ≡ so_far ++ UnsettledPort k ∷ rest
    → PortMovedIn k so_far ⊎ (IsFinished (port_log_at shape k (told before ++ so_far)) → ⊥)

-- WHERE IT ENDS SETTLED the port is finished, or had its tick in the part; where nobody forged the port, it is finished.
-- And both its ends are still.
pub record PortEndsSo (k : ℕ) (so_far : List SettleEntry) (l : PortLog) : Type 0 where
  pub ticked : IsFinished l ⊎ (port_ticks_in k so_far ≡ 1)
  pub finished : l.wire.forged ≡ false → IsFinished l
  pub still : IsPortStill l

abbrev pub PortRestsOrTicked : NetShape → ℕ → List (Event × List Entry) → Type 0
PortRestsOrTicked shape k lines =
    (before : List (Event × List Entry)) (part : List Entry) (behind : List (Event × List Entry))
    (so_far rest : List SettleEntry)
    → lines ≡ before ++ (Settle, part) ∷ behind → told_by (Settle, part) ≡ so_far ++ Settled ∷ rest
    → PortEndsSo k so_far (port_log_at shape k (told before ++ so_far))

-- IT IS NAMED in a part
pub record NamesPort (k : ℕ) (part : List SettleEntry) : Type 0 where
  pub front : List SettleEntry
  pub later : List SettleEntry
  pub is : part ≡ front ++ UnsettledPort k ∷ later

-- OF EACH SETTLE among these lines, also one that want of memory cut off
pub record PortSettles (shape : NetShape) (k : ℕ) (lines : List (Event × List Entry)) : Type 0 where
  pub ticks : PortTicksAreNeeded shape k lines
  pub left : PortLeftWhereBusy shape k lines
  pub rests : PortRestsOrTicked shape k lines
