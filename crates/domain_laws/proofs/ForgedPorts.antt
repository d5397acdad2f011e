-- A port's state says whether somebody forged it, and so do its events.
use Rattle.std.proofs.Common.{◌≡◌, ◌↔◌, ℕ, false, Some, List, [], ◌∷◌, map, slice_get, refl, ap, ◌∙◌, subst}
use Rattle.runs.specs.Run.{Run}
use Rattle.port_laws.proofs.PortWire.{port_wire}
use Rattle.lane_models.specs.NetEvent.{Injects, NetEvent, Pokes}
use Rattle.lane_models.specs.NetLaneState.{NetShape}
use Rattle.lane_models.specs.PortState.{OnLane, PortState, Receives, fresh_port}
use Rattle.switch_laws.proofs.Steps.{was_unforged}
use Rattle.switch_laws.specs.Events.{OnPort, SwitchEvent, SwitchStep, Switched}
use Rattle.switch_laws.specs.Reached.{IsUnforged}
use Rattle.world_laws.proofs.Forging.{forged_now}
use Rattle.world_laws.specs.Settle.{SettleEntry}
use Rattle.domain_laws.proofs.HonestPorts.{IsNetHonest, IsSwitchHonest, port_stays}
use Rattle.domain_laws.proofs.Running.{fresh_there, port_moved}
use Rattle.domain_laws.specs.Along.{port_happened}
use Rattle.domain_laws.specs.Domain.{PortsStep}
use Rattle.domain_laws.specs.Forged.{NobodyForgesPort, forges}

-- ONE EVENT that forges nothing is honest
net_honest : (event : NetEvent) → forges (OnPort (OnLane event)) ≡ false → IsNetHonest event
net_honest (Injects e packet) none = absurd (cc none)
net_honest (Pokes e at bytes) none = absurd (cc none)
net_honest event none = tt

event_honest : (event : SwitchEvent) → forges event ≡ false → IsSwitchHonest event
event_honest (OnPort (OnLane event)) none = net_honest event none
event_honest (OnPort (Receives frame)) none = tt
event_honest (Switched frame out full) none = tt

-- and one that leads to a port that nobody forged forges nothing
event_forges : (s : PortState) (event : SwitchEvent) (t : PortState) → SwitchStep s event t → IsUnforged t → forges event ≡ false
event_forges s (OnPort (OnLane (Injects e packet))) t step clean = absurd (forged_now _ t.lane.wire (port_wire s (Injects e packet) t step.1) refl clean)
event_forges s (OnPort (OnLane (Pokes e at bytes))) t step clean = absurd (forged_now _ t.lane.wire (port_wire s (Pokes e at bytes) t step.1) refl clean)
event_forges s (OnPort (OnLane _)) t step clean = refl
event_forges s (OnPort (Receives frame)) t step clean = refl
event_forges s (Switched frame out full) t step clean = refl

-- A RUN that leads to a port that nobody forged, and one that leads from it
none_forged : (s : PortState) (events : List SwitchEvent) (t : PortState) → Run SwitchStep s events t → IsUnforged t → IsUnforged s × NobodyForgesPort events
none_forged s [] t run clean = (ap (λ (x : PortState). x.lane.wire.forged) run ∙ clean, tt)
none_forged s (event ∷ events) t run clean =
    let later = none_forged run.0 events t run.2 clean in
    (was_unforged s event run.0 run.1 later.0, (event_forges s event run.0 run.1 later.0, later.1))

stays_clean : (s : PortState) (events : List SwitchEvent) (t : PortState) → Run SwitchStep s events t → IsUnforged s → NobodyForgesPort events → IsUnforged t
stays_clean s [] t run clean none = subst IsUnforged run clean
stays_clean s (event ∷ events) t run clean none = stays_clean run.0 events t run.2 (port_stays s event run.0 (event_honest event none.0) run.1 clean) none.1

pub port_told : (nets : List NetShape) (entries : List SettleEntry) (behind : List PortState) (k : ℕ) (shape : NetShape) (s : PortState) → Run PortsStep (map fresh_port nets) entries behind
    → slice_get nets k ≡ Some shape → slice_get behind k ≡ Some s → (IsUnforged s) ↔ NobodyForgesPort (port_happened k entries)
port_told nets entries behind k shape s run there after =
    let own = port_moved (map fresh_port nets) entries behind k (fresh_port shape) s run (fresh_there nets k shape there) after in
    (λ clean. (none_forged (fresh_port shape) (port_happened k entries) s own clean).1, λ none. stays_clean (fresh_port shape) (port_happened k entries) s own refl none)
