-- An event of a port that injects no packet and writes into no memory leaves it as forged as it was.
use Rattle.std.proofs.Common.{◌≡◌, ap, ◌∙◌}
use Rattle.std.specs.Prelude.{⊤}
use Rattle.lane_models.specs.WireLog.{WireLog}
use Rattle.port_laws.proofs.PortWire.{port_wire, step_unforged}
use Rattle.lane_models.specs.NetEvent.{Asked, CalmTick, Declines, Gives, Injects, Joins, Loses, NetEvent, Pokes, Steps, Ticked}
use Rattle.lane_models.specs.PortState.{OnLane, PortEvent, PortState, PortStep, Receives}
use Rattle.switch_laws.proofs.Steps.{on_port}
use Rattle.switch_laws.specs.Events.{SwitchEvent, SwitchStep, at_port}
use Rattle.switch_laws.specs.Reached.{IsUnforged}

-- WHO FORGES injects a packet or writes into a memory
abbrev pub IsNetHonest : NetEvent → Type 0
IsNetHonest (Injects e packet) = ⊥
IsNetHonest (Pokes e at bytes) = ⊥
IsNetHonest _ = ⊤

abbrev pub IsPortHonest : PortEvent → Type 0
IsPortHonest (OnLane event) = IsNetHonest event
IsPortHonest (Receives frame) = ⊤

abbrev pub IsSwitchHonest : SwitchEvent → Type 0
IsSwitchHonest event = IsPortHonest (at_port event)

port_forged : (s : PortState) (event : NetEvent) (t : PortState) → IsNetHonest event → PortStep s (OnLane event) t → t.lane.wire.forged ≡ s.lane.wire.forged
port_forged s (Steps e answer) t honest step = step_unforged s e answer t step
port_forged s (Asked e lost) t honest step = ap (λ (w : WireLog). w.forged) (port_wire s (Asked e lost) t step)
port_forged s (Ticked queued lost) t honest step = ap (λ (w : WireLog). w.forged) (port_wire s (Ticked queued lost) t step)
port_forged s (CalmTick queued) t honest step = ap (λ (w : WireLog). w.forged) (port_wire s (CalmTick queued) t step)
port_forged s (Gives e given) t honest step = ap (λ (w : WireLog). w.forged) (port_wire s (Gives e given) t step)
port_forged s (Joins joining) t honest step = ap (λ (w : WireLog). w.forged) (port_wire s (Joins joining) t step)
port_forged s (Loses e packet) t honest step = ap (λ (w : WireLog). w.forged) (port_wire s (Loses e packet) t step)
port_forged s (Injects e packet) t honest step = absurd honest
port_forged s (Pokes e at bytes) t honest step = absurd honest
port_forged s (Declines d) t honest step = ap (λ (w : WireLog). w.forged) (port_wire s (Declines d) t step)

stays_by_port : (s : PortState) (event : PortEvent) (t : PortState) → IsPortHonest event → PortStep s event t → IsUnforged s → IsUnforged t
stays_by_port s (OnLane event) t honest step clean = port_forged s event t honest step ∙ clean
stays_by_port s (Receives frame) t honest step clean = ap (λ (x : PortState). x.lane.wire.forged) step.2 ∙ clean

pub port_stays : (s : PortState) (event : SwitchEvent) (t : PortState) → IsSwitchHonest event → SwitchStep s event t → IsUnforged s → IsUnforged t
port_stays s event t honest step clean = stays_by_port s (at_port event) t honest (on_port s event t step) clean
