use Rattle.std.proofs.Common.{◌≡◌, List, map, ℕ, ap, ◌∙◌}
use Rattle.vnet_switch.specs.PortView.{SwitchView}
use Rattle.vnet_switch.specs.Queues.{fresh_port}
use Rattle.switched_ports.proofs.Fresh.{fresh_states, fresh_tied}
use Rattle.switched_ports.proofs.ports.Ports.new.Goals as goal

pub invariant_of-result : goal.invariant_of-result
invariant_of-result c =
    let known : c.in_ok-switch.switch.ports ≡ map fresh_port c.in_ok-rooms.rooms.items =
    ap (λ (s : SwitchView). s.ports) c.in_ok-switch.ensures ∙ ap (λ (l : List ℕ). map fresh_port l)
    c.deref.ensures.value in
    fresh_tied c.args.shapes.now c.in_ok-lanes.lanes.items c.in_ok-rooms.rooms.items c.in_ok-switch.switch.ports
    c.in_ok-lanes.ensures c.in_ok-rooms.ensures known c.requires.few c.requires.shapes c.requires.differ

pub returns : goal.returns
returns c =
    let known : c.in_ok-switch.switch.ports ≡ map fresh_port c.in_ok-rooms.rooms.items =
    ap (λ (s : SwitchView). s.ports) c.in_ok-switch.ensures ∙ ap (λ (l : List ℕ). map fresh_port l)
    c.deref.ensures.value in
    fresh_states c.args.shapes.now c.in_ok-lanes.lanes.items c.in_ok-rooms.rooms.items c.in_ok-switch.switch.ports
    c.in_ok-lanes.ensures c.in_ok-rooms.ensures known
