use Rattle.std.proofs.Common.{◌≡◌, ℕ, List, Some, map, slice_set, subst, sym}
use Rattle.vnet_switch.proofs.Reading.{port_read}
use Rattle.vnet_switch.proofs.Showing.{address_shown, set_shown}
use Rattle.vnet_switch.proofs.Sound.{set_sound}
use Rattle.vnet_switch.specs.Forward.{HasAddress}
use Rattle.vnet_switch.specs.Named.{IsSound}
use Rattle.vnet_switch.specs.PortView.{PortView, SwitchView}
use Rattle.vnet_switch.specs.Queues.{with_session, ChangesAt}
use Rattle.vnet_switch.specs.Shown.{port_shown}
use Rattle.vnet_switch.proofs.switch.Switch.set_port.Goals as goal

pub invariant_of-self : goal.invariant_of-self
invariant_of-self c =
    let free : (own : List ℕ) → c.args.address ≡ Some own → (j : ℕ) → HasAddress c.self.inside.ports.items own j
    → j ≡ c.args.port =
    λ own is j has. c.requires.differ own is j
    (subst (λ (s : SwitchView). HasAddress s.ports own j) c.self.view_is
    ((address_shown c.self.inside.frames.slots c.self.inside.ports.items own j).0 has)) in
    subst (λ (port : PortView ℕ). IsSound (slice_set c.self.inside.ports.items c.args.port port)
    c.self.inside.frames) (sym c.set_session.ensures)
    (set_sound c.self.inside.ports.items c.self.inside.frames c.args.port c.index_mut.result.now c.args.address
    c.args.groups.now
    (port_read c.self.inside.ports.items c.self.inside.frames c.args.self.now c.args.port c.index_mut.result.now
    (record { shown = c.self.view_is; within = c.requires.port; read = c.index_mut.ensures.value }))
    free c.self.invariant)

pub returns-clause-session : goal.returns-clause-session
returns-clause-session c =
    subst (λ (s : SwitchView). ChangesAt (λ k. k ≡ c.args.port) (with_session c.args.address c.args.groups.now) s.ports
    (map (port_shown c.self.inside.frames.slots) (slice_set c.self.inside.ports.items c.args.port
    c.set_session.new.self))) c.self.view_is
    (subst (λ (port : PortView ℕ). ChangesAt (λ k. k ≡ c.args.port) (with_session c.args.address c.args.groups.now)
    (map (port_shown c.self.inside.frames.slots) c.self.inside.ports.items)
    (map (port_shown c.self.inside.frames.slots) (slice_set c.self.inside.ports.items c.args.port port)))
    (sym c.set_session.ensures)
    (set_shown c.self.inside.frames.slots c.self.inside.ports.items c.args.port c.index_mut.result.now c.args.address
    c.args.groups.now
    (port_read c.self.inside.ports.items c.self.inside.frames c.args.self.now c.args.port c.index_mut.result.now
    (record { shown = c.self.view_is; within = c.requires.port; read = c.index_mut.ensures.value }))))
