use Rattle.std.proofs.Common.{ℕ, List, ◌++◌, length, map, take, drop, IsBitSet, subst, sym, refl}
use Rattle.vnet_switch.proofs.Reading.{given_back, offers_of, set_for}
use Rattle.vnet_switch.proofs.Showing.{accept_shown, full_set_shown, out_shown}
use Rattle.vnet_switch.proofs.Sound.{accept_sound, room_for_one}
use Rattle.vnet_switch.specs.Forward.{GetsFrame, PortIs}
use Rattle.vnet_switch.specs.Named.{IsSound}
use Rattle.vnet_switch.specs.PortSet.{IsSetOf}
use Rattle.vnet_switch.specs.PortView.{PortView, SwitchView}
use Rattle.vnet_switch.specs.Queues.{with_last, ChangesAt, QueueHasRoom, IsFull}
use Rattle.vnet_switch.specs.Shown.{port_shown}
use Rattle.vnet_switch.proofs.switch.Switch.accept.Goals as goal

pub keep-requires-clause-room : goal.keep-requires-clause-room
keep-requires-clause-room c =
    room_for_one c.self.inside.ports.items c.offer-offered.new.ports c.self.inside.frames c.ports_for-set.result c.next_key-key.result c.offer-offered.result c.self.invariant
    (offers_of c.self.inside.ports.items _ c.offer-offered.new.ports c.ports_for-set.result c.next_key-key.result c.offer-offered.result c.deref_mut.ensures.value c.offer-offered.ensures)

pub invariant_of-self : goal.invariant_of-self
invariant_of-self c =
    subst (λ (ports : List (PortView ℕ)). IsSound ports c.keep.new.self)
    (sym (given_back c.self.inside.ports.items _ c.offer-offered.new.ports c.self.inside.ports.len c.ports_for-set.result c.next_key-key.result c.offer-offered.result
    c.deref_mut.ensures.value c.deref_mut.ensures.len c.offer-offered.ensures))
    (accept_sound c.self.inside.ports.items c.offer-offered.new.ports c.self.inside.frames c.keep.new.self
    c.ports_for-set.result c.next_key-key.result c.offer-offered.result c.args.frame.now
    c.offer-offered.result.names
    refl c.next_key-key.ensures.key c.next_key-key.ensures.free c.self.invariant
    (offers_of c.self.inside.ports.items _ c.offer-offered.new.ports c.ports_for-set.result c.next_key-key.result c.offer-offered.result c.deref_mut.ensures.value c.offer-offered.ensures)
    c.keep.ensures c.requires.long c.requires.short)

pub returns-clause-out : goal.returns-clause-out
returns-clause-out c =
    subst (λ (s : SwitchView). IsSetOf c.offer-offered.result.switched.out
    (λ k. GetsFrame s.ports (take 6 c.args.frame.now) c.args.from k × PortIs s.ports k QueueHasRoom)) c.self.view_is
    (out_shown c.self.inside.frames.slots c.self.inside.ports.items c.offer-offered.new.ports c.ports_for-set.result c.next_key-key.result c.offer-offered.result (take 6 c.args.frame.now) c.args.from
    (set_for c.self.inside.ports.items c.deref.result.now (take 6 c.args.frame.now) _ c.args.from c.ports_for-set.result c.deref.ensures.value c.destination_of.ensures c.ports_for-set.ensures)
    (offers_of c.self.inside.ports.items _ c.offer-offered.new.ports c.ports_for-set.result c.next_key-key.result c.offer-offered.result c.deref_mut.ensures.value c.offer-offered.ensures))

pub returns-clause-full : goal.returns-clause-full
returns-clause-full c =
    subst (λ (s : SwitchView). IsSetOf c.offer-offered.result.switched.full
    (λ k. GetsFrame s.ports (take 6 c.args.frame.now) c.args.from k × PortIs s.ports k IsFull)) c.self.view_is
    (full_set_shown c.self.inside.frames.slots c.self.inside.ports.items c.offer-offered.new.ports c.ports_for-set.result c.next_key-key.result c.offer-offered.result (take 6 c.args.frame.now) c.args.from
    (set_for c.self.inside.ports.items c.deref.result.now (take 6 c.args.frame.now) _ c.args.from c.ports_for-set.result c.deref.ensures.value c.destination_of.ensures c.ports_for-set.ensures)
    (offers_of c.self.inside.ports.items _ c.offer-offered.new.ports c.ports_for-set.result c.next_key-key.result c.offer-offered.result c.deref_mut.ensures.value c.offer-offered.ensures))

pub returns-clause-queues : goal.returns-clause-queues
returns-clause-queues c =
    subst (λ (s : SwitchView). ChangesAt (IsBitSet c.offer-offered.result.switched.out) (with_last c.args.frame.now)
    s.ports
    (map (port_shown c.keep.new.self.slots) (take c.self.inside.ports.len
    (c.offer-offered.new.ports ++ drop (length c.offer-offered.new.ports) c.self.inside.ports.items))))
    c.self.view_is
    (subst (λ (ports : List (PortView ℕ)). ChangesAt (IsBitSet c.offer-offered.result.switched.out)
    (with_last c.args.frame.now)
    (map (port_shown c.self.inside.frames.slots) c.self.inside.ports.items)
    (map (port_shown c.keep.new.self.slots) ports))
    (sym (given_back c.self.inside.ports.items _ c.offer-offered.new.ports c.self.inside.ports.len c.ports_for-set.result c.next_key-key.result c.offer-offered.result
    c.deref_mut.ensures.value c.deref_mut.ensures.len c.offer-offered.ensures))
    (accept_shown c.self.inside.ports.items c.offer-offered.new.ports c.self.inside.frames c.keep.new.self
    c.ports_for-set.result c.next_key-key.result c.offer-offered.result c.args.frame.now
    c.next_key-key.ensures.key c.next_key-key.ensures.free c.self.invariant
    (offers_of c.self.inside.ports.items _ c.offer-offered.new.ports c.ports_for-set.result c.next_key-key.result c.offer-offered.result c.deref_mut.ensures.value c.offer-offered.ensures)
    c.keep.ensures))
