use Rattle.std.proofs.Common.{◌≡◌, ℕ, List, length, refl, sym, ap, subst, ◌∙◌}
use Rattle.net_lane.specs.Events.{ticked_event}
use Rattle.lane_models.specs.NetLaneStep.{NetLaneStep}
use Rattle.switched_ports.specs.States.{queue_at}
use Rattle.switched_ports.proofs.Aside.{ticked_aside}
use Rattle.switched_ports.proofs.Asides.{aside_entry, aside_none, aside_tied, queue_seen}
use Rattle.switched_ports.proofs.ports.Ports.tick.Goals as goal

pub invariant_of-self : goal.invariant_of-self
invariant_of-self c =
    aside_tied c.self.inside.lanes.items c.self.inside.switch.ports c.args.self.now c.args.port c.index_mut.result.now
    c.tick.new.self
    (ticked_event (length (queue_at c.args.port c.args.self.now)) c.tick.result) c.self.view_is c.self.invariant
    c.requires c.index_mut.ensures.value
    (ticked_aside (queue_at c.args.port c.args.self.now) (length (queue_at c.args.port c.args.self.now)) c.tick.result
    refl)
    (subst (λ (n : ℕ). NetLaneStep c.index_mut.result.now (ticked_event n c.tick.result) c.tick.new.self)
    (c.queued-queued.ensures.count ∙ ap (λ (q : List (List ℕ)). length q)
    (queue_seen c.self.inside.lanes.items c.self.inside.switch.ports c.args.self.now c.args.port c.self.view_is
    c.self.invariant)) c.tick.ensures.step)

pub returns-clause-entry : goal.returns-clause-entry
returns-clause-entry c =
    aside_entry c.self.inside.lanes.items c.self.inside.switch.ports c.args.self.now c.args.port c.index_mut.result.now
    c.tick.new.self
    (ticked_event (length (queue_at c.args.port c.args.self.now)) c.tick.result) c.self.view_is c.self.invariant
    c.requires c.index_mut.ensures.value
    (ticked_aside (queue_at c.args.port c.args.self.now) (length (queue_at c.args.port c.args.self.now)) c.tick.result
    refl)
    (subst (λ (n : ℕ). NetLaneStep c.index_mut.result.now (ticked_event n c.tick.result) c.tick.new.self)
    (c.queued-queued.ensures.count ∙ ap (λ (q : List (List ℕ)). length q)
    (queue_seen c.self.inside.lanes.items c.self.inside.switch.ports c.args.self.now c.args.port c.self.view_is
    c.self.invariant)) c.tick.ensures.step)

pub returns-clause-ids : goal.returns-clause-ids
returns-clause-ids c =
    aside_none c.self.inside.lanes.items c.self.inside.switch.ports c.args.self.now c.args.port c.index_mut.result.now
    c.tick.new.self
    (ticked_event (length (queue_at c.args.port c.args.self.now)) c.tick.result) c.self.view_is c.self.invariant
    c.requires c.index_mut.ensures.value
    (ticked_aside (queue_at c.args.port c.args.self.now) (length (queue_at c.args.port c.args.self.now)) c.tick.result
    refl)
    (subst (λ (n : ℕ). NetLaneStep c.index_mut.result.now (ticked_event n c.tick.result) c.tick.new.self)
    (c.queued-queued.ensures.count ∙ ap (λ (q : List (List ℕ)). length q)
    (queue_seen c.self.inside.lanes.items c.self.inside.switch.ports c.args.self.now c.args.port c.self.view_is
    c.self.invariant)) c.tick.ensures.step) c.tick.ensures.ids
