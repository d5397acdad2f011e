use Rattle.std.proofs.Common.{ℕ, List, None, slice_set, sym, subst}
use Rattle.lane_kinds.specs.Lanes.{EachOf, EntryOf}
use Rattle.ldc_queue.specs.declared.end.End.TheVariants.{A}
use Rattle.net_lane.specs.Stepping.{TellsLength, net_answer}
use Rattle.lane_models.specs.NetEvent.{Steps}
use Rattle.lane_models.specs.PortState.{OnLane, PortState}
use Rattle.switch_laws.specs.Events.{OnPort}
use Rattle.switch_laws.specs.Ports.{ports}
use Rattle.switch_laws.specs.Reached.{IsReached}
use Rattle.switched_ports.specs.States.{states}
use Rattle.switched_ports.proofs.Asides.{aside_entry, aside_last, aside_none, aside_tied}
use Rattle.switched_ports.proofs.OwnSteps.{entry_resets, entry_takes}
use Rattle.switched_ports.proofs.ports.Ports.step_guest.Goals as goal

pub invariant_of-self : goal.invariant_of-self
invariant_of-self c =
    aside_tied c.self.inside.lanes.items c.self.inside.switch.ports c.args.self.now c.args.port c.index_mut.result.now
    c.step_into.new.self
    (Steps A (net_answer c.step_into.new.out c.step_into.new.self.guest.last)) c.self.view_is c.self.invariant
    c.requires.port c.index_mut.ensures.value tt
    c.step_into.ensures.step

pub returns-clause-entry : goal.returns-clause-entry
returns-clause-entry c =
    subst (λ (last : List ℕ). EntryOf ports c.args.port c.args.self.now
    (OnPort (OnLane (Steps A (net_answer c.step_into.new.out last))))
    (states (slice_set c.self.inside.lanes.items c.args.port c.step_into.new.self) c.self.inside.switch.ports))
    (sym (aside_last c.self.inside.lanes.items c.self.inside.switch.ports c.args.self.now c.args.port
    c.index_mut.result.now c.step_into.new.self
    (Steps A (net_answer c.step_into.new.out c.step_into.new.self.guest.last)) c.self.view_is c.self.invariant
    c.requires.port c.index_mut.ensures.value tt
    c.step_into.ensures.step A))
    (aside_entry c.self.inside.lanes.items c.self.inside.switch.ports c.args.self.now c.args.port c.index_mut.result.now
    c.step_into.new.self
    (Steps A (net_answer c.step_into.new.out c.step_into.new.self.guest.last)) c.self.view_is c.self.invariant
    c.requires.port c.index_mut.ensures.value tt
    c.step_into.ensures.step)

pub returns-clause-count : goal.returns-clause-count
returns-clause-count c =
    subst (λ (last : List ℕ). TellsLength c.step_into.new.out last)
    (sym (aside_last c.self.inside.lanes.items c.self.inside.switch.ports c.args.self.now c.args.port
    c.index_mut.result.now c.step_into.new.self
    (Steps A (net_answer c.step_into.new.out c.step_into.new.self.guest.last)) c.self.view_is c.self.invariant
    c.requires.port c.index_mut.ensures.value tt
    c.step_into.ensures.step A))
    c.step_into.ensures.count

pub returns-clause-ids : goal.returns-clause-ids
returns-clause-ids c =
    aside_none c.self.inside.lanes.items c.self.inside.switch.ports c.args.self.now c.args.port c.index_mut.result.now
    c.step_into.new.self
    (Steps A (net_answer c.step_into.new.out c.step_into.new.self.guest.last)) c.self.view_is c.self.invariant
    c.requires.port c.index_mut.ensures.value tt
    c.step_into.ensures.step c.step_into.ensures.ids

pub returns-clause-frame : goal.returns-clause-frame
returns-clause-frame c =
    entry_takes c.args.port c.args.self.now A c.step_into.new.out _ None _ (returns-clause-entry c)
    (subst (λ (l : List PortState). EachOf IsReached l) c.self.view_is c.self.invariant.reached)

pub returns-clause-own : goal.returns-clause-own
returns-clause-own c =
    entry_resets c.args.port c.args.self.now A c.step_into.new.out _ None _ (returns-clause-entry c)
