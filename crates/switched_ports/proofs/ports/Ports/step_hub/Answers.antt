use Rattle.std.proofs.Common.{ℕ, List, sym, subst}
use Rattle.lane_kinds.specs.Lanes.{EachOf}
use Rattle.ldc_queue.specs.declared.end.End.TheVariants.{B}
use Rattle.net_lane.specs.Stepping.{TellsLength}
use Rattle.lane_models.specs.PortState.{PortState}
use Rattle.switch_laws.specs.Reached.{IsReached}
use Rattle.switched_ports.proofs.HubEvents.{differs, few_ids, hub_entry, hub_last, hub_none, hub_one, hub_tied, known_there, none_more, reached_there}
use Rattle.switched_ports.proofs.OwnSteps.{entry_resets, entry_takes}
use Rattle.switched_ports.proofs.ports.Ports.step_hub.Goals as goal

pub step_hub-requires-clause-known : goal.step_hub-requires-clause-known
step_hub-requires-clause-known c =
    known_there c.self.inside.lanes.items c.self.inside.switch.ports c.args.self.now c.args.port
    c.index_mut-lane.result.now c.self.view_is c.self.invariant c.requires.port c.index_mut-lane.ensures.value

pub step_hub-requires-clause-reached : goal.step_hub-requires-clause-reached
step_hub-requires-clause-reached c =
    reached_there c.self.inside.lanes.items c.self.inside.switch.ports c.args.self.now c.args.port
    c.index_mut-lane.result.now c.self.view_is c.self.invariant c.requires.port c.index_mut-lane.ensures.value

pub step_hub-requires-clause-differ : goal.step_hub-requires-clause-differ
step_hub-requires-clause-differ c =
    differs c.self.inside.lanes.items c.self.inside.switch.ports c.args.self.now c.args.port c.index_mut-lane.result.now
    c.self.view_is c.self.invariant c.requires.port c.index_mut-lane.ensures.value

pub step_hub-requires-clause-few : goal.step_hub-requires-clause-few
step_hub-requires-clause-few c =
    few_ids c.self.inside.lanes.items c.self.inside.switch.ports c.args.self.now c.args.port c.index_mut-lane.result.now
    c.self.view_is c.self.invariant c.requires.port c.index_mut-lane.ensures.value c.requires.few

pub invariant_of-self : goal.invariant_of-self
invariant_of-self c =
    hub_tied c.self.inside.lanes.items c.self.inside.switch.ports c.args.self.now c.args.port
    c.index_mut-lane.result.now c.self.view_is c.self.invariant c.requires.port c.index_mut-lane.ensures.value
    c.step_hub.new.lane c.step_hub.new.switch.ports c.step_hub.new.out c.step_hub.result c.step_hub.ensures.switched
    c.step_hub.ensures.steps

pub returns-clause-entry : goal.returns-clause-entry
returns-clause-entry c =
    hub_entry c.self.inside.lanes.items c.self.inside.switch.ports c.args.self.now c.args.port
    c.index_mut-lane.result.now c.self.view_is c.self.invariant c.requires.port c.index_mut-lane.ensures.value
    c.step_hub.new.lane c.step_hub.new.switch.ports c.step_hub.new.out c.step_hub.result c.step_hub.ensures.switched
    c.step_hub.ensures.steps

pub returns-clause-count : goal.returns-clause-count
returns-clause-count c =
    subst (λ (last : List ℕ). TellsLength c.step_hub.new.out last)
    (sym (hub_last c.self.inside.lanes.items c.self.inside.switch.ports c.args.self.now c.args.port
    c.index_mut-lane.result.now c.self.view_is c.self.invariant c.requires.port c.index_mut-lane.ensures.value
    c.step_hub.new.lane c.step_hub.new.switch.ports c.step_hub.new.out c.step_hub.result c.step_hub.ensures.switched
    c.step_hub.ensures.steps))
    c.step_hub.ensures.count

pub returns-clause-ids : goal.returns-clause-ids
returns-clause-ids c =
    hub_one c.self.inside.lanes.items c.self.inside.switch.ports c.args.self.now c.args.port c.index_mut-lane.result.now
    c.self.view_is c.self.invariant c.requires.port c.index_mut-lane.ensures.value
    c.step_hub.new.lane c.step_hub.new.switch.ports c.step_hub.new.out c.step_hub.result c.step_hub.ensures.switched
    c.step_hub.ensures.steps

pub returns-clause-same_ids : goal.returns-clause-same_ids
returns-clause-same_ids c =
    none_more c.step_hub.result _ (hub_none c.self.inside.lanes.items c.self.inside.switch.ports c.args.self.now
    c.args.port c.index_mut-lane.result.now c.self.view_is c.self.invariant c.requires.port
    c.index_mut-lane.ensures.value
    c.step_hub.new.lane c.step_hub.new.switch.ports c.step_hub.new.out c.step_hub.result c.step_hub.ensures.switched
    c.step_hub.ensures.steps)

pub returns-clause-frame : goal.returns-clause-frame
returns-clause-frame c =
    entry_takes c.args.port c.args.self.now B c.step_hub.new.out _ c.step_hub.result _ (returns-clause-entry c)
    (subst (λ (l : List PortState). EachOf IsReached l) c.self.view_is c.self.invariant.reached)

pub returns-clause-own : goal.returns-clause-own
returns-clause-own c =
    entry_resets c.args.port c.args.self.now B c.step_hub.new.out _ c.step_hub.result _ (returns-clause-entry c)
