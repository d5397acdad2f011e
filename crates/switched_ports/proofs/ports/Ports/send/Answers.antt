use Rattle.std.proofs.Common.{◌≡◌, ◌≤◌, ◌+◌, ◌-◌, ◌^◌, ℕ, arith, sym, subst}
use Rattle.ldc_queue.specs.declared.end.End.TheVariants.{A}
use Rattle.net_lane.specs.Calls.{given}
use Rattle.net_lane.specs.Events.{next_behind}
use Rattle.lane_models.specs.NetEvent.{Gives}
use Rattle.switched_ports.proofs.Aside.{next_few}
use Rattle.switched_ports.proofs.Asides.{aside_entry, aside_one, aside_tied, few_given}
use Rattle.switched_ports.proofs.ports.Ports.send.Goals as goal

pub send-requires : goal.send-requires
send-requires c = record {
  few =
      few_given c.self.inside.lanes.items c.self.inside.switch.ports c.args.self.now c.args.port c.index_mut.result.now
      c.self.view_is c.self.invariant
      c.requires.port c.index_mut.ensures.value (2 ^ 64 - 1) c.requires.few;
}

pub invariant_of-self : goal.invariant_of-self
invariant_of-self c =
    aside_tied c.self.inside.lanes.items c.self.inside.switch.ports c.args.self.now c.args.port c.index_mut.result.now
    c.send.new.self
    (Gives A (given c.send.result c.args.frame.now)) c.self.view_is c.self.invariant c.requires.port
    c.index_mut.ensures.value tt c.send.ensures.step

pub returns-clause-entry : goal.returns-clause-entry
returns-clause-entry c =
    aside_entry c.self.inside.lanes.items c.self.inside.switch.ports c.args.self.now c.args.port c.index_mut.result.now
    c.send.new.self
    (Gives A (given c.send.result c.args.frame.now)) c.self.view_is c.self.invariant c.requires.port
    c.index_mut.ensures.value tt c.send.ensures.step

pub returns-clause-ids : goal.returns-clause-ids
returns-clause-ids c =
    let more : c.send.new.self.guest.next_id ≤ c.index_mut.result.now.guest.next_id + 1 =
    subst (λ (n : ℕ). n ≤ c.index_mut.result.now.guest.next_id + 1) (sym c.send.ensures.ids)
    (next_few c.send.result c.index_mut.result.now.guest.next_id) in
    aside_one c.self.inside.lanes.items c.self.inside.switch.ports c.args.self.now c.args.port c.index_mut.result.now
    c.send.new.self
    (Gives A (given c.send.result c.args.frame.now)) c.self.view_is c.self.invariant c.requires.port
    c.index_mut.ensures.value tt c.send.ensures.step
    more c.send.ensures.other_ids
