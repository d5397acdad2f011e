use Rattle.std.proofs.Common.{◌≡◌, Some, slice_get, sym, ◌∙◌, ap, subst}
use Rattle.ldc_queue.specs.ChannelView.{channel_without_first}
use Rattle.ldc_queue.specs.declared.end.ChannelState.TheVariants.{Up}
use Rattle.ldc_queue.specs.declared.end.End.{End}
use Rattle.ldc_queue.specs.Wire.{state_of, waiting_for}
use Rattle.lane_models.specs.NetEndRule.{Takes}
use Rattle.lane_models.specs.NetEndState.{NetEndState}
use Rattle.vnet_port.proofs.Heard.{heard_resets, may_hear, takes_on}
use Rattle.vnet_port.proofs.LinkTakes.{bytes_took}
use Rattle.vnet_port.specs.Calls.{end_of}
use Rattle.vnet_port.specs.contracts.port_end.PortEnd.{the_view}
use Rattle.vnet_port.specs.declared.net_out.NetOut.TheVariants as out
use Rattle.vnet_port.specs.Standing.{Stands}
use Rattle.vnet_port.specs.Stepping.{StepsAlone, rule_of}
use Rattle.vnet_port.proofs.port_end.PortEnd.take.Goals as goal

pub hear-requires-clause-may : goal.hear-requires-clause-may
hear-requires-clause-may c =
    may_hear (the_view c.self.inside) c.take.new.self c.is_up-was_up.result c.in-Took.packet
    (subst Stands (sym c.self.view_is) c.requires.stands)
    (ap (λ (s : NetEndState). s.handshake.owed) c.self.view_is ∙ c.requires.free)
    c.is_up-was_up.ensures c.in-Took.ensures.1

pub returns-in-Ok-clause-step : goal.returns-in-Ok-clause-step
returns-in-Ok-clause-step c =
    let s : NetEndState = the_view c.self.inside in
    let end : c.end-end.result ≡ end_of s = c.end-end.ensures ∙ ap end_of (sym c.self.view_is) in
    subst (λ (s : NetEndState). StepsAlone s c.args.channel.now c.args.memory.now (out.Took c.in-Took.packet c.in-Ok.opens) c.hear.new.self c.take.new.channel c.hear.new.memory)
    c.self.view_is
    (takes_on s c.hear.new.self c.args.channel.now c.take.new.channel c.take.new.self c.is_up-was_up.result c.args.memory.now c.hear.new.memory c.in-Took.packet c.in-Ok.opens
    (subst Stands (sym c.self.view_is) c.requires.stands)
    (subst (λ (s : NetEndState). rule_of s c.args.channel.now ≡ Takes c.in-Took.packet) (sym c.self.view_is)
    (c.requires.rule c.in-Took.packet (subst (λ (e : End). slice_get (waiting_for e c.args.channel.now.wire) 0 ≡ Some c.in-Took.packet) c.end-end.ensures c.in-Took.ensures.0.0)))
    c.is_up-was_up.ensures c.in-Took.ensures.1 c.in-Ok.ensures.heard
    (c.in-Took.ensures.0.1 ∙ ap (λ (e : End). channel_without_first e c.args.channel.now) end))

pub returns-in-Err-clause-step : goal.returns-in-Err-clause-step
returns-in-Err-clause-step c =
    let s : NetEndState = the_view c.self.inside in
    let end : c.end-end.result ≡ end_of s = c.end-end.ensures ∙ ap end_of (sym c.self.view_is) in
    subst (λ (s : NetEndState). StepsAlone s c.args.channel.now c.args.memory.now c.fail.new.out c.fail.new.self c.fail.new.channel c.hear.new.memory)
    c.self.view_is
    (heard_resets s c.fail.new.self c.hear.new.self c.take.new.self c.args.channel.now c.take.new.channel c.fail.new.channel c.is_up-was_up.result
    c.args.memory.now c.hear.new.memory c.in-Took.packet c.in-Err.cause c.fail.new.out
    (subst Stands (sym c.self.view_is) c.requires.stands)
    (subst (λ (s : NetEndState). rule_of s c.args.channel.now ≡ Takes c.in-Took.packet) (sym c.self.view_is)
    (c.requires.rule c.in-Took.packet (subst (λ (e : End). slice_get (waiting_for e c.args.channel.now.wire) 0 ≡ Some c.in-Took.packet) c.end-end.ensures c.in-Took.ensures.0.0)))
    (subst (λ (s : NetEndState). state_of (end_of s) c.args.channel.now.wire ≡ Up) (sym c.self.view_is) c.requires.up)
    c.is_up-was_up.ensures c.in-Took.ensures.1 c.in-Err.ensures.heard c.in-Err.ensures.kept.0 c.in-Err.ensures.kept.1
    c.fail.ensures.answer c.fail.ensures.state
    (c.in-Took.ensures.0.1 ∙ ap (λ (e : End). channel_without_first e c.args.channel.now) end)
    c.fail.ensures.channel)

pub invariant_of-self : goal.invariant_of-self
invariant_of-self c =
    let stands : Stands (the_view c.self.inside) = subst Stands (sym c.self.view_is) c.requires.stands in
    record {
      role = (bytes_took c.self.inside.link c.take.new.self c.in-Took.packet stands.link.seen c.in-Took.ensures.1).role ∙ c.self.invariant.role;
      room = c.self.invariant.room;
      slots = c.self.invariant.slots;
    }
