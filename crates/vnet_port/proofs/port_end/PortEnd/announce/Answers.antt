use Rattle.std.proofs.Common.{◌≡◌, ◌+◌, true, refl, sym, subst, None, Option, ap, Some, ◌∙◌}
use Rattle.cookie_copy.specs.Reach.{Reach}
use Rattle.lane_models.specs.NetEndRule.{Announces}
use Rattle.lane_models.specs.NetEndState.{NetEndState, NetSession}
use Rattle.lane_models.specs.NetEndPutting.{announcement}
use Rattle.std.specs.Prelude.{is_none}
use Rattle.vio_tag.specs.declared.message.Message.{Message}
use Rattle.vnet_port.specs.Putting.{put_of}
use Rattle.vnet_port.proofs.SaidSteps.{own_steps}
use Rattle.vnet_port.specs.contracts.port_end.PortEnd.{the_view}
use Rattle.vnet_port.specs.Stepping.{StepsAlone, rule_of}
use Rattle.vnet_port.proofs.port_end.PortEnd.announce.Goals as goal

pub say-requires-clause-whose : goal.say-requires-clause-whose
say-requires-clause-whose c =
    ap (λ (o : Option Message). put_of true (is_none o))
    (subst (λ (s : NetEndState). None ≡ s.handshake.owed) (sym c.self.view_is) (sym c.requires.free))

pub returns-clause-step : goal.returns-clause-step
returns-clause-step c =
    let s : NetEndState = the_view c.self.inside in
    let p : NetSession = c.in-Some-session.session in
    let opened : c.args.self.now.session ≡ Some p = sym (ap (λ (s : NetEndState). s.session) c.self.view_is) ∙ c.in-Some-session.is in
    let both : Some c.in-Some.session ≡ Some p = sym c.in-Some.is ∙ c.in-Some-session.is in
    let one : c.in-Some.session ≡ p = cc both in
    subst (λ (s : NetEndState). StepsAlone s c.args.channel.now c.args.memory.now c.say.new.out c.say.new.self c.say.new.channel c.say.new.memory) c.self.view_is
    (own_steps s c.say.new.self (record p { infos = p.infos + 1; asking = true }) c.note_announced.new.self (announcement s p) c.announcement-message.result (Announces p) c.args.channel.now c.say.new.channel c.args.memory.now c.say.new.memory c.say.new.out
    (subst (λ (s : NetEndState). rule_of s c.args.channel.now ≡ Announces p) (sym c.self.view_is) (c.requires.rule p opened))
    (λ (reach : Reach). refl)
    (subst (λ (s : NetEndState). c.announcement-message.result ≡ announcement s c.in-Some.session) (sym c.self.view_is) c.announcement-message.ensures ∙ ap (announcement s) one)
    c.note_announced.ensures c.say.ensures.put)
