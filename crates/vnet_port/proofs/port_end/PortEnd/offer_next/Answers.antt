use Rattle.std.proofs.Common.{sym, ◌∙◌, refl, List, ℕ, Option}
use Rattle.map_table.specs.declared.table.Entry.{Entry}
use Rattle.lane_models.specs.NetEndState.{NetSession}
use Rattle.vnet_port.proofs.RuleChosen.{announces_in, idles_in, publishes_in, tells_in}
use Rattle.vnet_port.specs.Calls.{role_of}
use Rattle.vnet_port.specs.Stepping.{rule_of}
use Rattle.vnet_port.proofs.port_end.PortEnd.offer_next.Goals as goal

pub tell-requires-clause-rule : goal.tell-requires-clause-rule
tell-requires-clause-rule c = λ (p : NetSession) is.
    tells_in (role_of c.args.self.now) c.args.self.now (rule_of c.args.self.now c.args.channel.now) c.args.self.now.session p c.requires.rule
    (sym c.is_to_tell.ensures ∙ c.if-is_to_tell.true) is

pub returns-then-has_unpublished-clause-step : goal.returns-then-has_unpublished-clause-step
returns-then-has_unpublished-clause-step c =
    c.publish.ensures.step c.args.channel.now
    (λ (p : NetSession) is.
    publishes_in (role_of c.args.self.now) c.args.self.now (rule_of c.args.self.now c.args.channel.now) c.args.self.now.session p c.requires.rule
    (sym c.is_to_tell.ensures ∙ c.if-is_to_tell.false) is)

pub announce-requires-clause-rule : goal.announce-requires-clause-rule
announce-requires-clause-rule c = λ (p : NetSession) is.
    announces_in (role_of c.args.self.now) c.args.self.now (rule_of c.args.self.now c.args.channel.now) c.args.self.now.session p c.requires.rule
    (sym c.is_to_tell.ensures ∙ c.if-is_to_tell.false) (sym c.has_unpublished.ensures ∙ c.if-has_unpublished.false) (sym c.is_to_announce.ensures ∙ c.if-is_to_announce.true) is

pub returns-clause-step : goal.returns-clause-step
returns-clause-step c = λ (table : List (Option Entry)) (peer : List ℕ). record {
  step = (
    idles_in (role_of c.args.self.now) c.args.self.now (rule_of c.args.self.now c.args.channel.now) c.args.self.now.session c.requires.rule
        (sym c.is_to_tell.ensures ∙ c.if-is_to_tell.false) (sym c.has_unpublished.ensures ∙ c.if-has_unpublished.false) (sym c.is_to_announce.ensures ∙ c.if-is_to_announce.false),
    refl,
  );
  channel = refl;
  count = tt;
}
