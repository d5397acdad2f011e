use Rattle.std.proofs.Common.{◌≡◌, None, sym, subst, ◌∙◌}
use Rattle.lane_models.specs.ServerRule.{server_rule, takes_first}
use Rattle.lane_models.specs.ServerState.{ServerState}
use Rattle.vdisk_server.specs.declared.answers.ServerOut.TheVariants as out
use Rattle.vdisk_server.specs.Answering.{StepsAlone, sees}
use Rattle.vdisk_server.specs.Standing.{Stands}
use Rattle.vdisk_server.specs.contracts.end.ServerEnd.{the_view}
use Rattle.vdisk_server.proofs.HearSteps.{heard_resets, link_joined, takes_on}
use Rattle.vdisk_server.proofs.LinkSteps.{link_took}
use Rattle.vdisk_server.proofs.StandSteps.{can_hear}
use Rattle.vdisk_server.proofs.end.ServerEnd.take.Goals as goal

pub hear-requires-clause-hears : goal.hear-requires-clause-hears
hear-requires-clause-hears c =
    can_hear (the_view c.self.inside) c.take.new.self c.in-Took.packet c.is_up-was_up.result (subst Stands (sym c.self.view_is) c.requires.stands)
    (subst (λ (s : ServerState). s.handshake.owed ≡ None) (sym c.self.view_is) c.requires.nothing_owed)
    c.is_up-was_up.ensures c.in-Took.ensures.1

pub returns-in-Ok-clause-step : goal.returns-in-Ok-clause-step
returns-in-Ok-clause-step c =
    subst (λ (s : ServerState). StepsAlone s c.args.channel.now (out.Took c.in-Took.packet c.in-Ok.opens) c.hear.new.self) c.self.view_is
    (takes_on (the_view c.self.inside) c.args.channel.now c.take.new.self c.is_up-was_up.result c.in-Took.packet c.in-Ok.opens c.hear.new.self
    (subst (λ (s : ServerState). server_rule s (sees c.args.channel.now) ≡ takes_first (sees c.args.channel.now).first) (sym c.self.view_is) c.requires.rule)
    c.in-Took.ensures.0.0 c.is_up-was_up.ensures c.in-Took.ensures.1 c.in-Ok.ensures.heard)

pub returns-in-Err-clause-step : goal.returns-in-Err-clause-step
returns-in-Err-clause-step c =
    subst (λ (s : ServerState). StepsAlone s c.args.channel.now c.reset_for.new.out c.reset_for.new.self) c.self.view_is
    (heard_resets (the_view c.self.inside) c.args.channel.now c.take.new.self c.is_up-was_up.result c.in-Took.packet c.in-Err.cause c.reset_for.new.out c.reset_for.new.self
    (subst (λ (s : ServerState). server_rule s (sees c.args.channel.now) ≡ takes_first (sees c.args.channel.now).first) (sym c.self.view_is) c.requires.rule)
    c.in-Took.ensures.0.0 c.is_up-was_up.ensures c.in-Took.ensures.1 c.in-Err.ensures.heard c.reset_for.ensures.answer
    (c.reset_for.ensures.state ∙ c.in-Err.ensures.kept
    ∙ link_joined (the_view c.self.inside) c.take.new.self (link_took (the_view c.self.inside).link c.take.new.self c.in-Took.packet c.in-Took.ensures.1).role))
