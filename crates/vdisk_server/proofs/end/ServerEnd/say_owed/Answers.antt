use Rattle.std.proofs.Common.{◌≡◌, Option, Some, ap, sym, ◌∙◌, subst}
use Rattle.cookie_copy.specs.Faults.{is_up as is_configured}
use Rattle.ldc_link.specs.LinkState.{offered}
use Rattle.vio_tag.specs.declared.message.Message.{Message}
use Rattle.vio_tag.specs.Spelling.{canonical}
use Rattle.lane_models.specs.ServerPutting.{server_holds}
use Rattle.lane_models.specs.ServerRule.{ServerRule}
use Rattle.lane_models.specs.ServerState.{ServerState}
use Rattle.vdisk_server.specs.Answering.{sees}
use Rattle.vdisk_server.specs.Rules.{first_owed, owed_message, session_owes}
use Rattle.vdisk_server.proofs.PutSteps.{puts_step}
use Rattle.vdisk_server.proofs.RuleOrder.{rule_says}
use Rattle.vdisk_server.proofs.end.ServerEnd.say_owed.Goals as goal

pub returns-in-Some-clause-step : goal.returns-in-Some-clause-step
returns-in-Some-clause-step c =
    let before : ServerState = c.args.self.now in
    let is : before.handshake.owed ≡ Some c.in-Some.message =
    subst (λ (s : ServerState). s.handshake.owed ≡ Some c.in-Some.message) c.self.view_is (sym c.next.ensures ∙ c.in-Some.is) in
    let owed : owed_message before ≡ Some c.in-Some.message = ap (λ (o : Option Message). first_owed o (session_owes before before.session)) is in
    puts_step before (record before { link = offered (canonical c.in-Some.message) before.link }) c.args.channel.now c.say.new.out c.say.new.self
    (ap (λ (r : ServerRule). server_holds r before)
    (rule_says before (sees c.args.channel.now) c.in-Some.message (ap is_configured c.requires.up) c.requires.free owed))
    c.say.ensures.put
