use Rattle.std.proofs.Common.{◌≡◌, true, ap, sym, subst, ◌∙◌}
use Rattle.lane_models.specs.ServerPutting.{server_holds}
use Rattle.lane_models.specs.ServerRule.{ServerRule}
use Rattle.lane_models.specs.ServerState.{ServerState}
use Rattle.vdisk_server.specs.Answering.{sees}
use Rattle.ldc_link.specs.Putting.{owes}
use Rattle.vdisk_server.proofs.PutSteps.{puts_step}
use Rattle.vdisk_server.proofs.RuleOrder.{rule_puts}
use Rattle.vdisk_server.proofs.StoreSteps.{alone_serves}
use Rattle.vdisk_server.proofs.end.ServerEnd.step.Goals as goal

pub returns-then-not-is_up-clause-step : goal.returns-then-not-is_up-clause-step
returns-then-not-is_up-clause-step g c =
    alone_serves c.args.self.now c.args.channel.now c.args.table.now c.args.memory.now (g.D.Store.content c.args.store.now) c.join.new.out
    c.join.new.self c.join.ensures.step

pub returns-then-owes-clause-step : goal.returns-then-owes-clause-step
returns-then-owes-clause-step g c =
    let before : ServerState = c.args.self.now in
    alone_serves before c.args.channel.now c.args.table.now c.args.memory.now (g.D.Store.content c.args.store.now) c.put.new.out c.put.new.self
    (puts_step before before c.args.channel.now c.put.new.out c.put.new.self
    (ap (λ (r : ServerRule). server_holds r before)
    (rule_puts before (sees c.args.channel.now) (sym c.is_up.ensures ∙ c.if-not-is_up.false)
    (subst (λ (s : ServerState). owes s.link ≡ true) c.self.view_is (sym c.owes.ensures ∙ c.if-owes.true))))
    c.put.ensures.put)

pub returns-then-owes_message-clause-step : goal.returns-then-owes_message-clause-step
returns-then-owes_message-clause-step g c =
    alone_serves c.args.self.now c.args.channel.now c.args.table.now c.args.memory.now (g.D.Store.content c.args.store.now) c.say_owed.new.out
    c.say_owed.new.self c.say_owed.ensures.step

pub returns-clause-step : goal.returns-clause-step
returns-clause-step g c =
    alone_serves c.args.self.now c.args.channel.now c.args.table.now c.args.memory.now (g.D.Store.content c.args.store.now) c.take.new.out
    c.take.new.self c.take.ensures.step
