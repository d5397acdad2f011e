use Rattle.std.proofs.lemmas.Result.{on_err_weaker, on_ok_weaker}
use Rattle.ldom_world.proofs.SettlingAdds.{count_at, count_below, ended_fits, names_want, on_err, out_adds}
use Rattle.recorded_lanes.specs.Steps.{moment}
use Rattle.ldom_world.specs.SettleParts.{marks_of, pass_moment}
use Rattle.ldom_world.proofs.world.World.settle.Goals as goal

pub returns-in_err-settle_pass-clause-so_far : goal.returns-in_err-settle_pass-clause-so_far
returns-in_err-settle_pass-clause-so_far g c =
    let few = count_below c.loop.counter c.most_rounds-end.result _ c.loop-test.true c.most_rounds-end.ensures.most in
    on_err c.from_residual.result (c.in_err-settle_pass.ensures.breaks c.args.self.now c.loop.counter
    c.args.journal.now.entries c.loop.invariant.gone few)

pub returns-then-branch-clause-fits : goal.returns-then-branch-clause-fits
returns-then-branch-clause-fits g c =
    let few = count_below c.loop.counter c.most_rounds-end.result _ c.loop-test.true c.most_rounds-end.ensures.most in
    ended_fits c.in_ok-settle_pass.field-0 (moment c.args.self.now c.args.journal.now.entries) (pass_moment (moment c.loop.self c.loop.journal.entries) (marks_of c.loop.had) (marks_of c.loop.quiet))
    (pass_moment (moment c.settle_pass.new.self c.settle_pass.new.journal.entries) _ _) c.loop.counter c.if-branch.true c.in_ok-settle_pass.ensures.turned c.loop.invariant.gone few

pub returns-clause-fits : goal.returns-clause-fits
returns-clause-fits g c =
    let most = count_at c.loop.counter c.most_rounds-end.result _ c.loop-test.false c.loop.auto.counter-end
    c.most_rounds-end.ensures.most in
    on_ok_weaker c.name_left.result
    (λ named. out_adds (moment c.args.self.now c.args.journal.now.entries) (moment c.loop.self c.loop.journal.entries) c.loop.counter
    c.name_left.new.journal.entries (marks_of c.loop.had) (marks_of c.loop.quiet) c.loop.invariant.gone most named)
    c.name_left.ensures.named

pub returns-clause-so_far : goal.returns-clause-so_far
returns-clause-so_far g c =
    let most = count_at c.loop.counter c.most_rounds-end.result _ c.loop-test.false c.loop.auto.counter-end
    c.most_rounds-end.ensures.most in
    on_err_weaker c.name_left.result
    (λ begun. names_want (moment c.args.self.now c.args.journal.now.entries) (moment c.loop.self c.loop.journal.entries) c.loop.counter
    c.name_left.new.journal.entries (marks_of c.loop.had) (marks_of c.loop.quiet) c.loop.invariant.gone most begun)
    c.name_left.ensures.begun
