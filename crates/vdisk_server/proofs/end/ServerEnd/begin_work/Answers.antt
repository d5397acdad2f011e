use Rattle.std.proofs.Common.{◌≡◌, Some, ap, subst, ◌∙◌}
use Rattle.lane_models.specs.ServerState.{ServerState, Work}
use Rattle.vdisk_server.specs.Rules.{one_fetched, work_begun}
use Rattle.vdisk_server.specs.contracts.end.ServerEnd.{the_view}
use Rattle.vdisk_server.proofs.end.ServerEnd.begin_work.Goals as goal

pub returns : goal.returns
returns c =
    subst (λ (s : ServerState). c.count_fetched.new.self ≡ work_begun s c.args.bytes.now) c.self.view_is
    (c.count_fetched.ensures
    ∙ ap (λ (work : Work). record (the_view c.self.inside) { session = one_fetched (the_view c.self.inside).session; work = Some work })
    (c.begin.ensures c.self.inside.unit))
