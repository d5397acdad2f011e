use Rattle.std.proofs.Common.{ap, ◌∙◌}
use Rattle.vio_io.specs.Causes.{count_after, next_count}
use Rattle.cached_store.specs.CachedState.{CachedState, calls_of}
use Rattle.vio_io.proofs.Counts.{one_before}
use Rattle.cached_store.proofs.cached.CachedStore.flush.Goals as goal

pub returns-clause-calls : goal.returns-clause-calls
returns-clause-calls g c =
    ap (count_after c.self.inside.spared) c.flush.ensures.calls
    ∙ one_before c.self.inside.spared (g.D.Store.calls c.self.inside.inner)
    ∙ ap (λ (s : CachedState _). next_count (calls_of g.D.Store.calls s)) c.self.view_is
