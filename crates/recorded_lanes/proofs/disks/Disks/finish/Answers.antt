use Rattle.std.proofs.Common.{◌<◌, ◌≤◌, subst, sym}
use Rattle.cached_store.proofs.Counting.{asked_at_most}
use Rattle.vio_io.specs.Causes.{count_after, last_count}
use Rattle.world_parts.specs.world_laws.World.{WorldState}
use Rattle.recorded_lanes.proofs.disks.Disks.finish.Goals as goal

pub returns-clause-calls : goal.returns-clause-calls
returns-clause-calls g c =
    let image = c.self.inside.image in
    subst (λ (w : WorldState). w.image.calls < last_count → g.D.Store.calls c.into_inner.result ≤ w.image.calls) c.self.view_is
    (subst (λ d. count_after image.spared (g.D.Store.calls image.inner) < last_count → g.D.Store.calls d ≤ count_after image.spared (g.D.Store.calls image.inner))
    (sym c.into_inner.ensures) (asked_at_most image.spared (g.D.Store.calls image.inner)))
