use Rattle.std.proofs.Common.{ap, subst, sym}
use Rattle.cached_store.specs.CachedState.{CachedState}
use Rattle.kept_requests.specs.Bytes.{BytesState}
use Rattle.world_parts.specs.world_laws.Rounds.{Each}
use Rattle.world_parts.specs.Declared.{LiesWithin}
use Rattle.recorded_lanes.specs.CachedImage.{cached_image}
use Rattle.recorded_lanes.proofs.disks.Disks.over.Goals as goal

pub invariant_of-result : goal.invariant_of-result
invariant_of-result g c = (
  c.requires.few,
  subst (λ (s : CachedState _). Each (LiesWithin (g.D.Store.size s.inner)) c.args.lanes.items) (sym c.over.ensures) c.requires.image,
  ap (λ (b : BytesState). b.items) c.empty.ensures,
)

pub returns-clause-image : goal.returns-clause-image
returns-clause-image g c = ap (λ (s : CachedState _). cached_image g.D.Store s) c.over.ensures
