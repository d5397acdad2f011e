use Rattle.std.proofs.Common.{◌≡◌, length}
use Rattle.vio_io.specs.Causes.{count_after}
use Rattle.flat_store.proofs.file_store.read_whole.Given as goal

abbrev pub invariant-loop-tried : goal.invariant-loop-tried
invariant-loop-tried g l =
    (length l.buf ≡ length l.initial.buf) × (g.F.ImageFile.content l.file ≡ g.F.ImageFile.content l.initial.file) × (g.F.ImageFile.size l.file ≡ g.F.ImageFile.size l.initial.file) × ((g.F.ImageFile.calls l.file).moved ≡ (g.F.ImageFile.calls l.initial.file).moved)
    × ((g.F.ImageFile.calls l.file).synced ≡ (g.F.ImageFile.calls l.initial.file).synced)
    × ((g.F.ImageFile.calls l.file).failed ≡ (g.F.ImageFile.calls l.initial.file).failed)
    × ((g.F.ImageFile.calls l.file).interrupted ≡ count_after l.tried (g.F.ImageFile.calls l.initial.file).interrupted)
