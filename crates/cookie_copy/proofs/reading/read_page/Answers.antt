use Rattle.std.proofs.Common.{ℕ, ◌∙◌, ap, length}
use Rattle.vio_bytes.specs.Range.{range_at}
use Rattle.cookie_copy.proofs.Places.{page_bytes}
use Rattle.cookie_copy.proofs.reading.read_page.Goals as goal

pub returns : goal.returns
returns c =
    c.read.ensures
    ∙ ap (λ (p : ℕ). range_at p (length c.args.buf.now) c.args.memory.now) c.place.ensures
    ∙ page_bytes c.args.table.now c.args.memory.now c.args.address (length c.args.buf.now) c.requires.within c.requires.below c.requires.some c.requires.page c.requires.mapped
