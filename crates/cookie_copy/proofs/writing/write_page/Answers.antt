use Rattle.std.proofs.Common.{ℕ, List, ◌∙◌, ap, sym, length, refl, arith}
use Rattle.vio_bytes.specs.Place.{put_at}
use Rattle.cookie_copy.specs.Moved.{place_of, write_spots}
use Rattle.cookie_copy.proofs.Places.{page_places, place_within, write_range}
use Rattle.cookie_copy.proofs.writing.write_page.Goals as goal

pub returns-clause-written : goal.returns-clause-written
returns-clause-written c =
    let bytes = c.args.bytes.now in
    let p : ℕ = place_of c.args.table.now c.args.address in
    let inside = place_within c.args.table.now (length c.args.memory.now) c.args.address c.requires.within c.requires.some c.requires.mapped in
    c.write.ensures.written
    ∙ ap (λ (q : ℕ). put_at q bytes c.args.memory.now) c.place.ensures
    ∙ sym (write_range p (length bytes) bytes c.args.memory.now refl (omega (arith, inside, c.requires.page)))
    ∙ ap (λ (ps : List ℕ). write_spots ps bytes c.args.memory.now) (sym (page_places c.args.table.now c.args.address (length bytes) c.requires.below c.requires.page c.requires.mapped))
