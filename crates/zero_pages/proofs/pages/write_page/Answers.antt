use Rattle.std.proofs.Common.{ℕ, ◌*◌, ◌<◌, List, length, arith}
use Rattle.zero_pages.specs.Zeros.{pages_at}
use Rattle.zero_pages.proofs.Zeros.{write_place_is}
use Rattle.zero_pages.proofs.pages.write_page.Goals as goal

pub returns-clause-written : goal.returns-clause-written
returns-clause-written c =
    let old : List ℕ = pages_at c.args.kept.now.items c.args.places.now in
    let within : c.args.at < 4096 * length c.keep-place.new.places = omega (arith, c.requires.within, c.keep-place.ensures.same_length) in
    write_place_is old c.keep-place.new.kept.items c.write_kept.new.kept.items c.keep-place.new.places c.args.bytes.now c.args.at c.keep-place.result c.keep-place.ensures.kept within c.requires.page
    c.keep-place.ensures.place c.keep-place.ensures.some c.write_kept.ensures.written c.keep-place.ensures.same
