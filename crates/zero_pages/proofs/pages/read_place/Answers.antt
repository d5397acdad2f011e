use Rattle.std.proofs.Common.{length}
use Rattle.zero_pages.proofs.Zeros.{read_place_is}
use Rattle.zero_pages.proofs.pages.read_place.Goals as goal

pub returns : goal.returns
returns c =
    read_place_is c.args.kept.now c.read_page.new.buf c.args.places.now c.args.at (length c.args.buf.now) c.place_of.result c.requires.kept c.requires.within c.requires.page
    c.place_of.ensures c.read_page.ensures
