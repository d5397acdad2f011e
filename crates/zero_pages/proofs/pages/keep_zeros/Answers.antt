use Rattle.zero_pages.proofs.Zeros.{keeps_kept, keeps_same, room_for_page}
use Rattle.zero_pages.proofs.pages.keep_zeros.Goals as goal

pub add_zeros-place-requires : goal.add_zeros-place-requires
add_zeros-place-requires c = record {
  room = room_for_page c.args.kept.now.items c.args.places.now c.args.page _ c.requires.kept c.requires.page c.requires.zeros c.requires.room;
}

pub returns-clause-same : goal.returns-clause-same
returns-clause-same c =
    keeps_same c.args.kept.now.items c.add_zeros-place.new.kept.items c.args.places.now c.args.page c.add_zeros-place.result c.requires.kept c.requires.page c.requires.zeros
    c.add_zeros-place.ensures.zeros c.add_zeros-place.ensures.number

pub returns-clause-kept : goal.returns-clause-kept
returns-clause-kept c =
    keeps_kept c.args.kept.now.items c.add_zeros-place.new.kept.items c.args.places.now c.args.page c.add_zeros-place.result c.requires.kept c.requires.page c.requires.zeros
    c.add_zeros-place.ensures.zeros c.add_zeros-place.ensures.number
