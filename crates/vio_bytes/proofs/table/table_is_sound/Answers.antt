use Rattle.std.proofs.Common.{◌<◌, length, arith}
use Rattle.vio_bytes.proofs.InOrder.{next_in_order}
use Rattle.vio_bytes.proofs.table.table_is_sound.Goals as goal

pub returns-then-not-field_fits : goal.returns-then-not-field_fits
returns-then-not-field_fits g c =
    let below : c.loop-place.place-index < length c.args.table.now.fields = search arith in (
      (λ never. (cc)),
      (λ sound. c.if-not-field_fits.ensures.1 (next_in_order c.loop-place.end c.args.table.now.fields c.args.table.now.length c.loop-place.place-index (0, 0) below (c.loop-place.invariant.0.0 sound))),
    )
