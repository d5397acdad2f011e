use Rattle.std.proofs.Common.{◌≡◌, length}
use Rattle.vio_bytes.specs.Place.{put_at}
use Rattle.dring.specs.Slots.{free_slots}
use Rattle.dring.proofs.ring.Ring.clear.Given as goal

abbrev pub invariant-loop-slot : goal.invariant-loop-slot
invariant-loop-slot g l = record {
  same_length : length l.memory ≡ length l.fn.memory;
  cleared : l.memory ≡ put_at 0 (free_slots g.row.SLOT l.slot) l.fn.memory;
}
