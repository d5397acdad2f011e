use Rattle.std.proofs.Common.{◌≡◌, ◌-◌, ◌≤◌, length, take, vec_capacity}
use Rattle.vio_bytes.specs.Place.{put_at}
use Rattle.zero_pages.specs.Zeros.{AreKept, pages_at}
use Rattle.zero_pages.proofs.pages.write_pages.Given as goal

abbrev pub invariant-loop-done : goal.invariant-loop-done
invariant-loop-done l = record {
  within : l.done ≤ length l.bytes;
  same_length : length l.places ≡ length l.fn.places;
  kept : AreKept l.kept.items l.places;
  capacity : vec_capacity l.fn.kept ≤ vec_capacity l.kept;
  written : pages_at l.kept.items l.places ≡ put_at l.at (take l.done l.bytes) (pages_at l.fn.kept.items l.fn.places);
}

abbrev pub decreases-loop-done : goal.decreases-loop-done
decreases-loop-done l = length l.bytes - l.done
