use Rattle.std.proofs.Common.{◌≡◌, ◌-◌, ◌≤◌, length, take}
use Rattle.vio_bytes.specs.Range.{range_at}
use Rattle.zero_pages.specs.Zeros.{pages_at}
use Rattle.zero_pages.proofs.pages.read_pages.Given as goal

abbrev pub invariant-loop-done : goal.invariant-loop-done
invariant-loop-done l = record {
  within : l.done ≤ length l.buf;
  moved : take l.done l.buf ≡ range_at l.at l.done (pages_at l.kept l.places);
}

abbrev pub decreases-loop-done : goal.decreases-loop-done
decreases-loop-done l = length l.buf - l.done
