use Rattle.std.proofs.Common.{◌≡◌, ◌+◌, ◌-◌, ◌≤◌, ◌++◌, true, length, map, take}
use Rattle.std.specs.List.{list_all, range_with_len}
use Rattle.cookie_copy.specs.Faults.{is_mapped}
use Rattle.cookie_copy.specs.Moved.{byte_of}
use Rattle.cookie_copy.proofs.reading.read_addresses.Given as goal

abbrev pub invariant-loop-done : goal.invariant-loop-done
invariant-loop-done l = record {
  within : l.done ≤ length l.buf;
  mapped : list_all (is_mapped l.table) (range_with_len (l.address + l.done) (length l.buf - l.done)) ≡ true;
  moved : take l.done l.buf ++ map (byte_of l.table l.memory) (range_with_len (l.address + l.done) (length l.buf - l.done))
      ≡ map (byte_of l.table l.memory) (range_with_len l.address (length l.buf));
}

abbrev pub decreases-loop-done : goal.decreases-loop-done
decreases-loop-done l = length l.buf - l.done
