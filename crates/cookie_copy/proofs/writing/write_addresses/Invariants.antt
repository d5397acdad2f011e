use Rattle.std.proofs.Common.{◌≡◌, ◌+◌, ◌-◌, ◌≤◌, true, length, map, drop}
use Rattle.std.specs.List.{list_all, range_with_len}
use Rattle.cookie_copy.specs.Faults.{is_mapped}
use Rattle.cookie_copy.specs.Moved.{place_of, write_spots}
use Rattle.cookie_copy.proofs.writing.write_addresses.Given as goal

abbrev pub invariant-loop-done : goal.invariant-loop-done
invariant-loop-done l = record {
  within : l.done ≤ length l.bytes;
  mapped : list_all (is_mapped l.table) (range_with_len (l.address + l.done) (length l.bytes - l.done)) ≡ true;
  same_length : length l.memory ≡ length l.fn.memory;
  written : write_spots (map (place_of l.table) (range_with_len (l.address + l.done) (length l.bytes - l.done))) (drop l.done l.bytes) l.memory
      ≡ write_spots (map (place_of l.table) (range_with_len l.address (length l.bytes))) l.bytes l.fn.memory;
}

abbrev pub decreases-loop-done : goal.decreases-loop-done
decreases-loop-done l = length l.bytes - l.done
