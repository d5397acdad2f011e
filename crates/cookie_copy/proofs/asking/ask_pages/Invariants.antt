use Rattle.std.proofs.Common.{◌≡◌, ◌+◌, ◌-◌, ◌≤◌, ◌&&◌, true}
use Rattle.std.specs.List.{list_all, range_with_len}
use Rattle.cookie_copy.specs.Faults.{is_found, may_move}
use Rattle.cookie_copy.proofs.asking.ask_pages.Given as goal

abbrev pub invariant-loop-done : goal.invariant-loop-done
invariant-loop-done l = record {
  within : l.done ≤ l.len;
  paged : l.asked.paged ≡ true;
  mapped : (l.asked.mapped && list_all (is_found l.table) (range_with_len (l.address + l.done) (l.len - l.done)))
      ≡ list_all (is_found l.table) (range_with_len l.address l.len);
  allowed : (l.asked.allowed && list_all (may_move l.access l.table) (range_with_len (l.address + l.done) (l.len - l.done)))
      ≡ list_all (may_move l.access l.table) (range_with_len l.address l.len);
}

abbrev pub decreases-loop-done : goal.decreases-loop-done
decreases-loop-done l = l.len - l.done
