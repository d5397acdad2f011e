use Rattle.std.proofs.Common.{◌≡◌, ◌+◌, true, length, map, drop}
use Rattle.std.specs.List.{list_all}
use Rattle.cookie_copy.specs.Faults.{has_page, is_mapped}
use Rattle.cookie_copy.specs.Moved.{moved_spots, place_of, write_spots}
use Rattle.cookie_copy.proofs.writing.write_cookies.Given as goal

abbrev pub invariant-loop-cookie : goal.invariant-loop-cookie
invariant-loop-cookie l = record {
  left : l.done + l.window.len ≡ length l.bytes;
  paged : list_all has_page (moved_spots (drop l.cookie-index l.cookies) l.window.skip l.window.len) ≡ true;
  mapped : list_all (is_mapped l.table) (moved_spots (drop l.cookie-index l.cookies) l.window.skip l.window.len) ≡ true;
  same_length : length l.memory ≡ length l.fn.memory;
  written : write_spots (map (place_of l.table) (moved_spots (drop l.cookie-index l.cookies) l.window.skip l.window.len)) (drop l.done l.bytes) l.memory
      ≡ write_spots (map (place_of l.table) (moved_spots l.cookies l.offset (length l.bytes))) l.bytes l.fn.memory;
}
