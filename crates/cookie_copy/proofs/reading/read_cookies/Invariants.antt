use Rattle.std.proofs.Common.{◌≡◌, ◌+◌, ◌++◌, true, length, map, take, drop}
use Rattle.std.specs.List.{list_all}
use Rattle.cookie_copy.specs.Faults.{has_page, is_mapped}
use Rattle.cookie_copy.specs.Moved.{byte_of, moved_spots}
use Rattle.cookie_copy.proofs.reading.read_cookies.Given as goal

abbrev pub invariant-loop-cookie : goal.invariant-loop-cookie
invariant-loop-cookie l = record {
  left : l.done + l.window.len ≡ length l.buf;
  paged : list_all has_page (moved_spots (drop l.cookie-index l.cookies) l.window.skip l.window.len) ≡ true;
  mapped : list_all (is_mapped l.table) (moved_spots (drop l.cookie-index l.cookies) l.window.skip l.window.len) ≡ true;
  moved : take l.done l.buf ++ map (byte_of l.table l.memory) (moved_spots (drop l.cookie-index l.cookies) l.window.skip l.window.len)
      ≡ map (byte_of l.table l.memory) (moved_spots l.cookies l.offset (length l.buf));
}
