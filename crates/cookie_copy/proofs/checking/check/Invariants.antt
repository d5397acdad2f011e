use Rattle.std.proofs.Common.{◌≡◌, ◌+◌, ◌-◌, ◌&&◌, drop}
use Rattle.std.specs.List.{list_all}
use Rattle.cookie_copy.specs.Faults.{has_page, held, is_aligned_cookie, is_found, may_move}
use Rattle.cookie_copy.specs.Moved.{moved_spots}
use Rattle.cookie_copy.proofs.checking.check.Given as goal

abbrev pub invariant-loop-cookie : goal.invariant-loop-cookie
invariant-loop-cookie l = record {
  aligned : (l.checked.aligned && list_all is_aligned_cookie (drop l.cookie-index l.cookies)) ≡ list_all is_aligned_cookie l.cookies;
  left : l.checked.left.skip + l.checked.left.len - held (drop l.cookie-index l.cookies) ≡ l.fn.window.skip + l.fn.window.len - held l.cookies;
  paged : (l.checked.asked.paged && list_all has_page (moved_spots (drop l.cookie-index l.cookies) l.checked.left.skip l.checked.left.len))
      ≡ list_all has_page (moved_spots l.cookies l.fn.window.skip l.fn.window.len);
  mapped : (l.checked.asked.mapped && list_all (is_found l.table) (moved_spots (drop l.cookie-index l.cookies) l.checked.left.skip l.checked.left.len))
      ≡ list_all (is_found l.table) (moved_spots l.cookies l.fn.window.skip l.fn.window.len);
  allowed : (l.checked.asked.allowed && list_all (may_move l.access l.table) (moved_spots (drop l.cookie-index l.cookies) l.checked.left.skip l.checked.left.len))
      ≡ list_all (may_move l.access l.table) (moved_spots l.cookies l.fn.window.skip l.fn.window.len);
}
