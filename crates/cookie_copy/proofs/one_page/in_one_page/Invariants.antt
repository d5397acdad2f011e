use Rattle.std.proofs.Common.{◌≡◌, ◌+◌, drop}
use Rattle.cookie_copy.specs.Faults.{held}
use Rattle.cookie_copy.specs.Moved.{moved_spots}
use Rattle.cookie_copy.proofs.one_page.in_one_page.Given as goal

abbrev pub invariant-loop-cookie : goal.invariant-loop-cookie
invariant-loop-cookie l = record {
  spots : moved_spots (drop l.cookie-index l.cookies) l.skip l.window.len ≡ moved_spots l.cookies l.window.skip l.window.len;
  skipped : l.skip + held l.cookies ≡ l.window.skip + held (drop l.cookie-index l.cookies);
}
