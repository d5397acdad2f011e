use Rattle.std.proofs.Common.{arith}
use Rattle.cookie_copy.specs.Moved.{moved_spots}
use Rattle.cookie_copy.proofs.Addresses.{found_within, held_within, moved_past, skipped_on}
use Rattle.cookie_copy.proofs.one_page.in_one_page.Goals as goal

pub returns-then-skip-cookie-clause-spots : goal.returns-then-skip-cookie-clause-spots
returns-then-skip-cookie-clause-spots c =
    found_within c.page_part.result c.args.cookies.now c.loop-cookie.cookie-index (record { address = 0; size = 0 }) c.loop-cookie.skip c.args.window.len
    (moved_spots c.args.cookies.now c.args.window.skip c.args.window.len) c.loop-cookie-test.true c.page_part.ensures.address c.page_part.ensures.within c.loop-cookie.invariant.spots

pub returns-then-skip-cookie-clause-holds : goal.returns-then-skip-cookie-clause-holds
returns-then-skip-cookie-clause-holds c =
    held_within c.page_part.result c.args.cookies.now c.loop-cookie.cookie-index (record { address = 0; size = 0 }) c.loop-cookie.skip c.args.window.skip c.args.window.len
    c.loop-cookie-test.true c.if-skip-cookie.true c.page_part.ensures.within c.loop-cookie.invariant.skipped

pub loop-cookie-preserved : goal.loop-cookie-preserved
loop-cookie-preserved c = record {
  spots = moved_past c.args.cookies.now c.loop-cookie.cookie-index (record { address = 0; size = 0 }) c.loop-cookie.skip c.args.window.len
      (moved_spots c.args.cookies.now c.args.window.skip c.args.window.len) c.loop-cookie-test.true (omega (arith, c.if-skip-cookie.false)) c.loop-cookie.invariant.spots;
  skipped = skipped_on c.args.cookies.now c.loop-cookie.cookie-index (record { address = 0; size = 0 }) c.loop-cookie.skip c.args.window.skip c.loop-cookie-test.true (omega (arith, c.if-skip-cookie.false)) c.loop-cookie.invariant.skipped;
}
