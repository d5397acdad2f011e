use Rattle.std.proofs.Common.{◌≡◌}
use Rattle.lane_models.specs.OwnMemory.{filled, page_cookies}
use Rattle.disk_requests.proofs.offering.page_cookies.Given as goal

abbrev pub invariant-loop-page : goal.invariant-loop-page
invariant-loop-page l = l.cookies ≡ filled 14 (page_cookies 0 l.page)
