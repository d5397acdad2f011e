use Rattle.std.proofs.Common.{arith}
use Rattle.disk_requests.proofs.Cookies.{own_pages}
use Rattle.disk_requests.proofs.offering.own_cookies.Goals as goal

pub returns-then-slots-clause-count : goal.returns-then-slots-clause-count
returns-then-slots-clause-count c = own_pages c.args.slots c.ring_pages-pages.result (omega arith) c.ring_pages-pages.ensures
