use Rattle.ldc_link.proofs.Coming.{clears_follow, offers_follow, parts_come}
use Rattle.ldc_link.proofs.Following.{joins_follow, takes_follow}
use Rattle.ldc_link.proofs.FollowingPuts.{puts_follow}
use Rattle.ldc_link.proofs.laws.links_follow_what_their_ends_say.Goals as goal

pub returns : goal.returns
returns c = record { joins = joins_follow; puts = puts_follow; takes = takes_follow; comes = parts_come; offers = offers_follow; clears = clears_follow }
