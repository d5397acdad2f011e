use Rattle.kind_cases.proofs.PortFronts.{never_three_begun, one_tick_begun, ports_begun, twins_begun}
use Rattle.kind_cases.proofs.switches.fronts_of_a_settle_keep_its_rules.Goals as goal

pub returns : goal.returns
returns c = record { one = ports_begun; other = twins_begun; ticks = one_tick_begun; stuck = never_three_begun }
