use Rattle.kind_cases.proofs.PortCounting.{never_three, one_tick}
use Rattle.kind_cases.proofs.switches.no_port_is_stuck_in_a_settle.Goals as goal

pub returns : goal.returns
returns c = record { ticks = one_tick; stuck = never_three }
