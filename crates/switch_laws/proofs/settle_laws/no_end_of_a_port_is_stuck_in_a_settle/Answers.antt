use Rattle.switch_laws.proofs.Counting.{never_three, one_tick}
use Rattle.switch_laws.proofs.settle_laws.no_end_of_a_port_is_stuck_in_a_settle.Goals as goal

pub returns : goal.returns
returns c = record { ticks = one_tick; stuck = never_three }
