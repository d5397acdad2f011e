use Rattle.std.proofs.Common.{refl, arith}
use Rattle.domain_script.proofs.LaneNames.{none_differ}
use Rattle.domain_script.proofs.names.Names.new.Goals as goal

pub invariant_of-result : goal.invariant_of-result
invariant_of-result c = (omega arith, refl, omega arith, refl, none_differ, λ j k x is there. absurd (cc is))
