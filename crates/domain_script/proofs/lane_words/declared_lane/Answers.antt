use Rattle.domain_script.proofs.Naming.{none_found}
use Rattle.domain_script.proofs.lane_words.declared_lane.Goals as goal

pub returns-in_err-name-clause-none : goal.returns-in_err-name-clause-none
returns-in_err-name-clause-none c = rw c.from_residual.ensures (λ lane named. c.in_err-name.ensures.none named.name named.spelled)

pub returns-clause-none : goal.returns-clause-none
returns-clause-none c = none_found c.args.names.now c.args.word.now c.in_ok-name.field-0 c.find.result c.in_ok-name.ensures.some c.find.ensures
