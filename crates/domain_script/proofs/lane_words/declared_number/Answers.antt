use Rattle.domain_script.specs.LaneKinds.{lane_at}
use Rattle.domain_script.proofs.NamingTests.{kind_number, no_kind_number}
use Rattle.domain_script.proofs.lane_words.declared_number.Goals as goal

pub returns-in_err-lane-clause-none : goal.returns-in_err-lane-clause-none
returns-in_err-lane-clause-none c = rw c.from_residual.ensures (λ number named. c.in_err-lane.ensures.none (lane_at c.args.kind number) named)

pub returns-clause-some : goal.returns-clause-some
returns-clause-some c =
    kind_number c.args.names.now c.args.word.now c.args.kind c.in_ok-lane.lane c.number_if.result c.number_if.ensures c.in_ok-lane.ensures.some

pub returns-clause-none : goal.returns-clause-none
returns-clause-none c =
    no_kind_number c.args.names.now c.args.word.now c.args.kind c.in_ok-lane.lane c.number_if.result c.number_if.ensures c.in_ok-lane.ensures.some
