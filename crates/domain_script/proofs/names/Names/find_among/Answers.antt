use Rattle.std.proofs.Common.{arith}
use Rattle.domain_script.specs.NamesState.{names_of}
use Rattle.domain_script.proofs.Firsts.{is_first, is_none}
use Rattle.domain_script.proofs.LaneNames.{as_many_names}
use Rattle.domain_script.proofs.names.Names.find_among.Goals as goal

pub returns-then-has_name : goal.returns-then-has_name
returns-then-has_name c =
    is_first (names_of c.args.kind c.args.self.now) c.args.name.now c.loop-number.number (c.has_name.ensures.0 c.if-has_name.true) c.loop-number.invariant

pub returns : goal.returns
returns c =
    is_none (names_of c.args.kind c.args.self.now) c.args.name.now
    (λ j lt there.
    c.loop-number.invariant j
    (omega (arith, lt, c.loop-number-test.false, c.count-number-end.ensures.count, as_many_names c.args.self.now c.args.kind)) there)
