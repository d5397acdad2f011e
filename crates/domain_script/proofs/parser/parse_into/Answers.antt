use Rattle.domain_script.proofs.Spelling.{can_print, is_declared}
use Rattle.domain_script.proofs.parser.parse_into.Goals as goal

pub returns-in-Some-clause-declared : goal.returns-in-Some-clause-declared
returns-in-Some-clause-declared c = is_declared c.args.line.now c.args.names.now c.spelled_row.new.event c.in-Some.ensures.some

pub returns-in-Some-clause-printable : goal.returns-in-Some-clause-printable
returns-in-Some-clause-printable c = can_print c.args.line.now c.args.names.now c.spelled_row.new.event c.in-Some.ensures.some
