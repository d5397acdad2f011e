use Rattle.domain_script.proofs.PrintedLines.{one_line, spelled_again}
use Rattle.domain_script.proofs.laws.parsed_lines_are_printed.Goals as goal

pub returns-clause-one : goal.returns-clause-one
returns-clause-one c = one_line

pub returns-clause-again : goal.returns-clause-again
returns-clause-again c = spelled_again
