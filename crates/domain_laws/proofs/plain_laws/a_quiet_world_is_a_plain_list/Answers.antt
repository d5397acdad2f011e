use Rattle.domain_laws.proofs.QuietLines.{quiet_lines}
use Rattle.domain_laws.proofs.plain_laws.a_quiet_world_is_a_plain_list.Goals as goal

pub returns : goal.returns
returns c = quiet_lines
