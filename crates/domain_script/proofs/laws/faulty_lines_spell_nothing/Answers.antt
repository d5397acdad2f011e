use Rattle.domain_script.specs.Computed.{faultless_event}
use Rattle.domain_script.proofs.Faultless.{without_fault}
use Rattle.domain_script.proofs.FaultLemmas.{no_first_fault}
use Rattle.domain_script.proofs.laws.faulty_lines_spell_nothing.Goals as goal

pub returns : goal.returns
returns c = λ line names. (
  λ none. (faultless_event line names, without_fault line names none),
  λ spelled. no_first_fault line names spelled.0 spelled.1,
)
