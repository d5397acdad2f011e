use Rattle.std.proofs.Common.{◌≡◌, length}
use Rattle.std.specs.List.{list_any}
use Rattle.domain_script.specs.Faults.{is_empty}
use Rattle.script_words.specs.Words.{words}
use Rattle.domain_script.proofs.faults.has_empty_part.Given as goal

abbrev pub invariant-loop-part : goal.invariant-loop-part
invariant-loop-part l = list_any is_empty (words l.line) ≡ list_any is_empty (words l.rest)

abbrev pub decreases-loop-part : goal.decreases-loop-part
decreases-loop-part l = length (words l.rest)
