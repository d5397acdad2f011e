use Rattle.std.proofs.Common.{◌≡◌, drop, zip}
use Rattle.std.specs.List.{list_any}
use Rattle.domain_script.specs.Faults.{is_wrong}
use Rattle.script_words.specs.Words.{words}
use Rattle.domain_script.proofs.field_faults.is_any_wrong.Given as goal

-- the rest of the fields have the rest of the words
abbrev pub invariant-loop-field : goal.invariant-loop-field
invariant-loop-field l =
    list_any (λ place. is_wrong l.fault l.names place.0 place.1) (zip l.fields (words l.fn.text))
    ≡ list_any (λ place. is_wrong l.fault l.names place.0 place.1) (zip (drop l.field-index l.fields) (words l.text))
