use Rattle.std.proofs.Common.{ℕ, List, drop, zip, sym, ◌∙◌, ap}
use Rattle.std.specs.List.{list_any}
use Rattle.domain_script.specs.declared.fields.Field.{Field}
use Rattle.domain_script.specs.declared.fields.Field.TheVariants.{NewName}
use Rattle.domain_script.specs.declared.fields.LaneKind.TheVariants as lanes
use Rattle.domain_script.specs.Faults.{is_wrong}
use Rattle.domain_script.proofs.FirstOf.{one_left}
use Rattle.domain_script.proofs.field_faults.is_any_wrong.Goals as goal

pub returns-in-None : goal.returns-in-None
returns-in-None c =
    c.is_wrong-in-None.ensures
    ∙ sym (one_left (λ (place : Field × List ℕ). is_wrong c.args.fault c.args.names.now place.0 place.1) c.loop-field.field-index c.args.fields.now (NewName lanes.Disk) c.loop-field.text.now c.loop-field-test.true)
    ∙ ap (λ (ws : List (List ℕ)). list_any (λ (place : Field × List ℕ). is_wrong c.args.fault c.args.names.now place.0 place.1) (zip (drop c.loop-field.field-index c.args.fields.now) ws)) (sym c.in-None.ensures)
    ∙ sym c.loop-field.invariant
