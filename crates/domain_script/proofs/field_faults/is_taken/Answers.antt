use Rattle.std.proofs.Common.{Option, is_some, ap, ◌∙◌}
use Rattle.domain_script.specs.declared.event.Lane.{Lane}
use Rattle.domain_script.proofs.NamingTests.{lane_told}
use Rattle.domain_script.proofs.field_faults.is_taken.Goals as goal

pub returns-in-NewName : goal.returns-in-NewName
returns-in-NewName c = rw c.in-NewName.is
    (c.is_some.ensures
    ∙ ap (λ (o : Option Lane). is_some o) (lane_told c.args.names.now c.args.word.now c.declared_lane.result c.declared_lane.ensures.some c.declared_lane.ensures.none))
