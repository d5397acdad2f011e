use Rattle.std.proofs.Common.{◌≡◌, Bool, ℕ, true, false, Option, not, is_none, is_some, ap, ◌∙◌, refl}
use Rattle.domain_script.specs.declared.event.Lane.{Lane}
use Rattle.domain_script.proofs.NamingTests.{end_told, lane_told, number_told}
use Rattle.domain_script.proofs.field_faults.is_unknown.Goals as goal

none_unless : (found none : Bool) → found ≡ not none → none ≡ not found
none_unless true true is = cc is
none_unless true false is = refl
none_unless false true is = refl
none_unless false false is = cc is

pub returns-in-Named : goal.returns-in-Named
returns-in-Named c = rw c.in-Named.is
    (none_unless (is_some c.declared_number.result) c.is_none.result c.is_none.ensures
    ∙ ap (λ (o : Option ℕ). is_none o) (number_told c.args.names.now c.args.word.now c.in-Named.kind c.declared_number.result c.declared_number.ensures.some c.declared_number.ensures.none))

pub returns-in-LaneName : goal.returns-in-LaneName
returns-in-LaneName c = rw c.in-LaneName.is
    (none_unless (is_some c.declared_lane.result) c.is_none-in-LaneName.result c.is_none-in-LaneName.ensures
    ∙ ap (λ (o : Option Lane). is_none o) (lane_told c.args.names.now c.args.word.now c.declared_lane.result c.declared_lane.ensures.some c.declared_lane.ensures.none))

pub returns-in-End : goal.returns-in-End
returns-in-End c = rw c.in-End.is
    (none_unless (is_some c.declared_end.result) c.is_none-in-End.result c.is_none-in-End.ensures
    ∙ ap not (end_told c.args.names.now c.args.word.now c.in-End.kind c.declared_end.result c.declared_end.ensures.some c.declared_end.ensures.kind c.declared_end.ensures.none))
