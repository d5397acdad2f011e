use Rattle.std.proofs.Common.{Bool, Result, Ok, ap, ◌∙◌}
use Rattle.switched_ports.specs.net_lane.answers.GroupsFull.{GroupsFull}
use Rattle.recorded_lanes.proofs.PortAnswering.{group_joined, group_known, groups_full}
use Rattle.recorded_lanes.proofs.port_calls.join_group.Goals as goal

pub returns-in-Ok-true : goal.returns-in-Ok-true
returns-in-Ok-true c =
    group_joined c.args.port c.args.lanes.now c.join_group.new.self
    c.join_group.ensures.ids c.args.address c.join_group.result c.join_group.ensures.entry
    (c.in-Ok-true.is ∙ ap (λ (b : Bool). let r : Result Bool GroupsFull = Ok b in r) c.in-Ok-true.field-0-test)

pub returns-in-Ok-false : goal.returns-in-Ok-false
returns-in-Ok-false c =
    group_known c.args.port c.args.lanes.now c.join_group.new.self
    c.join_group.ensures.ids c.args.address c.join_group.result c.join_group.ensures.entry c.port_lane.result
    (c.in-Ok-false.is ∙ ap (λ (b : Bool). let r : Result Bool GroupsFull = Ok b in r) c.in-Ok-false.field-0-test)
    c.port_lane.ensures

pub returns-in-Err : goal.returns-in-Err
returns-in-Err c =
    groups_full c.args.port c.args.lanes.now c.join_group.new.self
    c.join_group.ensures.ids c.args.address c.join_group.result c.join_group.ensures.entry c.port_lane.result
    c.in-Err.field-0 c.in-Err.is c.port_lane.ensures
