use Rattle.std.proofs.Common.{◌+◌, ◌<◌, ◌^◌, List, length, subst, sym}
use Rattle.world_parts.specs.lane_models.PortState.{PortState}
use Rattle.switched_ports.specs.Given.{GivenBelow}
use Rattle.ldom_entries.specs.declared.entry.Entry.{Entry}
use Rattle.recorded_lanes.proofs.PortLifting.{few_given, port_answer_accepted, port_answer_given, port_answer_made, port_answer_many}
use Rattle.recorded_lanes.proofs.ports.PortLanes.send.Goals as goal

pub give_frame-requires-clause-few : goal.give_frame-requires-clause-few
give_frame-requires-clause-few c =
    few_given c.args.journal.now.entries c.self.inside.lanes
    (subst (λ (l : List PortState). GivenBelow (length c.args.journal.now.entries + 1) l) (sym c.self.view_is)
    c.requires.agrees)
    (subst (λ (l : List Entry). length l < 2 ^ 63) c.in_ok-reserve.ensures.entries c.len-len.ensures.small)

pub returns-clause-made : goal.returns-clause-made
returns-clause-made c =
    port_answer_made c.self.inside.lanes c.args.self.now c.give_frame.new.lanes c.self.view_is c.args.port _ _ _ _
    c.in_ok-reserve.ensures.entries c.give_frame.ensures.puts.entries _ _ c.give_frame.ensures.answer

pub returns-clause-many : goal.returns-clause-many
returns-clause-many c =
    port_answer_many c.self.inside.lanes c.args.self.now c.give_frame.new.lanes c.self.view_is c.args.port _ _ _ _
    c.in_ok-reserve.ensures.entries c.give_frame.ensures.puts.entries _ _ c.give_frame.ensures.answer

pub returns-clause-agrees : goal.returns-clause-agrees
returns-clause-agrees c =
    port_answer_given c.self.inside.lanes c.args.self.now c.give_frame.new.lanes c.self.view_is c.args.port _ _ _ _
    c.in_ok-reserve.ensures.entries c.give_frame.ensures.puts.entries _ _ c.give_frame.ensures.answer c.requires.agrees

pub returns-clause-accepted : goal.returns-clause-accepted
returns-clause-accepted c =
    port_answer_accepted c.self.inside.lanes c.args.self.now c.give_frame.new.lanes c.self.view_is c.args.port _ _ _ _
    c.in_ok-reserve.ensures.entries c.give_frame.ensures.puts.entries _ _ c.give_frame.ensures.answer
