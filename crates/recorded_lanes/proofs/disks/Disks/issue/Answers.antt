use Rattle.std.proofs.Common.{List, ap, ◌∙◌}
use Rattle.ldom_report.specs.Report.{accepted_count}
use Rattle.ldom_entries.specs.declared.entry.Entry.{Entry}
use Rattle.recorded_lanes.proofs.Lifting.{few_issued}
use Rattle.recorded_lanes.proofs.Opened.{answer_agrees, lane_there}
use Rattle.recorded_lanes.proofs.disks.Disks.issue.Goals as goal

pub ask_lane-requires-clause-few : goal.ask_lane-requires-clause-few
ask_lane-requires-clause-few g c =
    few_issued c.reserve.new.self.entries c.args.self.now.lanes c.args.disk c.index_mut.result.now
    (lane_there c.args.self.now _ _ c.args.disk c.index_mut.result.now c.self.view_is c.requires.disk
    c.index_mut.ensures.value)
    (ap (λ (l : List Entry). accepted_count l) c.in_ok-reserve.ensures.entries ∙ c.requires.agrees)
    c.len-len.ensures.small

pub returns-clause-agrees : goal.returns-clause-agrees
returns-clause-agrees g c =
    answer_agrees c.args.self.now _ _ c.args.disk _ _ _ _ _ _ c.self.view_is c.requires.disk c.index_mut.ensures.value
    c.in_ok-reserve.ensures.entries c.ask_lane.ensures.answers.puts.entries _ _ c.ask_lane.ensures.answers.answer
    c.requires.agrees
