use Rattle.recorded_lanes.proofs.Opened.{answer_agrees}
use Rattle.recorded_lanes.proofs.disks.Disks.answer_call.Goals as goal

pub returns-clause-agrees : goal.returns-clause-agrees
returns-clause-agrees g c =
    answer_agrees c.args.self.now _ _ c.args.disk _ _ _ _ _ _ c.self.view_is c.requires.disk c.index_mut.ensures.value
    c.in_ok-reserve.ensures.entries c.call_lane.ensures.answers.puts.entries _ _ c.call_lane.ensures.answers.answer
    c.requires.agrees
