use Rattle.recorded_lanes.proofs.Opened.{answer_agrees}
use Rattle.recorded_lanes.proofs.disks.Disks.poke.Goals as goal

pub returns-clause-agrees : goal.returns-clause-agrees
returns-clause-agrees g c =
    answer_agrees c.args.self.now _ _ c.args.disk _ _ _ _ _ _ c.self.view_is c.requires.disk c.index_mut.ensures.value
    c.in_ok-reserve.ensures.entries c.push.ensures.entries _ _ c.poke_lane-entry.ensures.answers c.requires.agrees
