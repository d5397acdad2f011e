use Rattle.std.proofs.Common.{subst, ap}
use Rattle.disk_lane.specs.Events.{lost_event}
use Rattle.world_parts.specs.lane_models.LaneStep.{LaneStep}
use Rattle.domain_script.specs.declared.event.EndName.{EndName}
use Rattle.ldc_queue.specs.declared.end.End.{End}
use Rattle.ldom_entries.specs.declared.entry.Entry.TheVariants as entry
use Rattle.ldom_entries.specs.declared.entry.Who.TheVariants.{End as OfEnd}
use Rattle.recorded_lanes.proofs.Answering.{none_lost, was_lost}
use Rattle.recorded_lanes.proofs.calls.lose_packet.Goals as goal

pub returns-in-Some-clause-answers : goal.returns-in-Some-clause-answers
returns-in-Some-clause-answers c =
    was_lost c.args.disk c.args.lane.now c.lose.new.self (entry.Lost c.disk_end-end.result c.in-Some.packet) c.args.side
    c.lose.result c.in-Some.packet c.in-Some.is
    (subst (λ (e : End). LaneStep c.args.lane.now (lost_event e c.lose.result) c.lose.new.self) c.end_of.ensures
    c.lose.ensures.step)
    (ap (λ (e : EndName). entry.Lost e c.in-Some.packet) c.disk_end-end.ensures)

pub returns-in-None-clause-answers : goal.returns-in-None-clause-answers
returns-in-None-clause-answers c =
    none_lost c.args.disk c.args.lane.now c.lose.new.self (entry.Calm (OfEnd c.disk_end-end.result)) c.args.side
    c.lose.result c.in-None.is
    (subst (λ (e : End). LaneStep c.args.lane.now (lost_event e c.lose.result) c.lose.new.self) c.end_of.ensures
    c.lose.ensures.step)
    (ap (λ (e : EndName). entry.Calm (OfEnd e)) c.disk_end-end.ensures)
