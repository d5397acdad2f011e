use Rattle.std.proofs.Common.{Result, Err, subst, ap, ◌∙◌}
use Rattle.disk_lane.specs.Events.{injected_event}
use Rattle.world_parts.specs.lane_models.LaneStep.{LaneStep}
use Rattle.domain_script.specs.declared.event.EndName.{EndName}
use Rattle.ldc_queue.specs.declared.end.End.{End}
use Rattle.ldc_queue.specs.declared.end.PutFault.{PutFault}
use Rattle.ldom_entries.specs.declared.entry.Entry.TheVariants as entry
use Rattle.ldom_entries.specs.declared.entry.Who.TheVariants.{End as OfEnd}
use Rattle.recorded_lanes.proofs.Answering.{injected_full, not_injected, was_injected}
use Rattle.recorded_lanes.proofs.calls.inject_packet.Goals as goal

pub returns-in-Ok-clause-answers : goal.returns-in-Ok-clause-answers
returns-in-Ok-clause-answers c = record {
  entry = entry.Injected c.disk_end-end.result c.args.packet.now;
  puts = c.push_injected.ensures;
  answer =
      was_injected c.args.disk c.args.lane.now c.inject.new.self (entry.Injected c.disk_end-end.result c.args.packet.now)
      c.args.side c.args.packet.now c.inject.result
      (subst (λ (e : End). LaneStep c.args.lane.now (injected_event e c.args.packet.now c.inject.result) c.inject.new.self)
      c.end_of.ensures c.inject.ensures.step)
      c.in-Ok.field-0 c.in-Ok.is (ap (λ (e : EndName). entry.Injected e c.args.packet.now) c.disk_end-end.ensures);
}

pub returns-in-Err-NotUp-clause-answers : goal.returns-in-Err-NotUp-clause-answers
returns-in-Err-NotUp-clause-answers c = record {
  entry = entry.Calm (OfEnd c.disk_end-end.result);
  puts = c.push_calm.ensures;
  answer =
      not_injected c.args.disk c.args.lane.now c.inject.new.self (entry.Calm (OfEnd c.disk_end-end.result))
      c.args.side c.args.packet.now c.inject.result
      (subst (λ (e : End). LaneStep c.args.lane.now (injected_event e c.args.packet.now c.inject.result) c.inject.new.self)
      c.end_of.ensures c.inject.ensures.step)
      (c.in-Err-NotUp.is ∙ ap (λ (why : PutFault). let r : Result Unit PutFault = Err why in r) c.in-Err-NotUp.field-0-is)
      (ap (λ (e : EndName). entry.Calm (OfEnd e)) c.disk_end-end.ensures);
}

pub returns-in-Err-Full-clause-answers : goal.returns-in-Err-Full-clause-answers
returns-in-Err-Full-clause-answers c = record {
  entry = entry.Full (OfEnd c.disk_end-end.result);
  puts = c.push_full.ensures;
  answer =
      injected_full c.args.disk c.args.lane.now c.inject.new.self (entry.Full (OfEnd c.disk_end-end.result))
      c.args.side c.args.packet.now c.inject.result
      (subst (λ (e : End). LaneStep c.args.lane.now (injected_event e c.args.packet.now c.inject.result) c.inject.new.self)
      c.end_of.ensures c.inject.ensures.step)
      (c.in-Err-Full.is ∙ ap (λ (why : PutFault). let r : Result Unit PutFault = Err why in r) c.in-Err-Full.field-0-is)
      (ap (λ (e : EndName). entry.Full (OfEnd e)) c.disk_end-end.ensures);
}
