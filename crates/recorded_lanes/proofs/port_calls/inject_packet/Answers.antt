use Rattle.std.proofs.Common.{Result, Err, ap, ◌∙◌}
use Rattle.ldc_queue.specs.declared.end.PutFault.{PutFault}
use Rattle.ldom_entries.specs.declared.entry.Entry.TheVariants as entry
use Rattle.ldom_entries.specs.declared.entry.Who.TheVariants.{End as OfEnd}
use Rattle.recorded_lanes.proofs.PortAnswering.{port_injected, port_not_up, port_queue_full}
use Rattle.recorded_lanes.proofs.port_calls.inject_packet.Goals as goal

pub returns-in-Ok : goal.returns-in-Ok
returns-in-Ok c = record {
  entry = entry.Injected c.port_end-end.result c.args.packet.now;
  puts = c.push_injected.ensures;
  answer =
      port_injected c.args.port c.args.lanes.now c.inject.new.self
      c.inject.ensures.ids c.args.side c.port_end-end.result c.end_of.result c.port_end-end.ensures c.end_of.ensures
      c.args.packet.now c.inject.result c.inject.ensures.entry c.in-Ok.field-0 c.in-Ok.is;
}

pub returns-in-Err-NotUp : goal.returns-in-Err-NotUp
returns-in-Err-NotUp c = record {
  entry = entry.Calm (OfEnd c.port_end-end.result);
  puts = c.push_calm.ensures;
  answer =
      port_not_up c.args.port c.args.lanes.now c.inject.new.self
      c.inject.ensures.ids c.args.side c.port_end-end.result c.end_of.result c.port_end-end.ensures c.end_of.ensures
      c.args.packet.now c.inject.result c.inject.ensures.entry
      (c.in-Err-NotUp.is ∙ ap (λ (why : PutFault). let r : Result Unit PutFault = Err why in r) c.in-Err-NotUp.field-0-is);
}

pub returns-in-Err-Full : goal.returns-in-Err-Full
returns-in-Err-Full c = record {
  entry = entry.Full (OfEnd c.port_end-end.result);
  puts = c.push_full.ensures;
  answer =
      port_queue_full c.args.port c.args.lanes.now c.inject.new.self
      c.inject.ensures.ids c.args.side c.port_end-end.result c.end_of.result c.port_end-end.ensures c.end_of.ensures
      c.args.packet.now c.inject.result c.inject.ensures.entry
      (c.in-Err-Full.is ∙ ap (λ (why : PutFault). let r : Result Unit PutFault = Err why in r) c.in-Err-Full.field-0-is);
}
