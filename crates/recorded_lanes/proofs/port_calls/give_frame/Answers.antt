use Rattle.std.proofs.Common.{refl}
use Rattle.kept_requests.specs.Bytes.{filled}
use Rattle.ldom_entries.specs.declared.entry.Entry.TheVariants as entry
use Rattle.recorded_lanes.proofs.PortAnswering.{frame_held, frame_refused, frame_short}
use Rattle.recorded_lanes.proofs.port_calls.give_frame.Goals as goal

pub push_queued-requires-clause-short : goal.push_queued-requires-clause-short
push_queued-requires-clause-short c =
    frame_short c.args.port c.args.lanes.now c.send.new.self c.args.frame.now c.send.ensures.ids c.send.result
    c.send.ensures.entry c.in-Ok.id c.in-Ok.is

pub returns-in-Ok : goal.returns-in-Ok
returns-in-Ok c = record {
  entry = entry.Queued c.args.port c.in-Ok.id (filled c.args.frame.now);
  puts = c.push_queued.ensures;
  answer =
      frame_held c.args.port c.args.lanes.now c.send.new.self c.args.frame.now c.send.ensures.ids c.send.result
      c.send.ensures.entry c.in-Ok.id (filled c.args.frame.now) c.in-Ok.is refl;
}

pub returns-in-Err : goal.returns-in-Err
returns-in-Err c = record {
  entry = c.unsent.result;
  puts = record { entries = c.push.ensures.entries; room = c.push.ensures.room };
  answer =
      frame_refused c.args.port c.args.lanes.now c.send.new.self c.args.frame.now c.send.ensures.ids c.send.result
      c.send.ensures.entry c.in-Err.fault c.unsent.result c.in-Err.is c.unsent.ensures;
}
