use Rattle.std.proofs.Common.{refl}
use Rattle.descriptor_work.specs.Calling.{reach_over}
use Rattle.vdisk_server.proofs.SlotSteps.{fetch_marked, fetch_not_marked}
use Rattle.vdisk_server.proofs.end.ServerEnd.fetch_ready.Goals as goal

pub returns-in-Ok-mark-clause-fetched : goal.returns-in-Ok-mark-clause-fetched
returns-in-Ok-mark-clause-fetched c =
    fetch_marked c.args.self.now (reach_over c.args.channel.now c.args.table.now c.args.memory.now) c.args.slot c.peer_ring-ring.result c.in-Ok.bytes
    c.in-Ok.bytes c.header_of-header.result c.mark.new.memory c.peer_ring-ring.ensures c.in-Ok.ensures.copied c.in-Ok.ensures.fetched
    c.in-Ok.ensures.ready refl c.header_of-header.ensures c.in-Ok-mark.ensures.fault c.in-Ok-mark.ensures.written

pub returns-in-Err-mark-clause-fetched : goal.returns-in-Err-mark-clause-fetched
returns-in-Err-mark-clause-fetched c = (
  fetch_not_marked c.args.self.now (reach_over c.args.channel.now c.args.table.now c.args.memory.now) c.args.slot c.copy_number.result c.peer_ring-ring.result
      c.in-Ok.bytes c.in-Err-mark.fault c.peer_ring-ring.ensures c.in-Ok.ensures.copied c.in-Ok.ensures.fetched c.in-Ok.ensures.ready c.in-Err-mark.ensures.fault
      c.copy_number.ensures,
  c.in-Err-mark.ensures.written,
)
