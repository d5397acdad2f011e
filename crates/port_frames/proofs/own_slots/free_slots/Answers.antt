use Rattle.std.proofs.Common.{◌+◌, ◌∙◌}
use Rattle.port_frames.proofs.Ranges.{freed_more, slot_at}
use Rattle.port_frames.proofs.own_slots.free_slots.Goals as goal

pub loop-index-preserved : goal.loop-index-preserved
loop-index-preserved c = record {
  same_length = c.free_slot.ensures.same_length ∙ c.loop-index.invariant.same_length;
  freed = c.loop-index.invariant.freed
      ∙ freed_more c.args.slots c.loop-index.memory c.free_slot.new.memory c.args.number c.args.count c.loop-index.index c.slot_of-slot.result
      c.loop-index-test.true (slot_at c.slot_of-slot.result (c.args.number + c.loop-index.index) c.args.slots c.slot_of-slot.ensures.slot) c.free_slot.ensures.written;
}
