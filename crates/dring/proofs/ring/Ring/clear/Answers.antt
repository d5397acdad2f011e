use Rattle.std.proofs.Common.{ℕ, ◌*◌, List, ◌∙◌, ap}
use Rattle.vio_bytes.specs.Place.{put_at}
use Rattle.dring.proofs.Laps.{clear_more}
use Rattle.dring.proofs.ring.Ring.clear.Goals as goal

pub loop-slot-preserved : goal.loop-slot-preserved
loop-slot-preserved g c = record {
  same_length = c.write.ensures.same_length ∙ c.loop-slot.invariant.same_length;
  cleared = clear_more g.row.SLOT c.args.self.now.slots c.loop-slot.slot c.args.memory.now c.loop-slot.memory c.write.new.self c.requires.size c.loop-slot-test.true c.requires.room c.loop-slot.invariant.cleared
      (c.write.ensures.written ∙ ap (λ (p : ℕ). put_at p c.free_slot-free.result c.loop-slot.memory) c.place.ensures ∙ ap (λ (piece : List ℕ). put_at (g.row.SLOT * c.loop-slot.slot) piece c.loop-slot.memory) c.free_slot-free.ensures);
}
