use Rattle.std.proofs.Common.{◌≡◌, ℕ, ◌+◌, ◌-◌, ◌*◌, ◌≤◌, Bool, List, [], length, ap, ◌∙◌, sym, subst}
use Rattle.std.specs.Prelude.{min}
use Rattle.vdisk_msg.specs.Descriptor.{disk_desc_of}
use Rattle.vio_io.specs.Causes.{FaultsAfter}
use Rattle.vio_io.specs.Stores.{WritesRange}
use Rattle.lane_models.specs.ServerWork.{or_ends}
use Rattle.descriptor_work.specs.declared.work.Progress.{Progress as KeptProgress}
use Rattle.descriptor_work.specs.Fields.{progress_of, work_with}
use Rattle.descriptor_work.proofs.PieceSteps.{done_where, piece_written, unit_place, unit_range, unit_within}
use Rattle.descriptor_work.proofs.work.Work.write_unit.Goals as goal

pub store_place-at-requires : goal.store_place-at-requires
store_place-at-requires g c =
    subst (λ (block : ℕ). 512 * (c.args.region.first + block) ≤ g.D.Store.size c.args.store.now) (sym (c.unit_block-block.ensures []))
    (unit_place c.args.region.blocks c.args.unit (disk_desc_of c.args.self.now.descriptor).offset (disk_desc_of c.args.self.now.descriptor).size c.args.region.first
    (g.D.Store.size c.args.store.now) c.requires.unit.unit_in c.requires.unit.within c.requires.region)

pub write_at-requires : goal.write_at-requires
write_at-requires g c =
    let held : length c.bytes-bytes.result.now ≡ min 8192 ((disk_desc_of c.args.self.now.descriptor).size - 8192 * c.args.unit) =
    ap (λ (xs : List ℕ). length xs) c.bytes-bytes.ensures.held ∙ c.requires.held in
    unit_range c.args.region.blocks c.args.unit (disk_desc_of c.args.self.now.descriptor).offset (disk_desc_of c.args.self.now.descriptor).size c.args.region.first
    c.store_place-at.result (length c.bytes-bytes.result.now) (g.D.Store.size c.args.store.now) c.requires.unit.whole c.requires.unit.unit_in c.requires.unit.within
    held c.requires.region (c.store_place-at.ensures ∙ ap (λ (block : ℕ). 512 * (c.args.region.first + block)) (c.unit_block-block.ensures []))

pub returns-clause-piece : goal.returns-clause-piece
returns-clause-piece g c =
    piece_written c.is_err-failed.result c.args.region.first c.args.unit c.unit_block-block.result c.block_count.result c.store_place-at.result c.args.buffer.now c.bytes-bytes.result.now
    (progress_of c.or_ends-self.result c.args.buffer.now) (work_with c.args.self.now c.args.buffer.now) (g.D.Store.content c.args.store.now)
    (g.D.Store.content c.write_at.new.self)
    (c.or_ends-self.ensures c.args.buffer.now ∙ ap (or_ends c.is_err-failed.result) (c.gathers_next.ensures c.args.buffer.now))
    (ap (λ (p : KeptProgress). progress_of p c.args.buffer.now) c.requires.progress)
    (c.unit_block-block.ensures c.args.buffer.now) c.bytes-bytes.ensures.held c.block_count.ensures c.store_place-at.ensures
    (done_where c.write_at.result c.is_err-failed.result
    (WritesRange (g.D.Store.content c.args.store.now) (g.D.Store.content c.write_at.new.self) c.store_place-at.result c.bytes-bytes.result.now)
    c.is_err-failed.ensures.value c.write_at.ensures.told) c.write_at.ensures.outside

pub returns-clause-store : goal.returns-clause-store
returns-clause-store g c = record {
  calls = c.write_at.ensures.calls;
  flushes = c.write_at.ensures.flushes;
  writes = c.write_at.ensures.writes;
  faults = subst (λ (failed : Bool). FaultsAfter failed (g.D.Store.faults c.args.store.now) (g.D.Store.faults c.write_at.new.self)) (sym c.is_err-failed.ensures.value)
      c.write_at.ensures.faults;
}

pub returns-clause-within : goal.returns-clause-within
returns-clause-within g c =
    let held : length c.bytes-bytes.result.now ≡ min 8192 ((disk_desc_of c.args.self.now.descriptor).size - 8192 * c.args.unit) =
    ap (λ (xs : List ℕ). length xs) c.bytes-bytes.ensures.held ∙ c.requires.held in
    unit_within c.args.region.blocks c.args.unit (disk_desc_of c.args.self.now.descriptor).offset (disk_desc_of c.args.self.now.descriptor).size (length c.bytes-bytes.result.now)
    c.requires.unit.unit_in c.requires.unit.within held c.unit_block-block.result c.block_count.result (c.unit_block-block.ensures []) c.block_count.ensures
