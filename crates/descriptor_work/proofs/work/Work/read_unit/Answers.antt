use Rattle.std.proofs.Common.{◌≡◌, ℕ, ◌+◌, ◌*◌, ◌≤◌, [], length, Bool, ap, ◌∙◌, sym, subst}
use Rattle.vdisk_msg.specs.Descriptor.{disk_desc_of}
use Rattle.vio_io.specs.Stores.{ReadsRange}
use Rattle.descriptor_work.specs.Calling.{CalledOnce}
use Rattle.descriptor_work.specs.declared.work.Progress.{Progress as KeptProgress}
use Rattle.descriptor_work.specs.Fields.{progress_of, work_with}
use Rattle.descriptor_work.proofs.PieceSteps.{done_where, piece_read, unit_place, unit_range, unit_within}
use Rattle.descriptor_work.proofs.work.Work.read_unit.Goals as goal

pub store_place-at-requires : goal.store_place-at-requires
store_place-at-requires g c =
    subst (λ (block : ℕ). 512 * (c.args.region.first + block) ≤ g.D.Store.size c.args.store.now) (sym (c.unit_block-block.ensures []))
    (unit_place c.args.region.blocks c.args.unit (disk_desc_of c.args.self.now.descriptor).offset (disk_desc_of c.args.self.now.descriptor).size c.args.region.first
    (g.D.Store.size c.args.store.now) c.requires.unit.unit_in c.requires.unit.within c.requires.region)

pub read-requires : goal.read-requires
read-requires g c =
    unit_range c.args.region.blocks c.args.unit (disk_desc_of c.args.self.now.descriptor).offset (disk_desc_of c.args.self.now.descriptor).size c.args.region.first
    c.store_place-at.result c.unit_size-size.result (g.D.Store.size c.args.store.now) c.requires.unit.whole c.requires.unit.unit_in c.requires.unit.within
    (c.unit_size-size.ensures.length []) c.requires.region
    (c.store_place-at.ensures ∙ ap (λ (block : ℕ). 512 * (c.args.region.first + block)) (c.unit_block-block.ensures []))

pub returns-clause-piece : goal.returns-clause-piece
returns-clause-piece g c =
    piece_read c.is_err-failed.result c.args.region.first c.args.unit c.unit_block-block.result c.unit_size-size.result c.block_count.result c.store_place-at.result
    (progress_of c.or_ends-self.result c.read.new.self) (work_with c.args.self.now c.args.buffer.now) (g.D.Store.content c.args.store.now) (g.D.Store.content c.read.new.store) c.read.new.self
    (c.or_ends-self.ensures c.read.new.self) (ap (λ (p : KeptProgress). progress_of p c.args.buffer.now) c.requires.progress) (c.unit_block-block.ensures c.args.buffer.now)
    (c.unit_size-size.ensures.length c.args.buffer.now) c.block_count.ensures c.store_place-at.ensures
    (done_where c.read.result c.is_err-failed.result (length c.read.new.self ≡ c.unit_size-size.result) c.is_err-failed.ensures.value c.read.ensures.held)
    (done_where c.read.result c.is_err-failed.result (ReadsRange (g.D.Store.content c.args.store.now) c.store_place-at.result c.read.new.self) c.is_err-failed.ensures.value c.read.ensures.told)
    c.read.ensures.content

pub returns-clause-store : goal.returns-clause-store
returns-clause-store g c =
    subst (λ (failed : Bool). CalledOnce g.D.Store 1 failed c.args.store.now c.read.new.store) (sym c.is_err-failed.ensures.value) c.read.ensures.called

pub returns-clause-within : goal.returns-clause-within
returns-clause-within g c =
    unit_within c.args.region.blocks c.args.unit (disk_desc_of c.args.self.now.descriptor).offset (disk_desc_of c.args.self.now.descriptor).size c.unit_size-size.result
    c.requires.unit.unit_in c.requires.unit.within (c.unit_size-size.ensures.length []) c.unit_block-block.result c.block_count.result (c.unit_block-block.ensures []) c.block_count.ensures
