use Rattle.std.proofs.Common.{ap}
use Rattle.descriptor_work.specs.declared.work.Progress.{Progress as KeptProgress}
use Rattle.descriptor_work.specs.Calling.{reach_over}
use Rattle.descriptor_work.specs.Fields.{progress_of, work_with}
use Rattle.descriptor_work.proofs.PieceSteps.{piece_gathered, piece_not_gathered}
use Rattle.descriptor_work.proofs.work.Work.gather_unit.Goals as goal

pub returns-in-Ok : goal.returns-in-Ok
returns-in-Ok c = record {
  piece = piece_gathered (work_with c.args.self.now c.args.buffer.now) c.args.unit c.unit_size-size.result c.copy_in.new.self c.cookies.result.now
      (reach_over c.args.channel.now c.args.table.now c.args.memory.now) (ap (λ (p : KeptProgress). progress_of p c.args.buffer.now) c.requires.progress)
      (c.cookies.ensures c.args.buffer.now) (c.unit_size-size.ensures.length c.args.buffer.now) c.in-Ok.ensures.fault c.in-Ok.ensures.moved;
}

pub returns-in-Err : goal.returns-in-Err
returns-in-Err c = record {
  piece = piece_not_gathered (work_with c.args.self.now c.args.buffer.now) c.args.unit c.unit_size-size.result c.cookies.result.now
      (reach_over c.args.channel.now c.args.table.now c.args.memory.now) c.in-Err.fault
      (ap (λ (p : KeptProgress). progress_of p c.args.buffer.now) c.requires.progress)
      (c.cookies.ensures c.args.buffer.now) (c.unit_size-size.ensures.length c.args.buffer.now) c.in-Err.ensures.fault;
}
