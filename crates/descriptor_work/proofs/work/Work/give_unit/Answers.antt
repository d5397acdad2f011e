use Rattle.std.proofs.Common.{ap}
use Rattle.descriptor_work.specs.declared.work.Progress.{Progress as KeptProgress}
use Rattle.descriptor_work.specs.Calling.{reach_over}
use Rattle.descriptor_work.specs.Fields.{progress_of, work_with}
use Rattle.descriptor_work.proofs.PieceSteps.{piece_given, piece_not_given}
use Rattle.descriptor_work.proofs.work.Work.give_unit.Goals as goal

pub returns-in-Ok-clause-piece : goal.returns-in-Ok-clause-piece
returns-in-Ok-clause-piece c =
    piece_given (work_with c.args.self.now c.args.buffer.now) c.args.unit c.args.buffer.now c.bytes.result.now c.copy_out.new.memory c.cookies.result.now
    (reach_over c.args.channel.now c.args.table.now c.args.memory.now) (progress_of c.reads_next-self.result c.args.buffer.now)
    (ap (λ (p : KeptProgress). progress_of p c.args.buffer.now) c.requires.progress) (c.cookies.ensures c.args.buffer.now) c.bytes.ensures.held
    (c.reads_next-self.ensures c.args.buffer.now) c.in-Ok.ensures.fault c.in-Ok.ensures.moved

pub returns-in-Err-clause-piece : goal.returns-in-Err-clause-piece
returns-in-Err-clause-piece c =
    piece_not_given (work_with c.args.self.now c.args.buffer.now) c.args.unit c.args.buffer.now c.bytes.result.now c.copy_out.new.memory c.cookies.result.now
    (reach_over c.args.channel.now c.args.table.now c.args.memory.now) c.in-Err.fault
    (ap (λ (p : KeptProgress). progress_of p c.args.buffer.now) c.requires.progress) (c.cookies.ensures c.args.buffer.now) c.bytes.ensures.held
    c.in-Err.ensures.fault c.in-Err.ensures.moved
