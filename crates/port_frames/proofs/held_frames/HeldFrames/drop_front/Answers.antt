use Rattle.std.proofs.Common.{◌∙◌, ap}
use Rattle.port_frames.specs.FrameQueue.{without_front}
use Rattle.port_frames.proofs.Held.{one_more}
use Rattle.port_frames.proofs.held_frames.HeldFrames.drop_front.Goals as goal

pub loop-preserved : goal.loop-preserved
loop-preserved c = c.drop_first.ensures ∙ ap (without_front 1) c.loop.invariant ∙ one_more c.loop.counter c.args.self.now
