use Rattle.std.proofs.Common.{◌≡◌}
use Rattle.port_frames.specs.FrameQueue.{without_front}
use Rattle.port_frames.proofs.held_frames.HeldFrames.drop_front.Given as goal

abbrev pub invariant-loop : goal.invariant-loop
invariant-loop l = l.self ≡ without_front l.counter l.fn.self
