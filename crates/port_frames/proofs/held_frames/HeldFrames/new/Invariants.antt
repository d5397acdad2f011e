use Rattle.std.proofs.Common.{◌≡◌, vec_capacity, vec_len}
use Rattle.port_frames.proofs.held_frames.HeldFrames.new.Given as goal

abbrev pub invariant-loop : goal.invariant-loop
invariant-loop l = record { made : vec_len l.spare ≡ l.counter; room : vec_capacity l.spare ≡ l.room }
