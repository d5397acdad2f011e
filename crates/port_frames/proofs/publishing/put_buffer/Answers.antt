use Rattle.std.proofs.Common.{◌≡◌, ℕ, ◌-◌, ◌+◌, ◌≤◌, List, length, arith, ◌∙◌, ap}
use Rattle.vio_bytes.specs.Place.{put_at}
use Rattle.vnet_msg.specs.Frames.{moved_size}
use Rattle.port_frames.proofs.Frames.{buffer_written, fewer_zeros}
use Rattle.port_frames.proofs.publishing.put_buffer.Goals as goal

pub returns-clause-written : goal.returns-clause-written
returns-clause-written c =
    let behind : ℕ = c.moved_size.result - (6 + length c.args.frame.now) in
    let few : behind ≤ 8 = omega (arith, c.moved_size.ensures.moved) in
    let same : behind ≡ moved_size (length c.args.frame.now) - (6 + length c.args.frame.now) =
    ap (λ (n : ℕ). n - (6 + length c.args.frame.now)) c.moved_size.ensures.moved in
    buffer_written c.args.place c.args.frame.now c.args.memory.now c.write.new.self c.write-2.new.self c.write-3.new.self
    c.requires.most c.requires.room c.write.ensures.written c.write-2.ensures.written
    (c.write-3.ensures.written
    ∙ ap (λ (piece : List ℕ). put_at (c.args.place + (6 + length c.args.frame.now)) piece c.write-2.new.self)
    (fewer_zeros behind (moved_size (length c.args.frame.now) - (6 + length c.args.frame.now)) few same))
