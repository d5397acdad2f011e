use Rattle.std.proofs.Common.{ℕ, ◌*◌, List, length, arith, ◌∙◌, ap}
use Rattle.vio_bytes.specs.Place.{put_at}
use Rattle.vnet_msg.specs.declared.desc.NetDesc.{NetDesc}
use Rattle.vnet_msg.specs.Descriptor.{canonical}
use Rattle.vnet_msg.specs.Frames.{frame_buffer, frame_desc}
use Rattle.port_frames.proofs.publishing.put_frame.Goals as goal

pub put_buffer-requires-clause-room : goal.put_buffer-requires-clause-room
put_buffer-requires-clause-room c = omega (arith, c.buffer_place.ensures, c.requires.slot, c.requires.room)

pub returns-clause-written : goal.returns-clause-written
returns-clause-written c =
    c.publish.ensures.written
    ∙ ap (λ (bytes : List ℕ). put_at (64 * c.args.slot) bytes c.put_buffer.new.memory)
    (c.encode.ensures.written ∙ ap (λ (desc : NetDesc). canonical desc) c.frame_desc.ensures)
    ∙ ap (λ (memory : List ℕ). put_at (64 * c.args.slot) (canonical (frame_desc c.args.slot (length c.args.frame.now))) memory)
    (c.put_buffer.ensures.written
    ∙ ap (λ (place : ℕ). put_at place (frame_buffer c.args.frame.now) c.args.memory.now) c.buffer_place.ensures)
