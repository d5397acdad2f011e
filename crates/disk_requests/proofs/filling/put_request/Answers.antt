use Rattle.std.proofs.Common.{ℕ, ◌*◌, List, ◌∙◌, ap}
use Rattle.vio_bytes.specs.Place.{put_at}
use Rattle.vdisk_msg.specs.Descriptor.{canonical}
use Rattle.vdisk_msg.specs.Requested.{descriptor_of}
use Rattle.lane_models.specs.ClientStep.{filled_buffer}
use Rattle.disk_requests.proofs.filling.put_request.Goals as goal

pub returns-clause-written : goal.returns-clause-written
returns-clause-written c =
    c.publish.ensures.written
    ∙ ap (λ (bytes : List ℕ). put_at (128 * c.args.slot) bytes c.put_data.new.memory) (c.encode.ensures.written ∙ ap canonical c.descriptor_of.ensures)
    ∙ ap (λ (memory : List ℕ). put_at (128 * c.args.slot) (canonical (descriptor_of c.args.id c.args.request.now c.args.slot c.args.slots)) memory)
    (c.put_data.ensures.written ∙ ap (λ (place : ℕ). filled_buffer c.args.request.now place c.args.memory.now) c.buffer_place.ensures)
