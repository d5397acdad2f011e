use Rattle.std.proofs.Common.{refl}
use Rattle.byteorder.specs.Endian.{big_bytes}
use Rattle.vio_bytes.proofs.Putting.{put_front}
use Rattle.vio_bytes.proofs.place.put_u32.Goals as goal

pub returns : goal.returns
returns c = put_front c.args.at 4 c.args.bytes.now (big_bytes 4 c.args.value) c.write_u32.new.buf refl c.requires c.write_u32.ensures
