use Rattle.std.proofs.Common.{refl}
use Rattle.byteorder.specs.Endian.{big_bytes}
use Rattle.vio_bytes.proofs.Putting.{put_front}
use Rattle.vio_bytes.proofs.place.put_u16.Goals as goal

pub returns : goal.returns
returns c = put_front c.args.at 2 c.args.bytes.now (big_bytes 2 c.args.value) c.write_u16.new.buf refl c.requires c.write_u16.ensures
