use Rattle.std.proofs.Common.{refl, arith, ◌+◌}
use Rattle.byteorder.specs.Endian.{big_bytes}
use Rattle.map_table.proofs.Putting.{put_both}
use Rattle.map_table.proofs.codec.put_cookie.Goals as goal

pub returns-clause-written : goal.returns-clause-written
returns-clause-written c =
    put_both c.args.at (c.args.at + 8) (big_bytes 8 c.args.cookie.now.address) (big_bytes 8 c.args.cookie.now.size) c.args.bytes.now c.put_u64.new.bytes c.put_u64-2.new.bytes
    c.put_u64.ensures c.put_u64-2.ensures refl (omega arith)
