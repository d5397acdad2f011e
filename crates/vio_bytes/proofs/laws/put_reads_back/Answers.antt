use Rattle.std.proofs.Common.{arith}
use Rattle.byteorder.specs.Endian.{big_bytes}
use Rattle.byteorder.specs.Numbers.{length-bytes_high_first}
use Rattle.vio_bytes.proofs.Putting.{length-put_at, number_at-put_at, number_at-put_at_outside, slice_index-put_at_outside}
use Rattle.vio_bytes.proofs.laws.put_reads_back.Goals as goal

pub returns-clause-same_length : goal.returns-clause-same_length
returns-clause-same_length c = λ width at value bytes room.
    length-put_at at (big_bytes width value) bytes (omega (arith, length-bytes_high_first width value))

pub returns-clause-reads_back : goal.returns-clause-reads_back
returns-clause-reads_back c = number_at-put_at

pub returns-clause-other_numbers_stay : goal.returns-clause-other_numbers_stay
returns-clause-other_numbers_stay c = number_at-put_at_outside

pub returns-clause-other_bytes_stay : goal.returns-clause-other_bytes_stay
returns-clause-other_bytes_stay c = slice_index-put_at_outside
