-- A count that stops at its last value.
use Rattle.std.proofs.Common.{◌≡◌, ℕ, zero, suc, refl, ap}
use Rattle.vio_io.specs.Causes.{count_after, next_count}

-- one more before n others is one more after them
pub one_before : (n count : ℕ) → count_after n (next_count count) ≡ next_count (count_after n count)
one_before zero count = refl
one_before (suc n) count = ap next_count (one_before n count)
