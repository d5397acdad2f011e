-- The powers of two up to 256, told by their one bit.
use Rattle.std.proofs.Common.{◌≡◌, ℕ, ◌^◌, ◌<◌, ◌≤◌, inl, inr, zero, suc, Bool, true, false, ◌&&◌, ◌||◌, not, cond, eqb, refl, subst, arith}
use Rattle.std.proofs.lemmas.Bool.{and_parts, cases_lt, eqb-true}
use Rattle.std.specs.Int.RustNames.{count_ones}
use Rattle.std.specs.Int.{is_power_of_two}
use Rattle.vio_bytes.specs.Powers.{IsPowerOfTwo}

-- the power that a number is
abbrev power_of : ℕ → ℕ
power_of n =
    cond (eqb n 1) 0 (cond (eqb n 2) 1 (cond (eqb n 4) 2 (cond (eqb n 8) 3 (cond (eqb n 16) 4
    (cond (eqb n 32) 5 (cond (eqb n 64) 6 (cond (eqb n 128) 7 8)))))))

-- a number with one bit is that power
abbrev is_its_power : ℕ → Bool
is_its_power n = not (is_power_of_two n) || eqb n (2 ^ power_of n)

abbrev all_are : ℕ → Bool
all_are zero = true
all_are (suc n) = is_its_power n && all_are n

all_up_to_256 : all_are 257 ≡ true
unfolding count_ones
all_up_to_256 = refl

all_are-at : (n k : ℕ) → all_are n ≡ true → k < n → is_its_power k ≡ true
all_are-at zero k all lt = absurd (omega arith)
all_are-at (suc n) k all lt =
    let parts = and_parts (is_its_power n) (all_are n) all in
    elim (cases_lt k n) [
      | inl below ↦ all_are-at n k parts.1 below
      | inr top ↦
          let same : n ≡ k = omega arith in
          subst (λ (m : ℕ). is_its_power m ≡ true) same parts.0
    ]

second_of : (x y : Bool) → (not x || y) ≡ true → x ≡ true → y ≡ true
second_of true y either is = either
second_of false y either is = let both : false ≡ true = is in cc

pub power_from_bit : (n : ℕ) → n ≤ 256 → is_power_of_two n ≡ true → IsPowerOfTwo n
power_from_bit n le one =
    (power_of n, eqb-true n (2 ^ power_of n) (second_of (is_power_of_two n) (eqb n (2 ^ power_of n)) (all_are-at 257 n all_up_to_256 (omega arith)) one))
