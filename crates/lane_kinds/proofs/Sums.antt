-- Numbers that fall where not both of two tests hold, and their sums.
use Rattle.std.proofs.Common.{◌≡◌, ℕ, ◌+◌, Bool, true, false, refl, arith}
use Rattle.std.specs.Prelude.{◌&&◌, ◌||◌}
use Rattle.lane_kinds.specs.Laws.{Lowers, LowersUnless}

pub and_left : (a b : Bool) → (a && b) ≡ true → a ≡ true
and_left true b is = refl
and_left false b is = is

pub and_right : (a b : Bool) → (a && b) ≡ true → b ≡ true
and_right true b is = is
and_right false b is = absurd (cc is)

pub both_true : (a b : Bool) → a ≡ true → b ≡ true → (a && b) ≡ true
both_true true b one two = two
both_true false b one two = one

pub or_left : (a b : Bool) → (a || b) ≡ false → a ≡ false
or_left true b is = is
or_left false b is = refl

pub or_right : (a b : Bool) → (a || b) ≡ false → b ≡ false
or_right true b is = absurd (cc is)
or_right false b is = is

pub both_lower : (one two : Bool) (a b c d : ℕ) → Lowers one a b → Lowers two c d → Lowers (one && two) (a + c) (b + d)
both_lower one two a b c d first second = grind (arith, both_true)

pub both_unless : (one two : Bool) (a b c d : ℕ) → LowersUnless one a b → LowersUnless two c d → LowersUnless (one || two) (a + c) (b + d)
both_unless one two a b c d first second = grind arith
