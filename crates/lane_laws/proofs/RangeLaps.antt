-- The length of a range around the ring, between two numbers of one turn.
use Rattle.std.proofs.Common.{◌≡◌, ℕ, ◌+◌, ◌-◌, ◌*◌, ◌/◌, ◌%◌, ◌<◌, ◌≤◌, inl, inr, sym, ap, ◌∙◌, arith}
use Rattle.std.proofs.lemmas.Bool.{cases_lt}
use Rattle.std.proofs.lemmas.Nat.{mod_below}
use Rattle.std.proofs.Math.Nat.{add-mod-mod, add-mul-mod_self_right, mod-add-div', mod-mod}
use Rattle.dring.proofs.Laps.{one_lap}
use Rattle.dring.specs.Slots.{range_length}

-- what leads from the slot of one number to that of another leads from the one to the other
leads : (n a b : ℕ) → 1 ≤ n → (a + (b % n + n - a % n % n) % n) % n ≡ b % n
leads n a b some =
    let r : a % n < n = mod_below a n some in
    let twice : a % n % n ≡ a % n = mod-mod a n in
    let of_a = mod-add-div' a n in
    let whole : a + (b % n + n - a % n % n) ≡ b % n + (a / n + 1) * n = omega (arith, r, twice, of_a) in
    add-mod-mod a (b % n + n - a % n % n) n ∙ ap (λ (x : ℕ). x % n) whole ∙ add-mul-mod_self_right (b % n) (a / n + 1) n ∙ mod-mod b n

pub range_turns : (n a p : ℕ) → a < p → p ≤ a + n → range_length n (a % n) ((p - 1) % n) ≡ p - a
range_turns n a p some most =
    let x = ((p - 1) % n + n - a % n % n) % n in
    let less : x < n = mod_below ((p - 1) % n + n - a % n % n) n (omega (arith, some, most)) in
    let same : (a + x) % n ≡ (p - 1) % n = leads n a (p - 1) (omega (arith, some, most)) in
    elim (cases_lt (p - 1) (a + x)) [
      | inl past ↦ let equal : p - 1 ≡ a + x = one_lap n (p - 1) (a + x) (omega (arith, past)) (omega (arith, less, some)) (sym same) in omega (arith, equal, some)
      | inr before ↦ let equal : a + x ≡ p - 1 = one_lap n (a + x) (p - 1) (omega (arith, before)) (omega (arith, most, some)) same in omega (arith, equal, some)
    ]
