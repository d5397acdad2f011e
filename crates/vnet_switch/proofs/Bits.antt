-- Sets of ports as numbers.
use Rattle.std.proofs.Common.{◌≡◌, ◌≢◌, ◌⊎◌, ◌↔◌, ℕ, zero, suc, ◌+◌, ◌*◌, ◌%◌, ◌^◌, ◌<◌, Bool, true, false, IsTrue, IsBitSet, bit_and, bit_or, ◌==◌, ◌/◌, eq-eqb, eqb-true, inl, inr, arith, sym, subst, ◌∙◌, refl}
use Rattle.std.proofs.lemmas.Bool.{cases_eq, false≢true}
use Rattle.std.proofs.lemmas.Nat.{bit_set_by_shift}
use Rattle.std.proofs.lemmas.Nat.Bits.{bit_at-zero, bit_at_set_other, bit_at_set_same, shr_and_one}
use Rattle.std.specs.Int.{bit_at, w32}
use Rattle.vnet_switch.specs.PortSet.{IsSetOf, WithPort, WithPortIf}

pub set_from : (n k : ℕ) → bit_at n k ≡ 1 → IsBitSet n k
set_from n k is = (bit_set_by_shift n k).0 (shr_and_one n k ∙ is)

pub set_means : (n k : ℕ) → IsBitSet n k → bit_at n k ≡ 1
set_means n k in_set = sym (shr_and_one n k) ∙ (bit_set_by_shift n k).1 in_set

-- a port is in a set or not
pub set_or_not : (n k : ℕ) → IsBitSet n k ⊎ ¬ (IsBitSet n k)
set_or_not n k = elim (cases_eq (bit_at n k) 1) [
  | inl is ↦ inl (set_from n k is)
  | inr other ↦ inr (λ in_set. other (set_means n k in_set))
]

pub nothing_in_zero : (k : ℕ) → ¬ (IsBitSet 0 k)
nothing_in_zero k in_set = absurd (omega (arith, bit_at-zero k, set_means 0 k in_set))

some_in : (n k : ℕ) → IsBitSet n k → 0 < n
some_in zero k in_set = absurd (nothing_in_zero k in_set)
some_in (suc n) k in_set = omega arith

-- `set | 1 << port`
pub or_port : (set port new : ℕ) → port < 32 → new ≡ bit_or set (1 * 2 ^ port % 2 ^ 32) → WithPort set port new
or_port set port new within is =
    let it : IsBitSet new port = set_from new port (subst (λ (n : ℕ). bit_at n port ≡ 1) (sym is)
    (bit_at_set_same w32 set port within)) in
    let same : (k : ℕ) → k ≢ port → bit_at new k ≡ bit_at set k =
    λ k other. subst (λ (n : ℕ). bit_at n k ≡ bit_at set k) (sym is) (bit_at_set_other w32 set port within k other) in
    record {
      it = it;
      others = λ k other. (
        λ in_new. set_from set k (sym (same k other) ∙ set_means new k in_new),
        λ in_old. set_from new k (same k other ∙ set_means set k in_old),
      );
      some = some_in new port it;
    }

-- one more port was looked at, and belongs to the set or not
pub below_more : (P : ℕ → Type 0) (limit old new : ℕ) (belongs : Bool) → (IsTrue belongs ↔ P limit)
    → IsSetOf old (λ k. (k < limit) × P k) → WithPortIf belongs old limit new
    → IsSetOf new (λ k. (k < limit + 1) × P k)
below_more P limit old new true means so_far step = λ k. elim (cases_eq k limit) [
  | inl at ↦ (
    λ _. (omega (arith, at), subst P (sym at) (means.0 refl)),
    λ _. subst (λ (n : ℕ). IsBitSet new n) (sym at) step.it,
  )
  | inr other ↦ (
    λ in_new. let before : (k < limit) × P k = (so_far k).0 ((step.others k other).0 in_new) in
        (omega (arith, before.0), before.1),
    λ below. (step.others k other).1 ((so_far k).1 (omega (arith, below.0, other), below.1)),
  )
]
below_more P limit old new false means so_far step = λ k. (
  λ in_new. let before : (k < limit) × P k = (so_far k).0 (subst (λ (n : ℕ). IsBitSet n k) step in_new) in
      (omega (arith, before.0), before.1),
  λ below. elim (cases_eq k limit) [
    | inl at ↦ absurd (false≢true (means.1 (subst P at below.1)))
    | inr other ↦ subst (λ (n : ℕ). IsBitSet n k) (sym step) ((so_far k).1 (omega (arith, below.0, other), below.1))
  ],
)

-- no port was looked at yet
pub below_none : (P : ℕ → Type 0) → IsSetOf 0 (λ k. (k < 0) × P k)
below_none P = λ k. (λ in_set. absurd (nothing_in_zero k in_set), λ below. absurd (omega (arith, below.0)))

-- `set >> port & 1 == 1`
pub shifted : (set port : ℕ) → IsTrue (bit_and (set / 2 ^ port) 1 == 1) ↔ IsBitSet set port
shifted set port = (
  λ is. (bit_set_by_shift set port).0 (eqb-true (bit_and (set / 2 ^ port) 1) 1 is),
  λ in_set. eq-eqb (bit_and (set / 2 ^ port) 1) 1 ((bit_set_by_shift set port).1 in_set),
)
