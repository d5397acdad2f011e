-- The calls of a store behind a cache: one higher by each call, also by one that the inner store is spared.
use Rattle.std.proofs.Common.{◌≡◌, ℕ, zero, suc, ◌<◌, ◌≤◌, sym, ap, ◌∙◌, inl, inr, arith}
use Rattle.std.proofs.lemmas.Bool.{cases_lt}
use Rattle.vio_io.specs.Causes.{count_after, last_count, next_count}

at_least : (n calls : ℕ) → n ≤ last_count → n ≤ count_after n calls
at_least zero calls few = omega arith
at_least (suc n) calls few =
    let before : n ≤ count_after n calls = at_least n calls (omega (arith, few)) in
    omega (arith, before, few)

stands : (n calls : ℕ) → n ≡ last_count → next_count (count_after n calls) ≡ count_after n calls
stands zero calls is = absurd (omega (arith, is))
stands (suc n) calls is =
    let many : suc n ≤ count_after (suc n) calls = at_least (suc n) calls (omega (arith, is)) in
    omega (arith, many, is)

pub spared_more : (spared calls : ℕ) → spared ≤ last_count → count_after (next_count spared) calls ≡ next_count (count_after spared calls)
spared_more spared calls few = elim (cases_lt spared last_count) [
  | inl less ↦ let next : next_count spared ≡ suc spared = omega (arith, less) in ap (λ (n : ℕ). count_after n calls) next
  | inr more ↦
      let last : spared ≡ last_count = omega (arith, few, more) in
      let next : next_count spared ≡ spared = omega (arith, last) in
      ap (λ (n : ℕ). count_after n calls) next ∙ sym (stands spared calls last)
]

-- the inner store was called at most as often, where no count can have stopped
pub asked_at_most : (spared calls : ℕ) → count_after spared calls < last_count → calls ≤ count_after spared calls
asked_at_most zero calls few = omega arith
asked_at_most (suc n) calls few =
    let less : count_after n calls < last_count = omega (arith, few) in
    let before : calls ≤ count_after n calls = asked_at_most n calls less in
    omega (arith, before, less)
