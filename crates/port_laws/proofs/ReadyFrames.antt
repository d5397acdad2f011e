-- No more slots of a ring that holds its frames are READY than frames are published and not taken.
use Rattle.std.proofs.Common.{◌≡◌, ◌≢◌, ℕ, zero, suc, ◌+◌, ◌-◌, ◌%◌, ◌<◌, ◌≤◌, ◌⊎◌, inl, inr, Bool, true, false, List, refl, sym, ap, ◌∙◌, arith}
use Rattle.std.specs.Prelude.{◌==◌, if◌then◌else◌}
use Rattle.std.proofs.Math.Nat.{add-mod_right, mod-eq_of_lt}
use Rattle.std.proofs.lemmas.Bool.{cases_lt, cases_order, eqb-true}
use Rattle.std.proofs.lemmas.Bool.Decides.{nat_tests}
use Rattle.dring.specs.Slots.{ready_state}
use Rattle.lane_models.proofs.Refuting.{false_true}
use Rattle.lane_models.specs.NetEndTaking.{slot_state}
use Rattle.port_laws.specs.NetCore.{one_if}
use Rattle.port_laws.specs.Remaining.{ready_slots}
use Rattle.port_laws.specs.RingHolds.{RingHolds}
use Rattle.port_laws.proofs.RingMoves.{held_state, some_frame}
use Rattle.port_laws.proofs.EndMoves.{one_most}

-- SO MANY of the first numbers are marked
marked : ℕ → (ℕ → Bool) → ℕ
marked zero f = 0
marked (suc n) f = marked n f + one_if (f n)

abbrev without : ℕ → (ℕ → Bool) → ℕ → Bool
without k f i = if i == k then false else f i

apart : (i k : ℕ) → i ≢ k → (i == k) ≡ false
apart i k other = grind (arith, nat_tests, other)

without_same : (k i : ℕ) (f : ℕ → Bool) → i ≢ k → without k f i ≡ f i
without_same k i f other = ap (λ (b : Bool). if b then false else f i) (apart i k other)

below_same : (k n : ℕ) (f : ℕ → Bool) → n ≤ k → marked n (without k f) ≡ marked n f
unfolding marked
below_same k zero f within = refl
below_same k (suc n) f within =
    let other : n ≢ k = λ same. absurd (omega (arith, same, within)) in
    omega (arith, below_same k n f (omega (arith, within)), ap one_if (without_same k n f other))

one_less : (k n : ℕ) (f : ℕ → Bool) → marked n f ≤ marked n (without k f) + 1
unfolding marked
one_less k zero f = omega arith
one_less k (suc n) f =
    elim (cases_order n k) [
      | inl same ↦ omega (arith, below_same k n f (omega (arith, same)), one_most (f n))
      | inr other ↦ omega (arith, one_less k n f, ap one_if (without_same k n f (λ same. not_both same other)))
    ]
  where
    not_both : n ≡ k → (n < k) ⊎ (k < n) → ⊥
    not_both same given = grind arith

-- where each that is marked is one of so many numbers in turn
abbrev Named : (n from count : ℕ) → (ℕ → Bool) → Type 0
Named n from count f = (i : ℕ) → i < n → f i ≡ true → (j : ℕ) × (from ≤ j) × (j < from + count) × (j % n ≡ i)

none_marked : (n : ℕ) (f : ℕ → Bool) → ((i : ℕ) → i < n → f i ≡ false) → marked n f ≡ 0
unfolding marked
none_marked zero f none = refl
none_marked (suc n) f none = omega (arith, none_marked n f (λ i below. none i (omega (arith, below))), ap one_if (none n (omega arith)))

pub by_value : (b : Bool) → (b ≡ true → ⊥) → b ≡ false
by_value b never = grind arith

was_marked : (k i : ℕ) (f : ℕ → Bool) (b : Bool) → (i == k) ≡ b → (if b then false else f i) ≡ true → (f i ≡ true) × (i ≢ k)
was_marked k i f b test now = grind (arith, false_true, nat_tests)

past : (j from : ℕ) → from ≤ j → (j < from) ⊎ (from < j) → from + 1 ≤ j
past j from first given = grind arith

few_marked : (n from count : ℕ) (f : ℕ → Bool) → Named n from count f → marked n f ≤ count
few_marked n from zero f named = omega (arith, none_marked n f (λ i below. by_value (f i) (λ now. let j = named i below now in absurd (omega (arith, j.1, j.2)))))
few_marked n from (suc count) f named =
    omega (arith, one_less (from % n) n f, few_marked n (from + 1) count (without (from % n) f) (λ i below now. rest i below (was_marked (from % n) i f (i == from % n) refl now)))
  where
    rest : (i : ℕ) → i < n → (f i ≡ true) × (i ≢ from % n) → (j : ℕ) × (from + 1 ≤ j) × (j < from + 1 + count) × (j % n ≡ i)
    rest i below was = grind (arith, cases_order, past)

-- ONE TURN names each slot
turn_names : (n seen i : ℕ) → i < n → (j : ℕ) × (seen ≤ j) × (j < seen + n) × (j % n ≡ i)
turn_names n zero i below = (i, omega arith, omega (arith, below), mod-eq_of_lt below)
turn_names n (suc seen) i below =
    let j = turn_names n seen i below in
    elim (cases_order j.0 seen) [
      | inl same ↦ (seen + n, omega (arith, below), omega arith, add-mod_right seen n ∙ sym (ap (λ (m : ℕ). m % n) same) ∙ j.3)
      | inr other ↦ (j.0, omega (arith, past j.0 seen j.1 other), omega (arith, j.2), j.3)
    ]

-- THE RING
abbrev is_ready : List ℕ → ℕ → Bool
is_ready memory slot = slot_state slot memory == ready_state

ready_marked : (n : ℕ) (memory : List ℕ) → ready_slots n memory ≡ marked n (is_ready memory)
unfolding marked
ready_marked zero memory = refl
ready_marked (suc n) memory = omega (arith, ready_marked n memory)

pub ready_most : (slots seen taken published : ℕ) (frames : List (List ℕ)) (memory : List ℕ) → RingHolds slots seen taken published frames memory → ready_slots slots memory ≤ published - taken
ready_most slots seen taken published frames memory ring = omega (arith, ready_marked slots memory, few_marked slots taken (published - taken) (is_ready memory) named)
  where
    one : (i j : ℕ) → seen ≤ j → j < seen + slots → j % slots ≡ i → is_ready memory i ≡ true → (taken ≤ j) × (j < published)
    one i j since before at now = by_order (cases_lt j taken) (cases_lt j published)
      where
        state : slot_state (j % slots) memory ≡ 2
        state = ap (λ (n : ℕ). slot_state n memory) at ∙ eqb-true (slot_state i memory) ready_state now

        by_order : (j < taken) ⊎ (taken ≤ j) → (j < published) ⊎ (published ≤ j) → (taken ≤ j) × (j < published)
        by_order (inr from) (inl under) = (from, under)
        by_order (inl less) order =
            let there = some_frame frames (j - seen) (omega (arith, less, ring.taken_first, ring.held, since)) in
            let done = held_state memory (j % slots) 4 there.0 ((ring.each j since before).done less there.0 there.1) in
            absurd (omega (arith, done, state))
        by_order (inr from) (inr behind) = let free = (ring.each j since before).free behind in absurd (omega (arith, free, state))

    named : (i : ℕ) → i < slots → is_ready memory i ≡ true → (j : ℕ) × (taken ≤ j) × (j < taken + (published - taken)) × (j % slots ≡ i)
    named i below now =
        let j = turn_names slots seen i below in
        let both = one i j.0 j.1 j.2 j.3 now in (j.0, both.0, omega (arith, both.0, both.1), j.3)
