-- Slots are looked at in the order of the ring.
use Rattle.std.proofs.Common.{◌≡◌, ℕ, zero, suc, ◌+◌, ◌<◌, Bool, true, false, Some, None, List, refl, sym, ap, ◌∙◌, arith}
use Rattle.std.specs.Prelude.{◌%◌, ◌==◌, if◌then◌else◌}
use Rattle.std.proofs.lemmas.Bool.{eqb-true}
use Rattle.vio_tag.specs.declared.cause.Cause.{Cause}
use Rattle.vio_tag.specs.declared.cause.Cause.TheVariants as the_cause
use Rattle.lane_models.proofs.Refuting.{none_some, of_some, true_false}
use Rattle.lane_models.specs.NetEndTaking.{first_undone, slot_state}
use Rattle.lane_models.specs.SlotsLooked.{FirstUndone}

-- the first of so many, and those behind it
front : (n : ℕ) → n + 0 ≡ n
front n = omega arith

behind : (n j : ℕ) → n + 1 + j ≡ n + suc j
behind n j = omega arith

pub none_in_order : (slots : ℕ) (memory : List ℕ) (number count i : ℕ) → first_undone slots memory number count ≡ None → i < count → slot_state ((number + i) % slots) memory ≡ 4
none_in_order slots memory number zero i none within = absurd (omega (arith, within))
none_in_order slots memory number (suc count) i none within = by_test (slot_state (number % slots) memory == 4) refl none i within (none_in_order slots memory (number + 1) count)
  where
    by_test : (b : Bool) → (slot_state (number % slots) memory == 4) ≡ b
        → (if b then first_undone slots memory (number + 1) count else Some (the_cause.NotDone (number % slots) (slot_state (number % slots) memory))) ≡ None
        → (i : ℕ) → i < suc count → ((j : ℕ) → first_undone slots memory (number + 1) count ≡ None → j < count → slot_state ((number + 1 + j) % slots) memory ≡ 4)
        → slot_state ((number + i) % slots) memory ≡ 4
    by_test false test is i below rest = none_some _ (sym is)
    by_test true test is zero below rest = grind (arith, front, eqb-true)
    by_test true test is (suc j) below rest =
        ap (λ (n : ℕ). slot_state (n % slots) memory) (sym (behind number j)) ∙ rest j is (omega (arith, below))

pub first_in_order : (slots : ℕ) (memory : List ℕ) (number count : ℕ) (cause : Cause) → first_undone slots memory number count ≡ Some cause → FirstUndone slots memory number count cause
first_in_order slots memory number zero cause is = none_some cause is
first_in_order slots memory number (suc count) cause is = by_test (slot_state (number % slots) memory == 4) refl is (first_in_order slots memory (number + 1) count cause)
  where
    at_front : slot_state ((number + 0) % slots) memory ≡ slot_state (number % slots) memory
    at_front = ap (λ (n : ℕ). slot_state (n % slots) memory) (front number)

    by_test : (b : Bool) → (slot_state (number % slots) memory == 4) ≡ b
        → (if b then first_undone slots memory (number + 1) count else Some (the_cause.NotDone (number % slots) (slot_state (number % slots) memory))) ≡ Some cause
        → (first_undone slots memory (number + 1) count ≡ Some cause → FirstUndone slots memory (number + 1) count cause)
        → FirstUndone slots memory number (suc count) cause
    by_test true test here later =
        let rest = later here in
        let same : number + 1 + rest.place ≡ number + suc rest.place = behind number rest.place in
        record {
          place = suc rest.place;
          named = let below = rest.named in omega (arith, below);
          done = earlier rest.place rest.done;
          undone = λ four. rest.undone (ap (λ (n : ℕ). slot_state (n % slots) memory) same ∙ four);
          cause_is = rest.cause_is ∙ ap (λ (n : ℕ). the_cause.NotDone (n % slots) (slot_state (n % slots) memory)) same;
        }
      where
        earlier : (place : ℕ) → ((j : ℕ) → j < place → slot_state ((number + 1 + j) % slots) memory ≡ 4) → (j : ℕ) → j < suc place → slot_state ((number + j) % slots) memory ≡ 4
        earlier place done zero below = at_front ∙ eqb-true (slot_state (number % slots) memory) 4 test
        earlier place done (suc j) below = ap (λ (n : ℕ). slot_state (n % slots) memory) (sym (behind number j)) ∙ done j (omega (arith, below))
    by_test false test here later = grind (arith, of_some, true_false, front)
