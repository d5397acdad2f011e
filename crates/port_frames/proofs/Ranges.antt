-- The slots of an acknowledgement, one after another.
use Rattle.std.proofs.Common.{◌≡◌, ◌≢◌, ℕ, suc, ◌+◌, ◌-◌, ◌*◌, ◌%◌, ◌<◌, Bool, false, List, [], ◌∷◌, Some, sym, ◌∙◌, ap, arith}
use Rattle.std.specs.Prelude.{◌==◌, if◌then◌else◌}
use Rattle.std.proofs.lemmas.Bool.Decides.{nat_tests}
use Rattle.dring.specs.Slots.{free_state}
use Rattle.vio_bytes.specs.Place.{put_at}
use Rattle.vio_tag.specs.declared.cause.Cause.TheVariants as the_cause
use Rattle.lane_models.specs.NetEndTaking.{first_undone, freed, slot_state}

-- the slot of a number, where number 0 has the first
pub slot_at : (slot number slots : ℕ) → slot ≡ (number - 0) % slots → slot ≡ number % slots
slot_at slot number slots is = let same : number - 0 ≡ number = omega arith in is ∙ ap (λ (k : ℕ). k % slots) same

next_count : (count index : ℕ) → index < count → count - index ≡ suc (count - (index + 1))
next_count count index more = omega (arith, more)

next_number : (number index : ℕ) → number + index + 1 ≡ number + (index + 1)
next_number number index = omega arith

module _ (slots : ℕ) (memory : List ℕ) (number count index : ℕ) (more : index < count) where
  undone_as : first_undone slots memory (number + index) (count - index) ≡ first_undone slots memory (number + index) (suc (count - (index + 1)))
  undone_as = ap (λ (n : ℕ). first_undone slots memory (number + index) n) (next_count count index more)

  pub undone_more : slot_state ((number + index) % slots) memory ≡ 4
      → first_undone slots memory (number + index) (count - index) ≡ first_undone slots memory (number + (index + 1)) (count - (index + 1))
  undone_more is =
      undone_as
      ∙ ap (λ (state : ℕ). if state == 4 then first_undone slots memory (number + index + 1) (count - (index + 1))
      else Some (the_cause.NotDone ((number + index) % slots) (slot_state ((number + index) % slots) memory))) is
      ∙ ap (λ (n : ℕ). first_undone slots memory n (count - (index + 1))) (next_number number index)

  not_four : (state : ℕ) → state ≢ 4 → (state == 4) ≡ false
  not_four state other = grind (arith, nat_tests, other)

  pub undone_here : (slot state : ℕ) → slot ≡ (number + index) % slots → state ≡ slot_state ((number + index) % slots) memory → state ≢ 4
      → first_undone slots memory (number + index) (count - index) ≡ Some (the_cause.NotDone slot state)
  undone_here slot state slot_is is other =
      undone_as
      ∙ ap (λ (b : Bool). if b then first_undone slots memory (number + index + 1) (count - (index + 1))
      else Some (the_cause.NotDone ((number + index) % slots) (slot_state ((number + index) % slots) memory)))
      (not_four (slot_state ((number + index) % slots) memory) (λ four. other (is ∙ four)))
      ∙ ap (λ (at : ℕ). Some (the_cause.NotDone at (slot_state ((number + index) % slots) memory))) (sym slot_is)
      ∙ ap (λ (n : ℕ). Some (the_cause.NotDone slot n)) (sym is)

pub freed_more : (slots : ℕ) (memory new : List ℕ) (number count index slot : ℕ) → index < count → slot ≡ (number + index) % slots
    → new ≡ put_at (64 * slot) (free_state ∷ []) memory
    → freed slots (number + index) (count - index) memory ≡ freed slots (number + (index + 1)) (count - (index + 1)) new
freed_more slots memory new number count index slot more slot_is is =
    ap (λ (n : ℕ). freed slots (number + index) n memory) (next_count count index more)
    ∙ ap (λ (at : ℕ). freed slots (number + index + 1) (count - (index + 1)) (put_at (64 * at) (free_state ∷ []) memory)) (sym slot_is)
    ∙ ap (λ (m : List ℕ). freed slots (number + index + 1) (count - (index + 1)) m) (sym is)
    ∙ ap (λ (n : ℕ). freed slots n (count - (index + 1)) new) (next_number number index)
