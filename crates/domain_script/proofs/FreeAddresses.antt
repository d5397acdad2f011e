-- An address among others: it is free exactly where the test finds it with none of them.
use Rattle.std.proofs.Common.{◌≡◌, ℕ, Bool, true, false, not, List, [], ◌∷◌, IsTrue, ◌↔◌, refl, sym}
use Rattle.std.specs.Str.{bytes_eq}
use Rattle.std.proofs.lemmas.Bool.{false_from_ne_true, or_from, or_parts}
use Rattle.std.proofs.lemmas.Slice.Eq.{bytes_eq-Decides}
use Rattle.script_words.specs.Addresses.{is_among}
use Rattle.domain_script.specs.Firsts.{IsNoneOf}
use Rattle.script_words.proofs.AddressTests.{true_not_false}

pub free_from_test : (address : List ℕ) (others : List (List ℕ)) → is_among address others ≡ false → IsNoneOf address others
free_from_test address [] none = tt
free_from_test address (other ∷ others) none =
    let parts = or_parts (bytes_eq other address) (is_among address others) none in (
      λ same. true_not_false (bytes_eq other address) ((bytes_eq-Decides other address).1 same) parts.0,
      free_from_test address others parts.1,
    )

pub free_test : (address : List ℕ) (others : List (List ℕ)) → IsNoneOf address others → is_among address others ≡ false
free_test address [] none = refl
free_test address (other ∷ others) none =
    or_from _ _ (false_from_ne_true (bytes_eq other address) (λ same. none.0 ((bytes_eq-Decides other address).0 same))) (free_test address others none.1)

-- what a call says of an address is the test of it
free_or_not : (said among : Bool) (P : Type 0) → IsTrue said ↔ P → (among ≡ false → P) → (P → among ≡ false) → not said ≡ among
free_or_not true among P tells from_test to_test = sym (to_test (tells.0 refl))
free_or_not false true P tells from_test to_test = refl
free_or_not false false P tells from_test to_test = absurd (true_not_false false (tells.1 (from_test refl)) refl)

pub free_told : (address : List ℕ) (others : List (List ℕ)) (said : Bool) → IsTrue said ↔ IsNoneOf address others → not said ≡ is_among address others
free_told address others said tells =
    free_or_not said (is_among address others) (IsNoneOf address others) tells (free_from_test address others) (free_test address others)
