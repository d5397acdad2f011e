-- Tests of addresses: each holds exactly where its address is of the kind.
use Rattle.std.proofs.Common.{◌≡◌, ℕ, suc, ◌%◌, ◌<◌, Bool, true, false, not, ◌&&◌, List, [], ◌∷◌, length, slice_index, IsTrue, ◌↔◌, refl, sym, ◌∙◌, ap}
use Rattle.std.specs.List.{AllByRecursion}
use Rattle.std.specs.Str.{bytes_eq}
use Rattle.std.proofs.lemmas.Bool.{and_from, and_left, and_parts, eq-eqb, eqb-true, false_from_ne_true}
use Rattle.std.proofs.lemmas.Slice.Eq.{bytes_eq-Decides}
use Rattle.hex.specs.Hex.{IsBytes}
use Rattle.hex.proofs.HexLemmas.{decode_of-ok}
use Rattle.vio_bytes.specs.Ethernet.{broadcast}
use Rattle.script_words.specs.Addresses.{IsAddress, IsGroupAddress, is_group, is_own}
use Rattle.script_words.specs.Words.{SpellsExactly, bytes_of, is_exactly}
use Rattle.script_words.proofs.HexWords.{one_exactly}
use Rattle.script_words.proofs.WordTests.{exactly_spelled, is_exactly_from}

-- BYTES are below 256, and so are those that a word spells
pub all_bytes : (bytes : List ℕ) → IsBytes bytes → AllByRecursion (λ (byte : ℕ). byte < 256) bytes
all_bytes [] small = tt
all_bytes (byte ∷ bytes) small = (small 0, all_bytes bytes (λ k. small (suc k)))

spelled_bytes : (size : ℕ) (word bytes : List ℕ) → SpellsExactly size word bytes → IsBytes bytes
spelled_bytes size word bytes spells = (decode_of-ok word bytes spells.reads).3

-- A PORT'S OWN
pub own_from_test : (address : List ℕ) → length address ≡ 6 → IsBytes address → is_own address ≡ true → IsAddress address
own_from_test address long small is = record { long = long; bytes = all_bytes address small; even = eqb-true (slice_index address 0 % 2) 0 is }

pub own_from_word : (word address : List ℕ) → SpellsExactly 6 word address → is_own address ≡ true → IsAddress address
own_from_word word address spells = own_from_test address spells.long (spelled_bytes 6 word address spells)

pub own_test : (address : List ℕ) → IsAddress address → is_own address ≡ true
own_test address is = eq-eqb (slice_index address 0 % 2) 0 is.even

pub own_tells : (address : List ℕ) → length address ≡ 6 → IsBytes address → IsTrue (is_own address) ↔ IsAddress address
own_tells address long small = (own_from_test address long small, own_test address)

-- A GROUP'S
from_not : (b : Bool) → not b ≡ true → b ≡ false
from_not true is = cc is
from_not false is = refl

pub true_not_false : (b : Bool) → b ≡ true → b ≡ false → ⊥
true_not_false true is other = cc other
true_not_false false is other = cc is

pub group_from_test : (address : List ℕ) → length address ≡ 6 → is_group address ≡ true → IsGroupAddress address
group_from_test address long is =
    let parts = and_parts _ _ is in
    record {
      long = long;
      odd = eqb-true (slice_index address 0 % 2) 1 parts.0;
      not_all = λ same. true_not_false (bytes_eq address broadcast) ((bytes_eq-Decides address broadcast).1 same) (from_not (bytes_eq address broadcast) parts.1);
    }

pub group_test : (address : List ℕ) → IsGroupAddress address → is_group address ≡ true
group_test address is =
    and_from _ _ (eq-eqb (slice_index address 0 % 2) 1 is.odd)
    (ap not (false_from_ne_true (bytes_eq address broadcast) (λ same. is.not_all ((bytes_eq-Decides address broadcast).0 same))))

-- WHAT A CALL SAYS of an address is the test of it
same_test : (said test : Bool) (P : Type 0) → IsTrue said ↔ P → (test ≡ true → P) → (P → test ≡ true) → said ≡ test
same_test true true P tells from_test to_test = refl
same_test false false P tells from_test to_test = refl
same_test true false P tells from_test to_test = sym (to_test (tells.0 refl))
same_test false true P tells from_test to_test = tells.1 (from_test refl)

pub own_told : (word address : List ℕ) → SpellsExactly 6 word address → (said : Bool) → IsTrue said ↔ IsAddress address → not said ≡ not (is_own address)
own_told word address spells said tells = ap not (same_test said (is_own address) (IsAddress address) tells (own_from_word word address spells) (own_test address))

pub group_told : (address : List ℕ) → length address ≡ 6 → (said : Bool) → IsTrue said ↔ IsGroupAddress address → not said ≡ not (is_group address)
group_told address long said tells = ap not (same_test said (is_group address) (IsGroupAddress address) tells (group_from_test address long) (group_test address))

-- A TEST OF THE BYTES that a word of six spells
pub exactly_is : (size : ℕ) (word bytes : List ℕ) → SpellsExactly size word bytes → bytes_of word ≡ bytes
exactly_is size word bytes spells =
    one_exactly size word (bytes_of word) bytes (exactly_spelled size word (is_exactly_from size word bytes spells)) spells

pub tested : (size : ℕ) (word bytes : List ℕ) (test : List ℕ → Bool) → SpellsExactly size word bytes → (is_exactly size word && test (bytes_of word)) ≡ test bytes
tested size word bytes test spells =
    ap (λ (b : Bool). b && test (bytes_of word)) (is_exactly_from size word bytes spells) ∙ ap test (exactly_is size word bytes spells)

pub not_tested : (size : ℕ) (word : List ℕ) (test : Bool) → ((bytes : List ℕ) → SpellsExactly size word bytes → ⊥) → (is_exactly size word && test) ≡ false
not_tested size word test none =
    and_left _ _ (false_from_ne_true (is_exactly size word) (λ is. none (bytes_of word) (exactly_spelled size word is)))
