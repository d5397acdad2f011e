-- Tests of single words, and what the words spell: each test holds exactly where they do.
use Rattle.std.proofs.Common.{◌≡◌, ℕ, zero, suc, ◌+◌, ◌-◌, ◌*◌, ◌/◌, ◌%◌, ◌^◌, ◌<◌, ◌≤◌, Bool, true, false, ◌&&◌, ◌||◌, not, List, [], ◌∷◌, ◌++◌, length, take, replicate, slice_index, decimal, Option, Some, None, IfNone, IfSome, is_some, Ok, inl, inr, refl, sym, ◌∙◌, ap, subst, arith}
use Rattle.std.specs.Prelude.{◌==◌, nat_le, nat_lt}
use Rattle.std.specs.Char.{is_ascii_digit}
use Rattle.std.specs.List.{list_all}
use Rattle.std.specs.Str.{bytes_eq}
use Rattle.std.specs.Str.Parse.{digits_value}
use Rattle.std.proofs.lemmas.Bool.{agree_below, agree_below_at, and_from, and_parts, eq-eqb, eqb-true, false_from_ne_true, le-leb, leb-true, lt-ltb, ltb-true, or_cases}
use Rattle.std.proofs.lemmas.Fmt.{decimal_is_IsNumeral}
use Rattle.std.proofs.lemmas.List.{drop_at, length-append, length-replicate, length-take-le, take_at}
use Rattle.std.proofs.lemmas.Slice.Eq.{bytes_eq-Decides}
use Rattle.hex.proofs.HexLemmas.{decode_of-encode_lower, decode_of-ok, length-encode_with}
use Rattle.hex.specs.Hex.{IsBytes, decode_of, encode_lower, encode_with, lower_digits}
use Rattle.script_words.specs.declared.spelled.Name.{Name}
use Rattle.script_words.specs.declared.numbers.Bounds.{Bounds}
use Rattle.script_words.specs.declared.numbers.Bounds.TheVariants.{Any, Between, PowerBetween}
use Rattle.script_words.specs.Words.{IsNameWord, IsWithin, SpellsExactly, SpellsFront, SpellsName, SpellsNumber, begins_name, bytes_of, digit_of, in_room, is_exactly, is_front, is_lower_digit, is_name, is_number, is_within, name_of, number_of}
use Rattle.script_words.proofs.SameName.{same_name}

-- NUMBERS
pub number_spelled : (word : List ℕ) → is_number word ≡ true → SpellsNumber word (number_of word)
number_spelled word is =
    let parts = and_parts _ _ is in ((bytes_eq-Decides word (decimal (number_of word))).0 parts.0, ltb-true (number_of word) (2 ^ 64) parts.1)

pub number_is : (word : List ℕ) (n : ℕ) → SpellsNumber word n → number_of word ≡ n
number_is word n spells = ap (λ (l : List ℕ). digits_value 10 l) spells.0 ∙ (decimal_is_IsNumeral n spells.1).1

pub is_number_from : (word : List ℕ) (n : ℕ) → SpellsNumber word n → is_number word ≡ true
is_number_from word n spells =
    let value : number_of word ≡ n = number_is word n spells in
    and_from (bytes_eq word (decimal (number_of word))) (nat_lt (number_of word) (2 ^ 64))
    ((bytes_eq-Decides word (decimal (number_of word))).1 (spells.0 ∙ ap (λ (k : ℕ). decimal k) (sym value)))
    (lt-ltb (number_of word) (2 ^ 64) (subst (λ (k : ℕ). k < 2 ^ 64) (sym value) spells.1))

-- within their bounds
pub within_from_test : (bounds : Bounds) (n : ℕ) → is_within bounds n ≡ true → IsWithin bounds n
within_from_test Any n is = tt
within_from_test (Between least most) n is =
    let parts = and_parts _ _ is in (leb-true least n parts.0, leb-true n most parts.1)
within_from_test (PowerBetween least most) n is =
    let parts = and_parts _ _ is in
    let others = and_parts _ _ parts.1 in
    (leb-true least n parts.0, leb-true n most others.0, others.1)

pub within_test : (bounds : Bounds) (n : ℕ) → IsWithin bounds n → is_within bounds n ≡ true
within_test Any n within = refl
within_test (Between least most) n within = and_from _ _ (le-leb least n within.0) (le-leb n most within.1)
within_test (PowerBetween least most) n within =
    and_from _ _ (le-leb least n within.0) (and_from _ _ (le-leb n most within.1) within.2)

-- NAMES
letters : (word : List ℕ) → begins_name word ≡ true → IsNameWord word
letters [] is = absurd (cc is)
letters (b ∷ bs) is = and_parts _ _ is

letters_test : (word : List ℕ) → IsNameWord word → begins_name word ≡ true
letters_test [] is = absurd is
letters_test (b ∷ bs) is = and_from _ _ is.0 is.1

pub name_spelled : (word : List ℕ) → is_name word ≡ true → SpellsName word (name_of word)
name_spelled word is =
    let parts = and_parts _ _ is in
    record { letters = letters word parts.0; most = leb-true (length word) 8 parts.1; len = refl; bytes = refl }

pub is_name_from : (word : List ℕ) (name : Name) → SpellsName word name → is_name word ≡ true
is_name_from word name spells = and_from _ _ (letters_test word spells.letters) (le-leb (length word) 8 spells.most)

pub name_is : (word : List ℕ) (name : Name) → SpellsName word name → name_of word ≡ name
name_is word name spells = same_name (name_of word) name (sym spells.len) (sym spells.bytes)

-- BYTES in hexadecimal: the sixteen digits
abbrev reads_back : ℕ → Bool
reads_back b = not (is_lower_digit b) || ((slice_index lower_digits (digit_of b) == b) && nat_lt (digit_of b) 16)

all_read_back : agree_below reads_back (λ (b : ℕ). true) 103 ≡ true
all_read_back = refl

second_of : (x y : Bool) → (not x || y) ≡ true → x ≡ true → y ≡ true
second_of true y either is = either
second_of false y either is = absurd (cc is)

below_103 : (b : ℕ) → is_lower_digit b ≡ true → b < 103
below_103 b is =
    elim (or_cases (is_ascii_digit b) (nat_le 97 b && nat_le b 102) is) [
      | inl digit ↦
          let high : b ≤ 57 = leb-true b 57 (and_parts (nat_le 48 b) (nat_le b 57) digit).1 in omega (arith, high)
      | inr letter ↦
          let high : b ≤ 102 = leb-true b 102 (and_parts (nat_le 97 b) (nat_le b 102) letter).1 in omega (arith, high)
    ]

digit_read : (b : ℕ) → is_lower_digit b ≡ true → (slice_index lower_digits (digit_of b) ≡ b) × (digit_of b < 16)
digit_read b is =
    let test : reads_back b ≡ true = agree_below_at reads_back (λ (n : ℕ). true) 103 b all_read_back (below_103 b is) in
    let parts = and_parts _ _ (second_of (is_lower_digit b) _ test is) in
    (eqb-true _ b parts.0, ltb-true (digit_of b) 16 parts.1)

all_figures : agree_below (λ (n : ℕ). is_lower_digit (slice_index lower_digits n)) (λ (n : ℕ). true) 16 ≡ true
all_figures = refl

figure : (n : ℕ) → n < 16 → is_lower_digit (slice_index lower_digits n) ≡ true
figure n lt = agree_below_at (λ (k : ℕ). is_lower_digit (slice_index lower_digits k)) (λ (k : ℕ). true) 16 n all_figures lt

-- digits two by two are the text of their bytes
text_back : (word : List ℕ) → list_all is_lower_digit word ≡ true → length word % 2 ≡ 0 → encode_lower (bytes_of word) ≡ word
unfolding encode_with
text_back [] digits even = refl
text_back (high ∷ []) digits even = absurd (omega (arith, even))
text_back (high ∷ low ∷ rest) digits even =
    let first = and_parts _ _ digits in
    let second = and_parts _ _ first.1 in
    let h = digit_read high first.0 in
    let l = digit_read low second.0 in
    let above : (16 * digit_of high + digit_of low) / 16 ≡ digit_of high = omega (arith, l.1) in
    let below : (16 * digit_of high + digit_of low) % 16 ≡ digit_of low = omega (arith, l.1) in
    let others : encode_lower (bytes_of rest) ≡ rest = text_back rest second.1 (omega (arith, even)) in
    rw (above, below, h.0, l.0, others) refl

small_bytes : (word : List ℕ) → list_all is_lower_digit word ≡ true → IsBytes (bytes_of word)
small_bytes [] digits i = omega arith
small_bytes (high ∷ []) digits i = omega arith
small_bytes (high ∷ low ∷ rest) digits zero =
    let first = and_parts _ _ digits in
    let second = and_parts _ _ first.1 in
    let h = digit_read high first.0 in
    let l = digit_read low second.0 in
    omega (arith, h.1, l.1)
small_bytes (high ∷ low ∷ rest) digits (suc i) = small_bytes rest (and_parts _ _ (and_parts _ _ digits).1).1 i

pub front_spelled : (size : ℕ) (word : List ℕ) → is_front size word ≡ true → SpellsFront size word (length (bytes_of word)) (in_room size (bytes_of word))
front_spelled size word is =
    let digits = and_parts _ _ is in
    let even_and = and_parts _ _ digits.1 in
    let limits = and_parts _ _ even_and.1 in
    let bytes : List ℕ = bytes_of word in
    let zeros : List ℕ = replicate (size - length bytes) 0 in
    let even : length word % 2 ≡ 0 = eqb-true (length word % 2) 0 even_and.0 in
    let text : encode_lower bytes ≡ word = text_back word digits.0 even in
    let long : length word ≡ 2 * length bytes = ap (λ (l : List ℕ). length l) (sym text) ∙ length-encode_with lower_digits bytes in
    let some : 1 ≤ length word / 2 = leb-true 1 (length word / 2) limits.0 in
    let most : length word / 2 ≤ size = leb-true (length word / 2) size limits.1 in
    let few : length bytes ≤ size = omega (arith, long, most) in
    let front : take (length bytes) (bytes ++ zeros) ≡ bytes = take_at bytes zeros (length bytes) refl in
    record {
      some = omega (arith, long, some);
      most = few;
      room = omega (arith, few, length-append bytes zeros, length-replicate {A = ℕ} (size - length bytes) 0);
      zeros = drop_at bytes zeros (length bytes) refl;
      reads = ap (λ (l : List ℕ). decode_of l) (sym text) ∙ decode_of-encode_lower bytes (small_bytes word digits.0) ∙ ap (λ (l : List ℕ). Ok l) (sym front);
      lower = sym text ∙ ap (λ (l : List ℕ). encode_lower l) (sym front);
    }

pub exactly_spelled : (size : ℕ) (word : List ℕ) → is_exactly size word ≡ true → SpellsExactly size word (bytes_of word)
exactly_spelled size word is =
    let digits = and_parts _ _ is in
    let even_and = and_parts _ _ digits.1 in
    let even : length word % 2 ≡ 0 = eqb-true (length word % 2) 0 even_and.0 in
    let half : length word / 2 ≡ size = eqb-true (length word / 2) size even_and.1 in
    let bytes : List ℕ = bytes_of word in
    let text : encode_lower bytes ≡ word = text_back word digits.0 even in
    let long : length word ≡ 2 * length bytes = ap (λ (l : List ℕ). length l) (sym text) ∙ length-encode_with lower_digits bytes in
    record {
      long = omega (arith, long, half);
      reads = ap (λ (l : List ℕ). decode_of l) (sym text) ∙ decode_of-encode_lower bytes (small_bytes word digits.0);
      lower = sym text;
    }

all_digits : (bytes : List ℕ) → IsBytes bytes → list_all is_lower_digit (encode_lower bytes) ≡ true
unfolding encode_with
all_digits [] small = refl
all_digits (b ∷ bytes) small =
    let byte : b < 256 = small 0 in
    and_from _ _ (figure (b / 16) (omega (arith, byte))) (and_from _ _ (figure (b % 16) (omega arith)) (all_digits bytes (λ i. small (suc i))))

pub is_front_from : (size : ℕ) (word : List ℕ) (len : ℕ) (bytes : List ℕ) → SpellsFront size word len bytes → is_front size word ≡ true
is_front_from size word len bytes spells =
    let front : List ℕ = take len bytes in
    let ok = decode_of-ok word front spells.reads in
    let taken : length front ≡ len = length-take-le len bytes (omega (arith, spells.most, spells.room)) in
    and_from _ _ (subst (λ (l : List ℕ). list_all is_lower_digit l ≡ true) (sym spells.lower) (all_digits front ok.3))
    (and_from _ _ (eq-eqb (length word % 2) 0 ok.0)
    (and_from _ _ (le-leb 1 (length word / 2) (omega (arith, ok.2, taken, spells.some)))
    (le-leb (length word / 2) size (omega (arith, ok.2, taken, spells.most)))))

pub is_exactly_from : (size : ℕ) (word bytes : List ℕ) → SpellsExactly size word bytes → is_exactly size word ≡ true
is_exactly_from size word bytes spells =
    let ok = decode_of-ok word bytes spells.reads in
    and_from _ _ (subst (λ (l : List ℕ). list_all is_lower_digit l ≡ true) (sym spells.lower) (all_digits bytes ok.3))
    (and_from _ _ (eq-eqb (length word % 2) 0 ok.0) (eq-eqb (length word / 2) size (omega (arith, ok.2, spells.long))))

-- WHETHER A VALUE WAS FOUND tells whether the word spells one
pub number_tells : (word : List ℕ) (found : Option ℕ) → IfSome found (SpellsNumber word) → IfNone found ((n : ℕ) → SpellsNumber word n → ⊥) → is_some found ≡ is_number word
number_tells word None some none = sym (false_from_ne_true (is_number word) (λ is. none (number_of word) (number_spelled word is)))
number_tells word (Some n) some none = sym (is_number_from word n some)
