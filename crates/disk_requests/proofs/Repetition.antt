-- A word that is repeated through a buffer.
use Rattle.std.proofs.Common.{◌≡◌, ℕ, ◌+◌, ◌-◌, ◌*◌, ◌/◌, ◌%◌, ◌≤◌, List, ◌++◌, length, take, sym, ◌∙◌, ap, arith, zero-add}
use Rattle.std.proofs.lemmas.List.{take_at, take-take}
use Rattle.std.proofs.Math.Nat.{mod-add-div', add-mul-mod_self_right, zero-mod}
use Rattle.vio_bytes.specs.Place.{put_at}
use Rattle.vio_bytes.proofs.Ranges.{put_at-put_at_next, put_at_nothing}
use Rattle.vdisk_msg.specs.declared.request.Fill.{Fill}
use Rattle.vdisk_msg.specs.Requests.{repeated}
use Rattle.vdisk_msg.proofs.Repeated.{length-repeated, repeated-append, repeated_front, repeated_same, repeated_twice, take-repeated}

pub whole_twice : (n len : ℕ) → n % len ≡ 0 → (n + n) % len ≡ 0
whole_twice n len whole =
    let split : n + n ≡ n + n / len * len = omega (arith, mod-add-div' n len, whole) in
    ap (λ (k : ℕ). k % len) split ∙ add-mul-mod_self_right n (n / len) len ∙ whole

pub whole_more : (at n len : ℕ) → at % len ≡ 0 → n % len ≡ 0 → (at + n) % len ≡ 0
whole_more at n len first second =
    let split : at + n ≡ at + n / len * len = omega (arith, mod-add-div' n len, second) in
    ap (λ (k : ℕ). k % len) split ∙ add-mul-mod_self_right at (n / len) len ∙ first

-- the word itself, at the front of the words
pub laid_first : (fill : Fill) (copied rest : List ℕ) → fill.len ≤ length fill.bytes → copied ≡ take fill.len fill.bytes → length copied ≡ fill.len
    → take fill.len (copied ++ rest) ≡ repeated fill 0 fill.len
laid_first fill copied rest within is long = take_at copied rest fill.len long ∙ is ∙ repeated_front fill within

-- what is laid, once more after itself
pub laid_twice : (fill : Fill) (n : ℕ) (laid : List ℕ) → laid ≡ repeated fill 0 n → n % fill.len ≡ 0 → laid ++ laid ≡ repeated fill 0 (n + n)
laid_twice fill n laid is whole = ap (λ (l : List ℕ). l ++ l) is ∙ sym (repeated_twice fill n whole)

-- the first bytes of the words are those of the repetition from a whole number of words on
pub words_from : (fill : Fill) (words : List ℕ) (laid at n : ℕ) → take laid words ≡ repeated fill 0 laid → n ≤ laid → at % fill.len ≡ 0
    → take n words ≡ repeated fill at n
words_from fill words laid at n is within whole =
    let all : laid ≡ n + (laid - n) = omega arith in
    sym (take-take n laid words within) ∙ ap (λ (l : List ℕ). take n l) is ∙ ap (λ (k : ℕ). take n (repeated fill 0 k)) all
    ∙ take-repeated fill 0 n (laid - n) ∙ repeated_same fill 0 at n (zero-mod fill.len ∙ sym whole)

-- some more of it is written
pub filled_more : (fill : Fill) (place at n : ℕ) (piece before memory new : List ℕ) → memory ≡ put_at place (repeated fill 0 at) before
    → new ≡ put_at (place + at) piece memory → piece ≡ repeated fill at n → place + at + n ≤ length before
    → new ≡ put_at place (repeated fill 0 (at + n)) before
filled_more fill place at n piece before memory new first second is within =
    let long : length (repeated fill 0 at) ≡ at = length-repeated fill 0 at in
    let other : length (repeated fill at n) ≡ n = length-repeated fill at n in
    second ∙ ap (λ (p : List ℕ). put_at (place + at) p memory) is ∙ ap (λ (m : List ℕ). put_at (place + at) (repeated fill at n) m) first
    ∙ put_at-put_at_next place (place + at) (repeated fill 0 at) (repeated fill at n) before (omega (arith, long)) (omega (arith, other, within))
    ∙ ap (λ (l : List ℕ). put_at place l before) (ap (λ (k : ℕ). repeated fill 0 at ++ repeated fill k n) (sym (zero-add at)) ∙ sym (repeated-append fill 0 at n))

-- nothing of it yet
pub filled_none : (fill : Fill) (place : ℕ) (memory : List ℕ) → memory ≡ put_at place (repeated fill 0 0) memory
unfolding repeated
filled_none fill place memory = sym (put_at_nothing place memory)
