-- A word that is repeated, in parts.
use Rattle.std.proofs.Common.{◌≡◌, ℕ, zero, suc, ◌+◌, ◌-◌, ◌*◌, ◌/◌, ◌%◌, ◌≤◌, List, ◌∷◌, ◌++◌, length, map, take, drop, refl, sym, ◌∙◌, ap, arith, slice_index, add-zero, zero-add}
use Rattle.std.proofs.lemmas.List.{drop_at, take_at, length-take-le, get_or-take}
use Rattle.std.proofs.lemmas.List.FromFn.{length-map-range_with_len, fill_by_all}
use Rattle.std.proofs.Math.Nat.{mod-add-div', add-mul-mod_self_right, mod-eq_of_lt, zero-mod}
use Rattle.std.specs.List.{range_with_len}
use Rattle.vdisk_msg.specs.declared.request.Fill.{Fill}
use Rattle.vdisk_msg.specs.Requests.{repeated}

abbrev span : (ℕ → ℕ) → ℕ → ℕ → List ℕ
span f a n = map f (range_with_len a n)

span-append : (f : ℕ → ℕ) (a m n : ℕ) → span f a (m + n) ≡ span f a m ++ span f (a + m) n
span-append f a zero n = ap (λ (k : ℕ). span f a k) (zero-add n) ∙ ap (λ (b : ℕ). span f b n) (sym (add-zero a))
span-append f a (suc m) n =
    let more : suc m + n ≡ suc (m + n) = omega arith in
    let place : a + 1 + m ≡ a + suc m = omega arith in
    ap (λ (k : ℕ). span f a k) more
    ∙ ap (λ (l : List ℕ). f a ∷ l) (span-append f (a + 1) m n ∙ ap (λ (b : ℕ). span f (a + 1) m ++ span f b n) place)

next-mod : (a n : ℕ) → (a + 1) % n ≡ (a % n + 1) % n
next-mod a n =
    let split : a + 1 ≡ a % n + 1 + a / n * n = omega (arith, mod-add-div' a n) in
    ap (λ (k : ℕ). k % n) split ∙ add-mul-mod_self_right (a % n + 1) (a / n) n

pub length-repeated : (fill : Fill) (at n : ℕ) → length (repeated fill at n) ≡ n
unfolding repeated
length-repeated fill at n = length-map-range_with_len (λ j. slice_index fill.bytes (j % fill.len)) at n

pub repeated-append : (fill : Fill) (at m n : ℕ) → repeated fill at (m + n) ≡ repeated fill at m ++ repeated fill (at + m) n
unfolding repeated
repeated-append fill at m n = span-append (λ j. slice_index fill.bytes (j % fill.len)) at m n

-- the repetition is the same from places that are equal modulo the word's length
pub repeated_same : (fill : Fill) (a b n : ℕ) → a % fill.len ≡ b % fill.len → repeated fill a n ≡ repeated fill b n
unfolding repeated
repeated_same fill a b zero is = refl
repeated_same fill a b (suc n) is =
    ap (λ (k : ℕ). slice_index fill.bytes k ∷ repeated fill (a + 1) n) is
    ∙ ap (λ (l : List ℕ). slice_index fill.bytes (b % fill.len) ∷ l)
    (repeated_same fill (a + 1) (b + 1) n (next-mod a fill.len ∙ ap (λ (k : ℕ). (k + 1) % fill.len) is ∙ sym (next-mod b fill.len)))

pub drop-repeated : (fill : Fill) (at m n : ℕ) → drop m (repeated fill at (m + n)) ≡ repeated fill (at + m) n
drop-repeated fill at m n = ap (λ (l : List ℕ). drop m l) (repeated-append fill at m n) ∙ drop_at (repeated fill at m) (repeated fill (at + m) n) m (length-repeated fill at m)

pub take-repeated : (fill : Fill) (at m n : ℕ) → take m (repeated fill at (m + n)) ≡ repeated fill at m
take-repeated fill at m n = ap (λ (l : List ℕ). take m l) (repeated-append fill at m n) ∙ take_at (repeated fill at m) (repeated fill (at + m) n) m (length-repeated fill at m)

-- the repetition begins with the word
pub repeated_front : (fill : Fill) → fill.len ≤ length fill.bytes → take fill.len fill.bytes ≡ repeated fill 0 fill.len
unfolding repeated
repeated_front fill within =
    fill_by_all (λ j. slice_index fill.bytes (j % fill.len)) (take fill.len fill.bytes) fill.len 0 (length-take-le fill.len fill.bytes within)
    (λ k below. get_or-take fill.len fill.bytes k 0 below ∙ ap (λ (j : ℕ). slice_index fill.bytes j) (sym (mod-eq_of_lt below)))

-- n bytes from a place of the repetition's beginning
pub repeated_part : (fill : Fill) (laid at n : ℕ) → at + n ≤ laid → take n (drop at (repeated fill 0 laid)) ≡ repeated fill at n
repeated_part fill laid at n within =
    let whole : laid ≡ at + (n + (laid - (at + n))) = omega arith in
    ap (λ (k : ℕ). take n (drop at (repeated fill 0 k))) whole
    ∙ ap (λ (l : List ℕ). take n l) (drop-repeated fill 0 at (n + (laid - (at + n))))
    ∙ ap (λ (k : ℕ). take n (repeated fill k (n + (laid - (at + n))))) (zero-add at)
    ∙ take-repeated fill at n (laid - (at + n))

-- twice as much of the repetition, where it holds whole words
pub repeated_twice : (fill : Fill) (n : ℕ) → n % fill.len ≡ 0 → repeated fill 0 (n + n) ≡ repeated fill 0 n ++ repeated fill 0 n
repeated_twice fill n words =
    repeated-append fill 0 n n ∙ ap (λ (l : List ℕ). repeated fill 0 n ++ l) (repeated_same fill (0 + n) 0 n (ap (λ (k : ℕ). k % fill.len) (zero-add n) ∙ words ∙ sym (zero-mod fill.len)))
