-- The addresses of cookies, one cookie after another.
use Rattle.std.proofs.Common.{◌≡◌, ℕ, zero, suc, ◌+◌, ◌-◌, ◌≤◌, min, List, [], ◌∷◌, ◌++◌, length, take, drop, refl, ap, ◌∙◌, arith}
use Rattle.std.proofs.lemmas.List.{length-append}
use Rattle.std.proofs.lemmas.List.FromFn.{length-range_with_len}
use Rattle.std.specs.List.{range_with_len}
use Rattle.vio_bytes.proofs.Ranges.{length-range_at}
use Rattle.map_table.specs.declared.cookie.Cookie.{Cookie}
use Rattle.cookie_copy.specs.Faults.{held}
use Rattle.cookie_copy.specs.Moved.{moved_spots, spots}

pub drop-append : {X : Type 0} (n : ℕ) (xs ys : List X) → drop n (xs ++ ys) ≡ drop n xs ++ drop (n - length xs) ys
drop-append zero xs ys = let none : 0 ≡ 0 - length xs = omega arith in ap (λ (k : ℕ). xs ++ drop k ys) none
drop-append (suc n) [] ys = let all : suc n ≡ suc n - 0 = omega arith in ap (λ (k : ℕ). drop k ys) all
drop-append (suc n) (x ∷ xs) ys =
    let less : n - length xs ≡ suc n - suc (length xs) = omega arith in drop-append n xs ys ∙ ap (λ (k : ℕ). drop n xs ++ drop k ys) less

pub take-append : {X : Type 0} (n : ℕ) (xs ys : List X) → take n (xs ++ ys) ≡ take n xs ++ take (n - length xs) ys
take-append {X} zero xs ys = let none : 0 ≡ 0 - length xs = omega arith in ap (λ (k : ℕ). take k ys) none
take-append {X} (suc n) [] ys = let all : suc n ≡ suc n - 0 = omega arith in ap (λ (k : ℕ). take k ys) all
take-append {X} (suc n) (x ∷ xs) ys =
    let less : n - length xs ≡ suc n - suc (length xs) = omega arith in
    ap (λ (zs : List X). x ∷ zs) (take-append n xs ys ∙ ap (λ (k : ℕ). take n xs ++ take k ys) less)

pub range-add : (a m n : ℕ) → range_with_len a (m + n) ≡ range_with_len a m ++ range_with_len (a + m) n
range-add a zero n =
    let place : a ≡ a + 0 = omega arith in let long : 0 + n ≡ n = omega arith in
    ap (λ (k : ℕ). range_with_len a k) long ∙ ap (λ (p : ℕ). range_with_len p n) place
range-add a (suc m) n =
    let more : suc m + n ≡ suc (m + n) = omega arith in
    let place : a + 1 + m ≡ a + suc m = omega arith in
    ap (λ (k : ℕ). range_with_len a k) more
    ∙ ap (λ (xs : List ℕ). a ∷ xs) (range-add (a + 1) m n ∙ ap (λ (p : ℕ). range_with_len (a + 1) m ++ range_with_len p n) place)

pub drop-range : (m a s : ℕ) → drop m (range_with_len a s) ≡ range_with_len (a + m) (s - m)
drop-range zero a s =
    let place : a ≡ a + 0 = omega arith in let long : s ≡ s - 0 = omega arith in
    ap (λ (p : ℕ). range_with_len p s) place ∙ ap (λ (k : ℕ). range_with_len (a + 0) k) long
drop-range (suc m) a zero = let none : 0 ≡ 0 - suc m = omega arith in ap (λ (k : ℕ). range_with_len (a + suc m) k) none
drop-range (suc m) a (suc s) =
    let place : a + 1 + m ≡ a + suc m = omega arith in let long : s - m ≡ suc s - suc m = omega arith in
    drop-range m (a + 1) s ∙ ap (λ (p : ℕ). range_with_len p (s - m)) place ∙ ap (λ (k : ℕ). range_with_len (a + suc m) k) long

pub take-range : (m a s : ℕ) → take m (range_with_len a s) ≡ range_with_len a (min s m)
take-range zero a s = let none : 0 ≡ min s 0 = omega arith in ap (λ (k : ℕ). range_with_len a k) none
take-range (suc m) a zero = let none : 0 ≡ min 0 (suc m) = omega arith in ap (λ (k : ℕ). range_with_len a k) none
take-range (suc m) a (suc s) =
    let more : suc (min s m) ≡ min (suc s) (suc m) = omega arith in
    ap (λ (xs : List ℕ). a ∷ xs) (take-range m (a + 1) s) ∙ ap (λ (k : ℕ). range_with_len a k) more

-- cookies hold as many bytes as they have addresses
pub length-spots : (cookies : List Cookie) → length (spots cookies) ≡ held cookies
unfolding spots
length-spots [] = refl
length-spots (cookie ∷ cookies) =
    length-append (range_with_len cookie.address cookie.size) (spots cookies)
    ∙ ap (λ (n : ℕ). n + length (spots cookies)) (length-range_with_len cookie.address cookie.size)
    ∙ ap (λ (n : ℕ). cookie.size + n) (length-spots cookies)

pub moved_nothing : (offset n : ℕ) → moved_spots [] offset n ≡ []
unfolding spots
moved_nothing zero zero = refl
moved_nothing zero (suc n) = refl
moved_nothing (suc offset) zero = refl
moved_nothing (suc offset) (suc n) = refl

-- what is moved of the first cookie, and of the others
pub moved_cons : (cookie : Cookie) (cookies : List Cookie) (skip n : ℕ)
    → moved_spots (cookie ∷ cookies) skip n
    ≡ range_with_len (cookie.address + skip) (min (cookie.size - skip) n) ++ moved_spots cookies (skip - cookie.size) (n - (cookie.size - skip))
unfolding spots
moved_cons cookie cookies skip n =
    let a : ℕ = cookie.address in
    let s : ℕ = cookie.size in
    let rest : List ℕ = spots cookies in
    let here : List ℕ = range_with_len (a + skip) (s - skip) in
    let dropped : drop skip (range_with_len a s ++ rest) ≡ here ++ drop (skip - s) rest =
    drop-append skip (range_with_len a s) rest
    ∙ ap (λ (xs : List ℕ). xs ++ drop (skip - length (range_with_len a s)) rest) (drop-range skip a s)
    ∙ ap (λ (k : ℕ). here ++ drop (skip - k) rest) (length-range_with_len a s) in
    ap (λ (xs : List ℕ). take n xs) dropped
    ∙ take-append n here (drop (skip - s) rest)
    ∙ ap (λ (xs : List ℕ). xs ++ take (n - length here) (drop (skip - s) rest)) (take-range n (a + skip) (s - skip))
    ∙ ap (λ (k : ℕ). range_with_len (a + skip) (min (s - skip) n) ++ take (n - k) (drop (skip - s) rest)) (length-range_with_len (a + skip) (s - skip))

-- as many addresses as bytes, where the cookies hold them
pub length-moved : (cookies : List Cookie) (offset n : ℕ) → offset + n ≤ held cookies → length (moved_spots cookies offset n) ≡ n
length-moved cookies offset n holds =
    let long = length-spots cookies in
    length-range_at offset n (spots cookies) (omega (arith, long))
