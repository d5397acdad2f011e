-- Ranges of a told content that are read or written one after the other.
use Rattle.std.proofs.Common.{◌≡◌, ℕ, ◌+◌, ◌-◌, ◌≤◌, List, [], ◌++◌, length, take, drop, refl, sym, ◌∙◌, ap, arith, append_assoc, length-append, Option, Some, None, IfSome}
use Rattle.std.proofs.lemmas.List.{take-append-drop, take_at, drop_at, drop-drop, length-take-le, length-drop, take-append-le}
use Rattle.std.proofs.Math.Seq.{take-add}
use Rattle.vio_bytes.specs.Place.{put_at}
use Rattle.vio_io.specs.Stores.{ReadsRange, WritesRange, KeepsOutside}

-- a told content has at least n bytes
abbrev pub Reaches : Option (List ℕ) → ℕ → Type 0
Reaches None n = Unit {0}
Reaches (Some content) n = n ≤ length content

pub reaches : (told : Option (List ℕ)) (size n : ℕ) → IfSome told (λ bytes. length bytes ≡ size) → n ≤ size → Reaches told n
reaches None size n is within = tt
reaches (Some content) size n is within = omega arith

-- what is read in two parts
pub reads_more : (told : Option (List ℕ)) (at : ℕ) (xs ys : List ℕ) → Reaches told (at + length xs) → ReadsRange told at xs → ReadsRange told (at + length xs) ys → ReadsRange told at (xs ++ ys)
reads_more None at xs ys within first second = tt
reads_more (Some content) at xs ys within first second =
    let rest = drop at content in
    let behind : ys ≡ take (length ys) (drop (length xs) rest) = second ∙ ap (λ (l : List ℕ). take (length ys) l) (sym (drop-drop (length xs) at content)) in
    ap (λ (l : List ℕ). l ++ ys) first ∙ ap (λ (l : List ℕ). take (length xs) rest ++ l) behind
    ∙ sym (take-add (length xs) (length ys) rest) ∙ ap (λ (n : ℕ). take n rest) (sym (length-append xs ys))

over_more : (c : List ℕ) (at : ℕ) (xs ys : List ℕ) → at + length xs + length ys ≤ length c → put_at (at + length xs) ys (put_at at xs c) ≡ put_at at (xs ++ ys) c
over_more c at xs ys within =
    let front : length (take at c) ≡ at = length-take-le at c (omega arith) in
    let two : length (take at c ++ xs) ≡ at + length xs = length-append (take at c) xs ∙ ap (λ (n : ℕ). n + length xs) front in
    let behind = drop (at + length xs) c in
    let split : put_at at xs c ≡ (take at c ++ xs) ++ behind = sym (append_assoc (take at c) xs behind) in
    let before : take (at + length xs) (put_at at xs c) ≡ take at c ++ xs = ap (λ (l : List ℕ). take (at + length xs) l) split ∙ take_at (take at c ++ xs) behind (at + length xs) two in
    let after : drop (at + length xs + length ys) (put_at at xs c) ≡ drop (at + length xs + length ys) c =
    sym (drop-drop (length ys) (at + length xs) (put_at at xs c))
    ∙ ap (λ (l : List ℕ). drop (length ys) l) (ap (λ (l : List ℕ). drop (at + length xs) l) split ∙ drop_at (take at c ++ xs) behind (at + length xs) two)
    ∙ drop-drop (length ys) (at + length xs) c in
    let place : at + length xs + length ys ≡ at + length (xs ++ ys) = omega (arith, length-append xs ys) in
    let rest = drop (at + length xs + length ys) c in
    ap (λ (l : List ℕ). l ++ (ys ++ drop (at + length xs + length ys) (put_at at xs c))) before
    ∙ ap (λ (l : List ℕ). (take at c ++ xs) ++ (ys ++ l)) after
    ∙ append_assoc (take at c) xs (ys ++ rest)
    ∙ ap (λ (l : List ℕ). take at c ++ l) (sym (append_assoc xs ys rest))
    ∙ ap (λ (n : ℕ). take at c ++ ((xs ++ ys) ++ drop n c)) place

pub writes_none : (told : Option (List ℕ)) (at : ℕ) → WritesRange told told at []
writes_none None at = tt
writes_none (Some content) at = sym (take-append-drop at content) ∙ ap (λ (n : ℕ). take at content ++ drop n content) (omega arith)

-- what is written in two parts
pub writes_more : (a b c : Option (List ℕ)) (at : ℕ) (xs ys : List ℕ) → Reaches a (at + length xs + length ys) → WritesRange a b at xs → WritesRange b c (at + length xs) ys → WritesRange a c at (xs ++ ys)
writes_more None b c at xs ys within first second = tt
writes_more (Some a) None c at xs ys within first second = absurd first
writes_more (Some a) (Some b) None at xs ys within first second = absurd second
writes_more (Some a) (Some b) (Some c) at xs ys within first second =
    second ∙ ap (λ (l : List ℕ). put_at (at + length xs) ys l) first ∙ over_more a at xs ys within

-- the front of a longer front
front_of : (m n : ℕ) (l : List ℕ) → n ≤ length l → m ≤ n → take m l ≡ take m (take n l)
front_of m n l within le =
    let long : m ≤ length (take n l) = omega (arith, length-take-le n l within) in
    ap (λ (xs : List ℕ). take m xs) (sym (take-append-drop n l)) ∙ take-append-le m (take n l) (drop n l) long

-- what is the same from a place on is so from a later place on
later : (m n : ℕ) (a b : List ℕ) → m ≤ n → drop m b ≡ drop m a → drop n b ≡ drop n a
later m n a b le is =
    let place : m + (n - m) ≡ n = omega arith in
    ap (λ (k : ℕ). drop k b) (sym place) ∙ sym (drop-drop (n - m) m b) ∙ ap (λ (l : List ℕ). drop (n - m) l) is ∙ drop-drop (n - m) m a ∙ ap (λ (k : ℕ). drop k a) place

-- a fault in the second part leaves what is outside of both
pub keeps_more : (a b c : Option (List ℕ)) (at n total : ℕ) (xs : List ℕ) → Reaches a (at + total) → length xs + n ≤ total → WritesRange a b at xs → KeepsOutside b c (at + length xs) n → KeepsOutside a c at total
keeps_more None b c at n total xs within fits first second = tt
keeps_more (Some a) None c at n total xs within fits first second = absurd first
keeps_more (Some a) (Some b) None at n total xs within fits first second = absurd second
keeps_more (Some a) (Some b) (Some c) at n total xs within fits first second =
    let k = length xs in
    let front : length (take at a) ≡ at = length-take-le at a (omega arith) in
    let two : length (take at a ++ xs) ≡ at + k = length-append (take at a) xs ∙ ap (λ (m : ℕ). m + k) front in
    let joined : b ≡ (take at a ++ xs) ++ drop (at + k) a = first ∙ sym (append_assoc (take at a) xs (drop (at + k) a)) in
    let same : length b ≡ length a = ap length joined ∙ omega (arith, length-append (take at a ++ xs) (drop (at + k) a), two, length-drop (at + k) a) in
    let begins : take at b ≡ take at a = ap (λ (l : List ℕ). take at l) first ∙ take_at (take at a) (xs ++ drop (at + k) a) at front in
    let ends : drop (at + k) b ≡ drop (at + k) a = ap (λ (l : List ℕ). drop (at + k) l) joined ∙ drop_at (take at a ++ xs) (drop (at + k) a) (at + k) two in (
      second.0 ∙ same,
      front_of at (at + k) c (omega (arith, second.0, same)) (omega arith) ∙ ap (λ (l : List ℕ). take at l) second.1 ∙ sym (front_of at (at + k) b (omega (arith, same)) (omega arith)) ∙ begins,
      later (at + k + n) (at + total) b c (omega arith) second.2 ∙ later (at + k) (at + total) a b (omega arith) ends,
    )

pub reads_none : (told : Option (List ℕ)) (at : ℕ) → ReadsRange told at []
reads_none None at = tt
reads_none (Some content) at = refl
