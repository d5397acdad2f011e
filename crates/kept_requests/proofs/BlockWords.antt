-- The word that a block repeats.
use Rattle.std.proofs.Common.{◌≡◌, ℕ, zero, suc, ◌+◌, ◌-◌, ◌/◌, ◌%◌, ◌<◌, ◌≤◌, Bool, true, false, cond, Option, Some, find, unwrap_or, List, [], ◌∷◌, ◌++◌, append_assoc, append-nil, length, get_or, take, drop, replicate, refl, sym, ap, subst, ◌∙◌, arith, inl, inr, Decides}
use Rattle.std.proofs.Math.Nat.{mod-eq_of_lt, mod-eq-sub-mod}
use Rattle.std.proofs.Math.Seq.{take-take}
use Rattle.std.proofs.lemmas.Bool.{cases_lt}
use Rattle.std.proofs.lemmas.Bool.Decides.{same_from_decides}
use Rattle.std.proofs.lemmas.List.{get_or-drop, get_or-take, get_or-map, get_or-replicate, length-map, length-replicate, length-drop, length-take, drop_all, ext_get_or, get_or_append_left, at_drop_more}
use Rattle.std.proofs.lemmas.List.FromFn.{length-range_with_len, get_or-range_with_len}
use Rattle.std.proofs.lemmas.Slice.Eq.{bytes_eq-Decides}
use Rattle.std.specs.List.{range_with_len}
use Rattle.kept_requests.specs.BlockWord.{repetition, repeats, word_length, word_lengths, word_text, words_text, blocks_text}

-- a list that is the same when it is moved by n places
abbrev pub IsShifted : List ℕ → ℕ → Type 0
IsShifted xs n = drop n xs ≡ take (length xs - n) xs

-- each byte is the one n places before it
shifted_at : (xs : List ℕ) (n k : ℕ) → IsShifted xs n → n ≤ k → k < length xs → get_or xs k 0 ≡ get_or xs (k - n) 0
shifted_at xs n k is le lt =
    ap (λ (i : ℕ). get_or xs i 0) (omega arith)
    ∙ sym (get_or-drop n xs (k - n) 0)
    ∙ ap (λ (l : List ℕ). get_or l (k - n) 0) is
    ∙ get_or-take (length xs - n) xs (k - n) 0 (omega arith)

-- so each byte is the one at its place modulo n
shifted_mod : (fuel : ℕ) (xs : List ℕ) (n k : ℕ) → k < fuel → 0 < n → IsShifted xs n → k < length xs → get_or xs k 0 ≡ get_or xs (k % n) 0
shifted_mod zero xs n k small some is lt = absurd (omega arith)
shifted_mod (suc fuel) xs n k small some is lt =
    elim (cases_lt k n) [
      | inl below ↦ ap (λ (i : ℕ). get_or xs i 0) (sym (mod-eq_of_lt below))
      | inr above ↦
          shifted_at xs n k is above lt
          ∙ shifted_mod fuel xs n (k - n) (omega arith) some is (omega arith)
          ∙ ap (λ (i : ℕ). get_or xs i 0) (sym (mod-eq-sub-mod above))
    ]

pub repetition_at : (xs : List ℕ) (n k : ℕ) → k < length xs → get_or (repetition xs n) k 0 ≡ get_or xs (k % n) 0
repetition_at xs n k lt =
    let long : length (range_with_len 0 (length xs)) ≡ length xs = length-range_with_len 0 (length xs) in
    get_or-map (λ (i : ℕ). get_or xs (i % n) 0) (range_with_len 0 (length xs)) k 0 0 (omega arith)
    ∙ ap (λ (i : ℕ). get_or xs (i % n) 0) (get_or-range_with_len 0 (length xs) k 0 lt ∙ omega arith)

length-repetition : (xs : List ℕ) (n : ℕ) → length (repetition xs n) ≡ length xs
length-repetition xs n = length-map (range_with_len 0 (length xs)) (λ (i : ℕ). get_or xs (i % n) 0) ∙ length-range_with_len 0 (length xs)

repeats_from_shift : (xs : List ℕ) (n : ℕ) → 0 < n → IsShifted xs n → xs ≡ repetition xs n
repeats_from_shift xs n some is =
    ext_get_or 0 xs (repetition xs n) (sym (length-repetition xs n))
    (λ k lt. shifted_mod (suc k) xs n k (omega arith) some is lt ∙ sym (repetition_at xs n k lt))

-- each byte of a repetition is the one n places before it
repeated_at : (xs : List ℕ) (n k : ℕ) → xs ≡ repetition xs n → n + k < length xs → get_or xs (n + k) 0 ≡ get_or xs k 0
repeated_at xs n k is lt =
    ap (λ (l : List ℕ). get_or l (n + k) 0) is
    ∙ repetition_at xs n (n + k) lt
    ∙ ap (λ (i : ℕ). get_or xs i 0) (mod-eq-sub-mod {n = n + k} {m = n} (omega arith) ∙ ap (λ (i : ℕ). i % n) (omega arith))
    ∙ sym (repetition_at xs n k (omega arith))
    ∙ ap (λ (l : List ℕ). get_or l k 0) (sym is)

shift_from_repeats : (xs : List ℕ) (n : ℕ) → xs ≡ repetition xs n → IsShifted xs n
shift_from_repeats xs n is =
    let front : length (drop n xs) ≡ length xs - n = length-drop n xs in
    let back : length (take (length xs - n) xs) ≡ length xs - n = length-take (length xs - n) xs ∙ omega arith in
    ext_get_or 0 (drop n xs) (take (length xs - n) xs) (front ∙ sym back)
    (λ k lt. get_or-drop n xs k 0 ∙ repeated_at xs n k is (omega arith) ∙ sym (get_or-take (length xs - n) xs k 0 (omega arith)))

-- moving a block by n places tells whether it repeats its first n bytes
pub repeats_is : (xs : List ℕ) (n : ℕ) (r : Bool) → 0 < n → Decides r (IsShifted xs n) → r ≡ repeats xs n
unfolding repeats
repeats_is xs n r some decides =
    let test : Decides (repeats xs n) (xs ≡ repetition xs n) = bytes_eq-Decides xs (repetition xs n) in
    same_from_decides r (repeats xs n) decides
    (λ e. shift_from_repeats xs n (test.0 e), λ is. test.1 (repeats_from_shift xs n some is))

-- the first byte, as often as there are bytes
repetition_one : (xs : List ℕ) → repetition xs 1 ≡ replicate (length xs) (get_or xs 0 0)
repetition_one xs =
    let long : length (repetition xs 1) ≡ length xs = length-repetition xs 1 in
    let same : length (replicate (length xs) (get_or xs 0 0)) ≡ length xs = length-replicate (length xs) (get_or xs 0 0) in
    ext_get_or 0 (repetition xs 1) (replicate (length xs) (get_or xs 0 0)) (long ∙ sym same)
    (λ k lt.
    let within : k < length xs = subst (λ (m : ℕ). k < m) long lt in
    repetition_at xs 1 k within
    ∙ ap (λ (i : ℕ). get_or xs i 0) (omega arith)
    ∙ sym (get_or-replicate (length xs) k (get_or xs 0 0) 0 within))

-- a block repeats its first byte where each byte is it
pub repeats_one : (xs : List ℕ) (r : Bool) → Decides r (xs ≡ replicate (length xs) (get_or xs 0 0)) → r ≡ repeats xs 1
unfolding repeats
repeats_one xs r decides =
    let test : Decides (repeats xs 1) (xs ≡ repetition xs 1) = bytes_eq-Decides xs (repetition xs 1) in
    same_from_decides r (repeats xs 1) decides
    (λ e. test.0 e ∙ repetition_one xs, λ is. test.1 (is ∙ sym (repetition_one xs)))

-- a block that begins differently where it is moved by n places doesn't repeat its first n bytes
pub never_repeats : (xs : List ℕ) (n few : ℕ) (r : Bool) → few ≤ length xs - n → (take few (drop n xs) ≡ take few xs → r ≡ true) → r ≡ false → repeats xs n ≡ false
unfolding repeats
never_repeats xs n few r within same fails = by_test (repeats xs n) refl
  where
    by_test : (b : Bool) → repeats xs n ≡ b → repeats xs n ≡ false
    by_test false is = is
    by_test true is =
        let shifted : IsShifted xs n = shift_from_repeats xs n ((bytes_eq-Decides xs (repetition xs n)).0 is) in
        let yes : r ≡ true = same (ap (λ (l : List ℕ). take few l) shifted ∙ take-take few (length xs - n) xs within) in
        absurd (cc)

-- a block repeats itself
pub repeats_whole : (block : List ℕ) → length block ≡ 512 → repeats block 512 ≡ true
unfolding repeats
repeats_whole block long =
    let same : block ≡ repetition block 512 =
    repeats_from_shift block 512 (omega arith) (drop_all 512 block (omega (arith, long)) ∙ sym (ap (λ (n : ℕ). take (n - 512) block) long)) in
    (bytes_eq-Decides block (repetition block 512)).1 same

-- the lengths of words that are shorter than a block
abbrev shorter_lengths : List ℕ
shorter_lengths = 1 ∷ 2 ∷ 4 ∷ 8 ∷ 16 ∷ 32 ∷ 64 ∷ 128 ∷ 256 ∷ []

-- the first length from the i-th on that the block repeats
abbrev pub IsFoundFrom : List ℕ → ℕ → Type 0
IsFoundFrom block i = word_length block ≡ unwrap_or (find (repeats block) (drop i word_lengths)) 512

found_step : (block : List ℕ) (i : ℕ) → i < 9 → IsFoundFrom block i
    → word_length block ≡ unwrap_or (cond (repeats block (get_or shorter_lengths i 0)) (Some (get_or shorter_lengths i 0)) (find (repeats block) (drop (i + 1) word_lengths))) 512
found_step block i lt is =
    let same : get_or word_lengths i 0 ≡ get_or shorter_lengths i 0 = get_or_append_left shorter_lengths (512 ∷ []) 0 i lt in
    is
    ∙ ap (λ (o : Option ℕ). unwrap_or o 512) (at_drop_more (find (repeats block)) word_lengths i 0 (omega arith))
    ∙ ap (λ (n : ℕ). unwrap_or (cond (repeats block n) (Some n) (find (repeats block) (drop (i + 1) word_lengths))) 512) same

-- a length that the block does not repeat is passed
pub found_later : (block : List ℕ) (i : ℕ) (r : Bool) → i < 9 → r ≡ repeats block (get_or shorter_lengths i 0) → r ≡ false → IsFoundFrom block i → IsFoundFrom block (i + 1)
found_later block i r lt is fails from =
    found_step block i lt from
    ∙ ap (λ (b : Bool). unwrap_or (cond b (Some (get_or shorter_lengths i 0)) (find (repeats block) (drop (i + 1) word_lengths))) 512) (sym is ∙ fails)

-- the first length that the block repeats is found
pub found_here : (block : List ℕ) (i : ℕ) (r : Bool) → i < 9 → r ≡ repeats block (get_or shorter_lengths i 0) → r ≡ true → IsFoundFrom block i → get_or shorter_lengths i 0 ≡ word_length block
found_here block i r lt is holds from =
    sym (found_step block i lt from
    ∙ ap (λ (b : Bool). unwrap_or (cond b (Some (get_or shorter_lengths i 0)) (find (repeats block) (drop (i + 1) word_lengths))) 512) (sym is ∙ holds))

-- the first block of a list, and the blocks after it
pub blocks_text_more : (so_far whole rest block behind : List ℕ) → whole ≡ so_far ++ blocks_text rest → block ≡ take 512 rest → behind ≡ drop 512 rest → length behind + 512 ≡ length rest
    → whole ≡ so_far ++ word_text block ++ blocks_text behind
unfolding blocks_text
blocks_text_more so_far whole rest block behind is front back long =
    let one_more : length rest / 512 ≡ suc (length behind / 512) = omega arith in
    is
    ∙ ap (λ (n : ℕ). so_far ++ words_text n rest) one_more
    ∙ ap (λ (l : List ℕ). so_far ++ (word_text l ++ words_text (length behind / 512) (drop 512 rest))) (sym front)
    ∙ ap (λ (l : List ℕ). so_far ++ (word_text block ++ words_text (length behind / 512) l)) (sym back)
    ∙ sym (append_assoc so_far (word_text block) (words_text (length behind / 512) behind))

-- no block is left
pub blocks_text_end : (so_far whole rest : List ℕ) → whole ≡ so_far ++ blocks_text rest → length rest < 512 → whole ≡ so_far
unfolding blocks_text
blocks_text_end so_far whole rest is short =
    let none : length rest / 512 ≡ 0 = omega arith in
    is ∙ ap (λ (n : ℕ). so_far ++ words_text n rest) none ∙ append-nil so_far
