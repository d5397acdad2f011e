-- Blocks that are kept as the words that they repeat.
use Rattle.std.proofs.Common.{◌≡◌, ℕ, ◌+◌, ◌-◌, ◌*◌, ◌%◌, ◌<◌, ◌≤◌, true, List, [], ◌∷◌, ◌++◌, append_assoc, append-nil, length, codes, get_or, take, drop, refl, sym, ap, subst, ◌∙◌, arith}
use Rattle.std.proofs.Math.Nat.{mod-lt, mod-eq_of_lt}
use Rattle.std.proofs.lemmas.List.{get_or-take, length-drop, length-append, length-take, drop-append-le, drop_all, drop_more, ext_get_or, get_or_append_left}
use Rattle.std.proofs.Math.Seq.{take-append_seam, drop-append_seam}
use Rattle.std.proofs.lemmas.List.Sums.{sum_by-cons}
use Rattle.std.proofs.lemmas.List.FromFn.{length-map-range_with_len, get_or-map-range_with_len, map-range_with_len_more}
use Rattle.std.proofs.lemmas.Slice.Eq.{bytes_eq-Decides}
use Rattle.hex.specs.Hex.{encode_lower}
use Rattle.std.specs.List.{sum}
use Rattle.kept_requests.specs.BlockWord.{blocks_text, cycle, repetition, repeats, word_length, word_text}
use Rattle.kept_requests.specs.Packed.{AreKept, IsWordKept, block_of, unpacked}
use Rattle.kept_requests.proofs.BlockWords.{blocks_text_more, repetition_at}

-- one more byte
pub cycle_more : (n k : ℕ) (xs : List ℕ) → cycle n (k + 1) xs ≡ cycle n k xs ++ get_or xs (k % n) 0 ∷ []
cycle_more n k xs = map-range_with_len_more (λ (i : ℕ). get_or xs (i % n) 0) 0 k k (omega arith)

block_at : (n : ℕ) (xs : List ℕ) (k : ℕ) → k < 512 → get_or (block_of n xs) k 0 ≡ get_or xs (k % n) 0
unfolding block_of
block_at n xs k lt = get_or-map-range_with_len (λ (i : ℕ). get_or xs (i % n) 0) 0 512 k k 0 lt (omega arith)

pub length-block_of : (n : ℕ) (xs : List ℕ) → length (block_of n xs) ≡ 512
unfolding block_of
length-block_of n xs = length-map-range_with_len (λ (i : ℕ). get_or xs (i % n) 0) 0 512

-- what is after a word doesn't matter to its block
block_of_front : (n : ℕ) (xs ys : List ℕ) → 0 < n → n ≤ length xs → block_of n (xs ++ ys) ≡ block_of n xs
block_of_front n xs ys some le =
    ext_get_or 0 (block_of n (xs ++ ys)) (block_of n xs) (length-block_of n (xs ++ ys) ∙ sym (length-block_of n xs))
    (λ k lt.
    let small : k < 512 = subst (λ (m : ℕ). k < m) (length-block_of n (xs ++ ys)) lt in
    let within : k % n < n = mod-lt k some in
    block_at n (xs ++ ys) k small ∙ get_or_append_left xs ys 0 (k % n) (omega arith) ∙ sym (block_at n xs k small))

-- a block that repeats its first n bytes is the block of these
pub block_of_word : (block : List ℕ) (n : ℕ) → length block ≡ 512 → 0 < n → n ≤ 512 → repeats block n ≡ true → block_of n (take n block) ≡ block
unfolding repeats
block_of_word block n long some most is =
    let same : block ≡ repetition block n = (bytes_eq-Decides block (repetition block n)).0 is in
    ext_get_or 0 (block_of n (take n block)) block (length-block_of n (take n block) ∙ sym long)
    (λ k lt.
    let small : k < 512 = subst (λ (m : ℕ). k < m) (length-block_of n (take n block)) lt in
    let within : k % n < n = mod-lt k some in
    block_at n (take n block) k small
    ∙ get_or-take n block (k % n) 0 within
    ∙ sym (repetition_at block n k (omega arith))
    ∙ ap (λ (l : List ℕ). get_or l k 0) (sym same))

-- how many bytes there are
pub kept_lengths : (lengths kept : List ℕ) → AreKept lengths kept → (sum lengths ≤ length kept) × (length (unpacked lengths kept) + sum lengths ≡ 512 * length lengths + length kept)
kept_lengths [] kept are = (omega arith, omega arith)
kept_lengths (n ∷ lengths) kept are =
    let more = kept_lengths lengths (drop n kept) are.1 in
    let word : IsWordKept n kept = are.0 in
    let behind : length (drop n kept) ≡ length kept - n = length-drop n kept in
    let block : length (block_of n kept) ≡ 512 = length-block_of n kept in
    let total : sum (n ∷ lengths) ≡ n + sum lengths = sum_by-cons (λ (x : ℕ). x) n lengths in
    let whole : length (unpacked (n ∷ lengths) kept) ≡ length (block_of n kept) + length (unpacked lengths (drop n kept)) = length-append (block_of n kept) (unpacked lengths (drop n kept)) in
    (omega (arith, total, more.0, word.whole, behind), omega (arith, total, whole, more.1, more.0, word.whole, behind, block))

-- bytes after the others leave what is kept
pub kept_behind : (lengths kept rest : List ℕ) → AreKept lengths kept → AreKept lengths (kept ++ rest)
kept_behind [] kept rest are = tt
kept_behind (n ∷ lengths) kept rest are =
    let word : IsWordKept n kept = are.0 in
    let more : AreKept lengths (drop n kept ++ rest) = kept_behind lengths (drop n kept) rest are.1 in
    let long : length (kept ++ rest) ≡ length kept + length rest = length-append kept rest in (
      record {
        some = word.some;
        most = word.most;
        whole = omega (arith, word.whole, long);
        shortest = ap word_length (block_of_front n kept rest word.some word.whole) ∙ word.shortest;
      },
      subst (AreKept lengths) (sym (drop-append-le n kept rest word.whole)) more,
    )

pub unpacked_behind : (lengths kept rest : List ℕ) → AreKept lengths kept → unpacked lengths (kept ++ rest) ≡ unpacked lengths kept ++ rest
unpacked_behind [] kept rest are = refl
unpacked_behind (n ∷ lengths) kept rest are =
    let word : IsWordKept n kept = are.0 in
    ap (λ (l : List ℕ). l ++ unpacked lengths (drop n (kept ++ rest))) (block_of_front n kept rest word.some word.whole)
    ∙ ap (λ (l : List ℕ). block_of n kept ++ unpacked lengths l) (drop-append-le n kept rest word.whole)
    ∙ ap (λ (l : List ℕ). block_of n kept ++ l) (unpacked_behind lengths (drop n kept) rest are.1)
    ∙ sym (append_assoc (block_of n kept) (unpacked lengths (drop n kept)) rest)

-- a further block is kept where nothing is after the others
pub kept_more : (lengths kept block : List ℕ) (n : ℕ) → AreKept lengths kept → sum lengths ≡ length kept → length block ≡ 512 → 0 < n → n ≤ 512 → repeats block n ≡ true → n ≡ word_length block
    → AreKept (lengths ++ n ∷ []) (kept ++ take n block)
kept_more [] [] block n are all long some most is least =
    let same : block_of n (take n block) ≡ block = block_of_word block n long some most is in
    let front : length (take n block) ≡ n = length-take n block ∙ omega arith in (
      record {
        some = some;
        most = most;
        whole = omega (arith, front);
        shortest = ap word_length same ∙ sym least;
      },
      tt,
    )
kept_more [] (b ∷ kept) block n are all long some most is least = absurd (omega (arith, all))
kept_more (m ∷ lengths) kept block n are all long some most is least =
    let word : IsWordKept m kept = are.0 in
    let total : sum (m ∷ lengths) ≡ m + sum lengths = sum_by-cons (λ (x : ℕ). x) m lengths in
    let behind : length (drop m kept) ≡ length kept - m = length-drop m kept in
    let more : AreKept (lengths ++ n ∷ []) (drop m kept ++ take n block) =
    kept_more lengths (drop m kept) block n are.1 (omega (arith, all, total, behind, word.whole)) long some most is least in (
      (kept_behind (m ∷ []) kept (take n block) (word, tt)).0,
      subst (AreKept (lengths ++ n ∷ [])) (sym (drop-append-le m kept (take n block) word.whole)) more,
    )

pub unpacked_more : (lengths kept block : List ℕ) (n : ℕ) → AreKept lengths kept → sum lengths ≡ length kept → length block ≡ 512 → 0 < n → n ≤ 512 → repeats block n ≡ true
    → unpacked (lengths ++ n ∷ []) (kept ++ take n block) ≡ unpacked lengths kept ++ block
unpacked_more [] [] block n are all long some most is =
    let front : length (take n block) ≡ n = length-take n block ∙ omega arith in
    ap (λ (l : List ℕ). l ++ drop n (take n block)) (block_of_word block n long some most is)
    ∙ ap (λ (l : List ℕ). block ++ l) (drop_all n (take n block) (omega (arith, front)))
    ∙ append-nil block
unpacked_more [] (b ∷ kept) block n are all long some most is = absurd (omega (arith, all))
unpacked_more (m ∷ lengths) kept block n are all long some most is =
    let word : IsWordKept m kept = are.0 in
    let total : sum (m ∷ lengths) ≡ m + sum lengths = sum_by-cons (λ (x : ℕ). x) m lengths in
    let behind : length (drop m kept) ≡ length kept - m = length-drop m kept in
    ap (λ (l : List ℕ). l ++ unpacked (lengths ++ n ∷ []) (drop m (kept ++ take n block))) (block_of_front m kept (take n block) word.some word.whole)
    ∙ ap (λ (l : List ℕ). block_of m kept ++ unpacked (lengths ++ n ∷ []) l) (drop-append-le m kept (take n block) word.whole)
    ∙ ap (λ (l : List ℕ). block_of m kept ++ l) (unpacked_more lengths (drop m kept) block n are.1 (omega (arith, all, total, behind, word.whole)) long some most is)
    ∙ sym (append_assoc (block_of m kept) (unpacked lengths (drop m kept)) block)

-- the i-th word, and what is after it
pub record NextWord (lengths kept : List ℕ) (i n : ℕ) : Type 0 where
  pub word : IsWordKept n kept
  pub others : AreKept (drop (i + 1) lengths) (drop n kept)
  pub bytes : unpacked (drop i lengths) kept ≡ block_of n kept ++ unpacked (drop (i + 1) lengths) (drop n kept)

pub next_word : (lengths kept : List ℕ) (i : ℕ) → i < length lengths → AreKept (drop i lengths) kept → NextWord lengths kept i (get_or lengths i 0)
next_word lengths kept i lt are =
    let cut : drop i lengths ≡ get_or lengths i 0 ∷ drop (i + 1) lengths = drop_more lengths i 0 lt in
    let both : AreKept (get_or lengths i 0 ∷ drop (i + 1) lengths) kept = subst (λ (l : List ℕ). AreKept l kept) cut are in
    record {
      word = both.0;
      others = both.1;
      bytes = ap (λ (l : List ℕ). unpacked l kept) cut;
    }

-- no word is left
pub no_word : (lengths kept : List ℕ) (i : ℕ) → length lengths ≤ i → unpacked (drop i lengths) kept ≡ kept
no_word lengths kept i le = ap (λ (l : List ℕ). unpacked l kept) (drop_all i lengths le)

-- the text of a block is that of its word
word_text_of : (n : ℕ) (kept : List ℕ) → IsWordKept n kept → word_text (block_of n kept) ≡ codes " *" ++ encode_lower (take n kept)
word_text_of n kept word =
    let front : length (take n (block_of n kept)) ≡ n = length-take n (block_of n kept) ∙ omega (arith, word.most, length-block_of n kept) in
    let back : length (take n kept) ≡ n = length-take n kept ∙ omega (arith, word.whole) in
    let same : take n (block_of n kept) ≡ take n kept =
    ext_get_or 0 (take n (block_of n kept)) (take n kept) (front ∙ sym back)
    (λ k lt.
    let small : k < n = subst (λ (m : ℕ). k < m) front lt in
    get_or-take n (block_of n kept) k 0 small
    ∙ block_at n kept k (omega (arith, small, word.most))
    ∙ ap (λ (j : ℕ). get_or kept j 0) (mod-eq_of_lt small)
    ∙ sym (get_or-take n kept k 0 small)) in
    ap (λ (m : ℕ). codes " *" ++ encode_lower (take m (block_of n kept))) word.shortest
    ∙ ap (λ (l : List ℕ). codes " *" ++ encode_lower l) same

-- the text of the blocks from the i-th word on
pub next_text : (lengths kept so_far whole : List ℕ) (i n : ℕ) → NextWord lengths kept i n → whole ≡ so_far ++ blocks_text (unpacked (drop i lengths) kept)
    → whole ≡ so_far ++ (codes " *" ++ encode_lower (take n kept)) ++ blocks_text (unpacked (drop (i + 1) lengths) (drop n kept))
next_text lengths kept so_far whole i n next is =
    let block : List ℕ = block_of n kept in
    let behind : List ℕ = unpacked (drop (i + 1) lengths) (drop n kept) in
    let long : length block ≡ 512 = length-block_of n kept in
    let all : length (block ++ behind) ≡ length block + length behind = length-append block behind in
    blocks_text_more so_far whole (block ++ behind) block behind
    (is ∙ ap (λ (l : List ℕ). so_far ++ blocks_text l) next.bytes)
    (sym (subst (λ (m : ℕ). take m (block ++ behind) ≡ block) long (take-append_seam block behind)))
    (sym (subst (λ (m : ℕ). drop m (block ++ behind) ≡ behind) long (drop-append_seam block behind)))
    (omega (arith, all, long))
    ∙ ap (λ (l : List ℕ). so_far ++ l ++ blocks_text behind) (word_text_of n kept next.word)
