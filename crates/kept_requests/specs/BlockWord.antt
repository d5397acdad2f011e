-- The word that a block of 512 bytes repeats, and its text.
use Rattle.std.specs.Prelude.{ℕ, ◌/◌, ◌%◌, zero, suc, Bool, List, [], ◌∷◌, ◌++◌, length, take, drop, map, find, unwrap_or, slice_index, codes}
use Rattle.std.specs.List.{range_with_len}
use Rattle.std.specs.Str.{bytes_eq}
use Rattle.hex.specs.Hex.{encode_lower}

-- the first n bytes of a list, again and again: m bytes
abbrev pub cycle : ℕ → ℕ → List ℕ → List ℕ
cycle n m bytes = map (λ k. slice_index bytes (k % n)) (range_with_len 0 m)

-- the first n bytes of a block, again and again, as long as the block
abbrev pub repetition : List ℕ → ℕ → List ℕ
repetition block n = cycle n (length block) block

-- whether a block repeats its first n bytes
unfoldable pub repeats : List ℕ → ℕ → Bool
repeats block n = bytes_eq block (repetition block n)

-- how long a word can be
abbrev pub word_lengths : List ℕ
word_lengths = 1 ∷ 2 ∷ 4 ∷ 8 ∷ 16 ∷ 32 ∷ 64 ∷ 128 ∷ 256 ∷ 512 ∷ []

-- the length of the shortest word that a block repeats
unfoldable pub word_length : List ℕ → ℕ
word_length block = unwrap_or (find (repeats block) word_lengths) 512

-- the text of a block in a line: `*` and the shortest word
abbrev pub word_text : List ℕ → List ℕ
word_text block = codes " *" ++ encode_lower (take (word_length block) block)

-- the text of n blocks
abbrev pub words_text : ℕ → List ℕ → List ℕ
words_text zero bytes = []
words_text (suc n) bytes = word_text (take 512 bytes) ++ words_text n (drop 512 bytes)

-- the text of the blocks that a list holds
unfoldable pub blocks_text : List ℕ → List ℕ
blocks_text bytes = words_text (length bytes / 512) bytes
