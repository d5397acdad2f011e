-- Blocks of 512 bytes that are kept as the words that they repeat. `lengths` are those of the words, and `kept` are the
-- words, one after the other, and bytes after them that are kept as they are.
use Rattle.std.specs.Prelude.{◌≡◌, ℕ, ⊤, ◌<◌, ◌≤◌, List, [], ◌∷◌, ◌++◌, length, drop}
use Rattle.kept_requests.specs.BlockWord.{cycle, word_length}

-- the block that repeats the first n bytes of a list
unfoldable pub block_of : ℕ → List ℕ → List ℕ
block_of n bytes = cycle n 512 bytes

-- the blocks, and the bytes after them
abbrev pub unpacked : List ℕ → List ℕ → List ℕ
unpacked [] kept = kept
unpacked (n ∷ lengths) kept = block_of n kept ++ unpacked lengths (drop n kept)

-- each word is kept whole, and is the shortest that its block repeats
pub record IsWordKept (n : ℕ) (kept : List ℕ) : Type 0 where
  pub some : 0 < n
  pub most : n ≤ 512
  pub whole : n ≤ length kept
  pub shortest : word_length (block_of n kept) ≡ n

abbrev pub AreKept : List ℕ → List ℕ → Type 0
AreKept [] kept = ⊤
AreKept (n ∷ lengths) kept = IsWordKept n kept × AreKept lengths (drop n kept)
