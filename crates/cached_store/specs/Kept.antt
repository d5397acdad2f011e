-- THE BLOCKS THAT ARE KEPT: each by its number with its bytes, the most recently used first.
use Rattle.std.specs.Prelude.{◌≡◌, ◌≢◌, ℕ, zero, suc, ◌+◌, ◌*◌, ◌<◌, ◌⊎◌, ◌&&◌, ⊤, Bool, true, List, [], ◌∷◌, ◌++◌, take, nat_eq, Option, Some, None, is_some, Contains}
use Rattle.std.specs.Option.{unwrap_or}
use Rattle.std.specs.Map.{lookup, remove_entry}
use Rattle.lru.specs.LruCache.{promoted}
use Rattle.vio_bytes.specs.Range.{range_at}

pub record KeptState : Type 0 where
  pub kept : List (ℕ × List ℕ)
  -- at most so many
  pub most : ℕ

-- the block with this number, where it is kept
abbrev pub kept_block : ℕ → List (ℕ × List ℕ) → Option (List ℕ)
kept_block number kept = lookup (nat_eq number) kept

-- ONE BLOCK: a use puts it first
abbrev pub used : ℕ → List (ℕ × List ℕ) → List (ℕ × List ℕ)
used number kept = promoted (nat_eq number) kept

abbrev pub without : ℕ → List (ℕ × List ℕ) → List (ℕ × List ℕ)
without number kept = remove_entry (nat_eq number) kept

-- it is put first with these bytes, and where there are too many the last goes
abbrev pub put_first : ℕ → ℕ → List ℕ → List (ℕ × List ℕ) → List (ℕ × List ℕ)
put_first most number bytes kept = take most ((number, bytes) ∷ without number kept)

-- A PUT may be refused for want of room, but only of a block that wasn't kept: so no other bytes of it stay
abbrev pub MayPut : ℕ → ℕ → List ℕ → List (ℕ × List ℕ) → List (ℕ × List ℕ) → Type 0
MayPut most number bytes old new = (new ≡ put_first most number bytes old) ⊎ ((kept_block number old ≡ None) × (new ≡ old))

-- what is kept behind a put: the block with these bytes, and what was kept of the others
abbrev pub KeepsOf : ℕ → List ℕ → List (ℕ × List ℕ) → List (ℕ × List ℕ) → Type 0
KeepsOf number bytes old new = (e : ℕ × List ℕ) → Contains new e → ((e.0 ≡ number) × (e.1 ≡ bytes)) ⊎ ((e.0 ≢ number) × Contains old e)

-- and where it is taken out: what was kept of the others
abbrev pub KeepsNoneOf : ℕ → List (ℕ × List ℕ) → List (ℕ × List ℕ) → Type 0
KeepsNoneOf number old new = (e : ℕ × List ℕ) → Contains new e → (e.0 ≢ number) × Contains old e

-- RANGES: n blocks from the first on, in rising order
abbrev pub all_kept : ℕ → ℕ → List (ℕ × List ℕ) → Bool
all_kept first zero kept = true
all_kept first (suc n) kept = all_kept first n kept && is_some (kept_block (first + n) kept)

-- their bytes, one block after another
abbrev pub bytes_kept : ℕ → ℕ → List (ℕ × List ℕ) → List ℕ
bytes_kept first zero kept = []
bytes_kept first (suc n) kept = bytes_kept first n kept ++ unwrap_or (kept_block (first + n) kept) []

abbrev pub used_range : ℕ → ℕ → List (ℕ × List ℕ) → List (ℕ × List ℕ)
used_range first zero kept = kept
used_range first (suc n) kept = used (first + n) (used_range first n kept)

abbrev pub without_range : ℕ → ℕ → List (ℕ × List ℕ) → List (ℕ × List ℕ)
without_range first zero kept = kept
without_range first (suc n) kept = without (first + n) (without_range first n kept)

-- each of them is put, or refused
abbrev pub MayPutRange : ℕ → ℕ → ℕ → List ℕ → List (ℕ × List ℕ) → List (ℕ × List ℕ) → Type 0
MayPutRange most first zero bytes old new = new ≡ old
MayPutRange most first (suc n) bytes old new =
    (mid : List (ℕ × List ℕ)) × MayPutRange most first n bytes old mid × MayPut most (first + n) (range_at (512 * n) 512 bytes) mid new

-- WHAT IS KEPT of n blocks from the first on is of these bytes, and what else is kept was kept before
abbrev pub IsOfRange : ℕ → ℕ → List ℕ → List (ℕ × List ℕ) → (ℕ × List ℕ) → Type 0
IsOfRange first n bytes old e =
    ((k : ℕ) × (k < n) × (e.0 ≡ first + k) × (e.1 ≡ range_at (512 * k) 512 bytes))
    ⊎ (((k : ℕ) → k < n → e.0 ≢ first + k) × Contains old e)

abbrev pub KeepsOfRange : ℕ → ℕ → List ℕ → List (ℕ × List ℕ) → List (ℕ × List ℕ) → Type 0
KeepsOfRange first n bytes old new = (e : ℕ × List ℕ) → Contains new e → IsOfRange first n bytes old e

-- nothing of them is kept, and what is kept was kept before
abbrev pub KeepsNoneOfRange : ℕ → ℕ → List (ℕ × List ℕ) → List (ℕ × List ℕ) → Type 0
KeepsNoneOfRange first n old new = (e : ℕ × List ℕ) → Contains new e → ((k : ℕ) → k < n → e.0 ≢ first + k) × Contains old e

-- EACH KEPT BLOCK is the content's, where that is told
abbrev pub Agrees : Option (List ℕ) → List (ℕ × List ℕ) → Type 0
Agrees None kept = ⊤
Agrees (Some content) kept = (e : ℕ × List ℕ) → Contains kept e → e.1 ≡ range_at (512 * e.0) 512 content
