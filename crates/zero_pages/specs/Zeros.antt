-- Pages that begin as zeros, of which only the written ones are kept.
use Rattle.std.specs.Prelude.{◌≡◌, ◌≢◌, ℕ, zero, suc, ◌*◌, ◌<◌, ◌≤◌, List, [], ◌∷◌, length, get_or, replicate}
use Rattle.std.specs.List.{flat_map}
use Rattle.vio_bytes.specs.Range.{range_at}

-- a page of 4,096 bytes: zeros at the place 0, else the kept page of this number, counted from 1
abbrev pub page_at : List ℕ → ℕ → List ℕ
page_at kept zero = replicate 4096 0
page_at kept (suc k) = range_at (4096 * k) 4096 kept

-- the pages of these places, one after the other
abbrev pub pages_at : List ℕ → List ℕ → List ℕ
pages_at kept places = flat_map (page_at kept) places

-- how many of the places aren't 0
abbrev pub kept_count : List ℕ → ℕ
kept_count [] = 0
kept_count (zero ∷ places) = kept_count places
kept_count (suc k ∷ places) = suc (kept_count places)

-- each place is 0 or names a kept page, no two name the same, and as many pages are kept as are named
pub record AreKept (kept places : List ℕ) : Type 0 where
  pub named : (i : ℕ) → i < length places → 4096 * get_or places i 0 ≤ length kept
  pub apart : (i j : ℕ) → i < length places → j < length places → i ≢ j → get_or places i 0 ≡ get_or places j 0 → get_or places i 0 ≡ 0
  pub many : length kept ≡ 4096 * kept_count places
