-- WHERE THE KEPT BLOCKS STAND: each in a slot of 512 bytes of one room. One slot is spare: a put writes there.
use Rattle.std.specs.Prelude.{◌≡◌, ℕ, suc, ◌+◌, ◌-◌, ◌*◌, ◌<◌, ◌≤◌, cond, List, [], ◌∷◌, ◌++◌, map, length, take, nat_eq}
use Rattle.vio_bytes.specs.Range.{range_at}

-- the blocks, where each entry has its number and its slot
abbrev pub kept_of : List ℕ → List (ℕ × ℕ) → List (ℕ × List ℕ)
kept_of bytes entries = map (λ (e : ℕ × ℕ). (e.0, range_at (512 * e.1) 512 bytes)) entries

-- how often a number stands in a list
abbrev pub hits : ℕ → ℕ → ℕ
hits k x = cond (nat_eq k x) 1 0

abbrev pub times : ℕ → List ℕ → ℕ
times k [] = 0
times k (x ∷ xs) = hits k x + times k xs

-- none stands twice, and each is below the limit
pub record AreSlots (limit : ℕ) (slots : List ℕ) : Type 0 where
  pub once : (k : ℕ) → times k slots ≤ 1
  pub below : (k : ℕ) → 0 < times k slots → k < limit

abbrev pub slots_of : List (ℕ × ℕ) → List ℕ
slots_of entries = map (λ (e : ℕ × ℕ). e.1) entries

-- the spare slot, those of the entries, and the front of `free`: so many as could still be kept
abbrev pub all_slots : ℕ → ℕ → List (ℕ × ℕ) → List ℕ → List ℕ
all_slots most spare entries free = spare ∷ slots_of entries ++ take (most - length entries) free

pub record IsRoom (most spare : ℕ) (entries : List (ℕ × ℕ)) (free bytes : List ℕ) : Type 0 where
  pub slots : AreSlots (suc most) (all_slots most spare entries free)
  pub few : length entries ≤ most
  pub long : length free ≡ most
  pub bytes_long : length bytes ≡ 512 * suc most
