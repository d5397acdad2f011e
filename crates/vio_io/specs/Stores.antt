-- Ranges of a store's list of bytes, where it tells them.
use Rattle.std.specs.Prelude.{◌≡◌, ℕ, ◌+◌, ◌%◌, ◌≤◌, List, length, take, drop, ⊤, Option, Some, None}
use Rattle.vio_bytes.specs.Place.{put_at}

-- a run of whole blocks within a store, of at most one unit: n bytes from the place `at`
pub record IsUnitRange (size at n : ℕ) : Type 0 where
  pub place : at % 512 ≡ 0
  pub blocks : n % 512 ≡ 0
  pub some : 512 ≤ n
  pub unit : n ≤ 8192
  pub within : at + n ≤ size

-- these are the bytes of the content from the place `at` on
abbrev pub ReadsRange : Option (List ℕ) → ℕ → List ℕ → Type 0
ReadsRange None at bytes = ⊤
ReadsRange (Some content) at bytes = bytes ≡ take (length bytes) (drop at content)

-- exactly this range of the content was written
abbrev pub WritesRange : Option (List ℕ) → Option (List ℕ) → ℕ → List ℕ → Type 0
WritesRange None new at bytes = ⊤
WritesRange (Some old) None at bytes = ⊥
WritesRange (Some old) (Some new) at bytes = new ≡ put_at at bytes old

-- all bytes outside the n bytes from the place `at` on stay
abbrev pub KeepsOutside : Option (List ℕ) → Option (List ℕ) → ℕ → ℕ → Type 0
KeepsOutside None new at n = ⊤
KeepsOutside (Some old) None at n = ⊥
KeepsOutside (Some old) (Some new) at n = (length new ≡ length old) × (take at new ≡ take at old) × (drop (at + n) new ≡ drop (at + n) old)
