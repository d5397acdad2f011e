-- A domain's memory as a list of bytes.
use Rattle.std.specs.Prelude.{◌≡◌, ℕ, ◌*◌, ◌≤◌, List, length}

-- the list holds this many pages of 8,192 bytes, and no other byte
pub record HasPages (bytes : List ℕ) (pages : ℕ) : Type 0 where
  pub whole : length bytes ≡ 8192 * pages
  pub some : 1 ≤ pages
  pub most : pages ≤ 1028
