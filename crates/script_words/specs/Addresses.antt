-- Addresses on a network: six bytes. The first byte is even in a port's own address, and odd in that of a group.
use Rattle.std.specs.Prelude.{◌≡◌, ◌≢◌, ℕ, ◌%◌, ◌<◌, ◌==◌, ◌&&◌, not, Bool, List, length, slice_index}
use Rattle.std.specs.List.{AllByRecursion, list_any}
use Rattle.vio_bytes.specs.Ethernet.{broadcast}
use Rattle.std.specs.Str.{bytes_eq}

-- a port's own
pub record IsAddress (address : List ℕ) : Type 0 where
  pub long : length address ≡ 6
  pub bytes : AllByRecursion (λ (byte : ℕ). byte < 256) address
  pub even : slice_index address 0 % 2 ≡ 0

-- a group's, which isn't that of all ports
pub record IsGroupAddress (address : List ℕ) : Type 0 where
  pub long : length address ≡ 6
  pub odd : slice_index address 0 % 2 ≡ 1
  pub not_all : address ≢ broadcast

-- whether six bytes are one, and whether they are among others
abbrev pub is_own : List ℕ → Bool
is_own address = slice_index address 0 % 2 == 0

abbrev pub is_group : List ℕ → Bool
is_group address = (slice_index address 0 % 2 == 1) && not (bytes_eq address broadcast)

abbrev pub is_among : List ℕ → List (List ℕ) → Bool
is_among address others = list_any (λ other. bytes_eq other address) others
