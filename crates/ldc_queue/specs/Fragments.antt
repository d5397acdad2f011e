-- How a message is cut into the parts that its packets carry.
use Rattle.std.specs.Prelude.{◌≡◌, ℕ, ◌≤◌, ◌/◌, ◌%◌, Bool, true, false, nat_eq, List, [], ◌∷◌, ◌++◌, length, take, ⊤}
use Rattle.ldc_packet.specs.Spelling.{env_at, payload_at, type_at}

-- a part: whether a message begins and ends with it, and its bytes
pub record Fragment : Type 0 where
  pub start : Bool
  pub stop : Bool
  pub bytes : List ℕ

-- their bytes, one after the other
abbrev pub joined : List Fragment → List ℕ
joined [] = []
joined (fragment ∷ fragments) = fragment.bytes ++ joined fragments

-- each has 1 to 56 bytes
abbrev pub AreParts : List Fragment → Type 0
AreParts [] = ⊤
AreParts (fragment ∷ fragments) = (1 ≤ length fragment.bytes) × (length fragment.bytes ≤ 56) × AreParts fragments

-- STOP stands on the last alone, and START on none, or where the flag says so on the first alone
abbrev pub AreFlagged : Bool → List Fragment → Type 0
AreFlagged first [] = ⊥
AreFlagged first (fragment ∷ []) = (fragment.start ≡ first) × (fragment.stop ≡ true)
AreFlagged first (fragment ∷ next ∷ fragments) =
    (fragment.start ≡ first) × (fragment.stop ≡ false) × AreFlagged false (next ∷ fragments)

-- the parts of a message of 1 to 256 bytes
pub record FragmentsOf (message : List ℕ) (fragments : List Fragment) : Type 0 where
  pub some : 1 ≤ length message
  pub most : length message ≤ 256
  pub bytes : message ≡ joined fragments
  pub parts : AreParts fragments
  pub flags : AreFlagged true fragments

-- the part that the bytes of a data packet carry: START is 0x40 and STOP 0x80 of the env byte, its low six bits the length
abbrev pub is_part : List ℕ → Bool
is_part packet = nat_eq (type_at packet) 2

abbrev pub fragment_at : List ℕ → Fragment
fragment_at packet = record {
  start = nat_eq (env_at packet / 64 % 2) 1;
  stop = nat_eq (env_at packet / 128 % 2) 1;
  bytes = take (env_at packet % 64) (payload_at packet);
}

abbrev pub joins : Bool → Fragment → List Fragment → List Fragment
joins true fragment fragments = fragment ∷ fragments
joins false fragment fragments = fragments

-- the parts among the packets
abbrev pub fragments_in : List (List ℕ) → List Fragment
fragments_in [] = []
fragments_in (packet ∷ packets) = joins (is_part packet) (fragment_at packet) (fragments_in packets)
