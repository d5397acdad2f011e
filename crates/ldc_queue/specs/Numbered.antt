-- The packets of a link that have numbers of their own: RDX and the parts of messages.
use Rattle.std.specs.Prelude.{◌≡◌, ℕ, ◌+◌, ◌%◌, Bool, true, false, ◌&&◌, ◌||◌, nat_eq, List, [], ◌∷◌, ⊤}
use Rattle.ldc_packet.specs.Spelling.{ctrl_at, seqid_at, type_at}

-- DATA, or CTRL with the control code RDX
abbrev pub is_numbered : List ℕ → Bool
is_numbered packet = nat_eq (type_at packet) 2 || (nat_eq (type_at packet) 1 && nat_eq (ctrl_at packet) 4)

abbrev pub kept : Bool → List ℕ → List (List ℕ) → List (List ℕ)
kept true packet packets = packet ∷ packets
kept false packet packets = packets

-- those of the packets that are numbered
abbrev pub numbered : List (List ℕ) → List (List ℕ)
numbered [] = []
numbered (packet ∷ packets) = kept (is_numbered packet) packet (numbered packets)

-- their seqids are n, n + 1 and so on, modulo 2^32
abbrev pub CountUp : ℕ → List (List ℕ) → Type 0
CountUp n [] = ⊤
CountUp n (packet ∷ packets) = (seqid_at packet ≡ n % 4294967296) × CountUp (n + 1) packets
