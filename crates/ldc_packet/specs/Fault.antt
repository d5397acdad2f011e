-- Why bytes are no packet.
use Rattle.std.specs.Prelude.{ℕ, ◌%◌, Bool, true, ◌&&◌, ◌||◌, not, nat_le, ◌==◌, if◌then◌else◌, List, Option, Some, None}
use Rattle.ldc_packet.specs.declared.packet.PacketFault.{PacketFault}
use Rattle.ldc_packet.specs.declared.packet.PacketFault.TheVariants.{Kind, Subtype, Ctrl, Length}
use Rattle.ldc_packet.specs.Spelling.{type_at, subtype_at, ctrl_at, env_at}

-- CTRL or DATA
abbrev pub is_type : ℕ → Bool
is_type kind = kind == 1 || kind == 2

-- DATA has the subtype INFO, and CTRL has INFO, ACK or NACK
abbrev pub is_subtype : ℕ → ℕ → Bool
is_subtype kind code = if kind == 2 then code == 1 else (code == 1 || code == 2 || code == 4)

-- CTRL has VERS, RTS, RTR or RDX
abbrev pub is_ctrl : ℕ → ℕ → Bool
is_ctrl kind ctrl = if kind == 1 then (nat_le 1 ctrl && nat_le ctrl 4) else true

-- DATA has 1 to 56 bytes, as the low six bits of its env byte say
abbrev pub is_length : ℕ → ℕ → Bool
is_length kind env = if kind == 2 then (nat_le 1 (env % 64) && nat_le (env % 64) 56) else true

-- the first thing that is wrong, or none
abbrev pub first_fault : List ℕ → Option PacketFault
first_fault bytes =
    if not (is_type (type_at bytes)) then Some Kind
    else if not (is_subtype (type_at bytes) (subtype_at bytes)) then Some Subtype
    else if not (is_ctrl (type_at bytes) (ctrl_at bytes)) then Some Ctrl
    else if not (is_length (type_at bytes) (env_at bytes)) then Some Length
    else None
