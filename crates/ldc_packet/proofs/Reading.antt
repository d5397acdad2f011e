-- Bytes decode to one result.
use Rattle.std.proofs.Common.{◌≡◌, ℕ, List, Option, Some, None, Result, Ok, Err, ap}
use Rattle.ldc_packet.specs.declared.packet.Packet.{Packet}
use Rattle.ldc_packet.specs.declared.packet.PacketFault.{PacketFault}
use Rattle.ldc_packet.specs.Decoding.{Unpacks}
use Rattle.ldc_packet.specs.Fault.{first_fault}
use Rattle.ldc_packet.specs.Form.{HasWidths, IsWellFormed}
use Rattle.ldc_packet.specs.Spelling.{SpellsPacket, canonical}
use Rattle.ldc_packet.proofs.Canonical.{canonical_spells}
use Rattle.ldc_packet.proofs.NoFault.{spelled_no_fault}
use Rattle.ldc_packet.proofs.Same.{same_packet}

some_is_none : {A : Type 0} (x : A) (o : Option A) → o ≡ Some x → o ≡ None → ⊥
some_is_none x o is none = cc

same_some : {A : Type 0} (x y : A) (o : Option A) → o ≡ Some x → o ≡ Some y → x ≡ y
same_some x y o is other = cc

-- bytes don't both spell a packet and have a fault
pub never_both : (bytes : List ℕ) (packet : Packet) (fault : PacketFault) → IsWellFormed packet → SpellsPacket bytes packet
    → first_fault bytes ≡ Some fault → ⊥
never_both bytes packet fault form spelled first =
    some_is_none fault (first_fault bytes) first (spelled_no_fault bytes packet form spelled)

-- what is spelled is the result
pub only_spelled : (bytes : List ℕ) (result : Result Packet PacketFault) → Unpacks bytes result
    → (packet : Packet) → IsWellFormed packet → SpellsPacket bytes packet → result ≡ Ok packet
only_spelled bytes (Ok found) is packet form spelled = ap Ok (same_packet bytes found packet is.packet.0 form is.packet.1 spelled)
only_spelled bytes (Err fault) is packet form spelled = absurd (never_both bytes packet fault form spelled is.fault)

-- what is wrong first is the result
pub only_refused : (bytes : List ℕ) (result : Result Packet PacketFault) → Unpacks bytes result
    → (fault : PacketFault) → first_fault bytes ≡ Some fault → result ≡ Err fault
only_refused bytes (Ok found) is fault first = absurd (never_both bytes found fault is.packet.0 is.packet.1 first)
only_refused bytes (Err found) is fault first = ap Err (same_some found fault (first_fault bytes) is.fault first)

-- bytes decode to one result
pub one_result : (bytes : List ℕ) (one other : Result Packet PacketFault) → Unpacks bytes one → Unpacks bytes other → one ≡ other
one_result bytes one (Ok packet) is other_is = only_spelled bytes one is packet other_is.packet.0 other_is.packet.1
one_result bytes one (Err fault) is other_is = only_refused bytes one is fault other_is.fault

-- what spells a packet decodes to it
pub spelled_unpacks : (bytes : List ℕ) (packet : Packet) → IsWellFormed packet → SpellsPacket bytes packet → Unpacks bytes (Ok packet)
spelled_unpacks bytes packet form spelled = record { packet = (form, spelled); fault = tt }

-- the canonical bytes of a packet decode to it alone
pub unpacked : (packet : Packet) (d : Result Packet PacketFault) → IsWellFormed packet → HasWidths packet
    → Unpacks (canonical packet) d → d ≡ Ok packet
unpacked packet d form fits is = only_spelled (canonical packet) d is packet form (canonical_spells packet form fits)
