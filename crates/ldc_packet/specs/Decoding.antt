-- What 64 bytes decode to.
use Rattle.std.specs.Prelude.{◌≡◌, ℕ, List, Some, Result, IfOk, IfErr}
use Rattle.ldc_packet.specs.declared.packet.Packet.{Packet}
use Rattle.ldc_packet.specs.declared.packet.PacketFault.{PacketFault}
use Rattle.ldc_packet.specs.Fault.{first_fault}
use Rattle.ldc_packet.specs.Form.{IsWellFormed}
use Rattle.ldc_packet.specs.Spelling.{SpellsPacket}

-- the bytes spell the packet, or the fault is their first
pub record Unpacks (bytes : List ℕ) (result : Result Packet PacketFault) : Type 0 where
  pub packet : IfOk result (λ packet. IsWellFormed packet × SpellsPacket bytes packet)
  pub fault : IfErr result (λ fault. first_fault bytes ≡ Some fault)
