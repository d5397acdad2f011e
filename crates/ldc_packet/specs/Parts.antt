-- Data packets by their head and the bytes that they carry.
use Rattle.std.specs.Prelude.{ℕ, ◌-◌, Bool, ◌&&◌, ◌==◌, List, ◌++◌, take, replicate}
use Rattle.ldc_packet.specs.declared.packet.Body.TheVariants.{Part}
use Rattle.ldc_packet.specs.declared.packet.Packet.{Packet}
use Rattle.ldc_packet.specs.declared.packet.Subtype.TheVariants.{Info}
use Rattle.ldc_packet.specs.declared.part.PartHead.{PartHead}
use Rattle.ldc_packet.specs.Fault.{is_length, is_subtype}
use Rattle.ldc_packet.specs.Spelling.{env_at, subtype_at, type_at}

-- the bytes spell a data packet
abbrev pub is_part : List ℕ → Bool
is_part bytes = type_at bytes == 2 && (is_subtype 2 (subtype_at bytes) && is_length 2 (env_at bytes))

-- the data packet with the head that carries the front of the bytes
abbrev pub part_packet : PartHead → List ℕ → Packet
part_packet head bytes = record {
  subtype = Info;
  seqid = head.seqid;
  body = Part head.start head.stop head.len (take head.len bytes ++ replicate (56 - head.len) 0);
}
