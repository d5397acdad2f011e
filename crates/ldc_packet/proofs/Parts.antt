-- Data packets by their head and the bytes that they carry.
use Rattle.std.proofs.Common.{◌≡◌, ℕ, ◌+◌, ◌-◌, ◌≤◌, List, length, take, drop, replicate, Ok, refl, sym, ap, ◌∙◌, arith}
use Rattle.std.proofs.lemmas.List.{drop-drop, drop-replicate, drop_at, length-append, length-replicate, length-take-le, take_at}
use Rattle.ldc_packet.specs.declared.part.PartHead.{PartHead}
use Rattle.ldc_packet.specs.Decoding.{Unpacks}
use Rattle.ldc_packet.specs.Parts.{part_packet}
use Rattle.ldc_packet.specs.Spelling.{env_at, part_env, payload_at, seqid_at, subtype_at, type_at}

-- bytes with the fields of a data packet spell it
pub part_unpacks : (bytes : List ℕ) (head : PartHead) → length bytes ≡ 64 → type_at bytes ≡ 2 → subtype_at bytes ≡ 1
    → env_at bytes ≡ part_env head.start head.stop head.len → seqid_at bytes ≡ head.seqid → 1 ≤ head.len → head.len ≤ 56
    → length (payload_at bytes) ≡ 56 → Unpacks bytes (Ok (part_packet head (payload_at bytes)))
part_unpacks bytes head size kind subtype env seqid some within room =
    let part : List ℕ = take head.len (payload_at bytes) in
    let zeros : List ℕ = replicate (56 - head.len) 0 in
    let long : length part ≡ head.len = length-take-le head.len (payload_at bytes) (omega (arith, within, room)) in
    record {
      packet = (
        record {
          info = refl;
          some = some;
          within = within;
          room = omega (arith, length-append part zeros, long, length-replicate {A = ℕ} (56 - head.len) 0, within);
          zeros = drop_at part zeros head.len long;
        },
        record {
          size = size;
          kind = kind;
          subtype = subtype;
          seqid = seqid;
          body = (env, sym (take_at part zeros head.len long));
        },
      );
      fault = tt;
    }

-- what is left of zeros after a part
pub zeros_left : (len : ℕ) (bytes : List ℕ) → drop 8 bytes ≡ replicate 56 0
    → drop (8 + len) bytes ≡ replicate (56 - len) 0
zeros_left len bytes zeros = sym (drop-drop len 8 bytes) ∙ ap (drop len) zeros ∙ drop-replicate len 56 0
