-- A range or the answer to one, heard: its bytes decode to it, whatever the fields are that nobody compares.
use Rattle.std.proofs.Common.{◌≡◌, ℕ, ◌^◌, ◌<◌, List, length, refl, sym, ap, ◌∙◌, arith}
use Rattle.std.specs.Prelude.{Result, Ok, Err}
use Rattle.ldc_packet.specs.declared.packet.Subtype.{Subtype}
use Rattle.vio_bytes.specs.Place.{number_at}
use Rattle.vio_tag.proofs.Canonical.{canonical_spells}
use Rattle.vio_tag.proofs.NoFault.{spelled_no_fault}
use Rattle.vio_tag.proofs.Same.{spelled_once}
use Rattle.vio_tag.specs.declared.message.Message.{Message}
use Rattle.vio_tag.specs.declared.message.MsgBody.TheVariants.{DringData}
use Rattle.vio_tag.specs.declared.message.TagFault.{TagFault}
use Rattle.vio_tag.specs.Decoding.{Decodes}
use Rattle.vio_tag.specs.Form.{IsWellFormed}
use Rattle.vio_tag.specs.Spelling.{SpellsMessage, canonical, envelope_at, sid_at, subtype_at, type_at}
use Rattle.lane_models.proofs.Apart.{some_is_none}

-- bytes that spell a message decode to it
pub decodes_to : (bytes : List ℕ) (m : Message) (decoded : Result Message TagFault) → IsWellFormed m → SpellsMessage bytes m → Decodes bytes decoded → decoded ≡ Ok m
decodes_to bytes m (Ok d) form spells decodes = ap Ok (spelled_once bytes d m decodes.message.0 form decodes.message.1 spells)
decodes_to bytes m (Err fault) form spells decodes =
    some_is_none (sym decodes.fault ∙ spelled_no_fault bytes m form spells)

-- THE FIELDS of canonical bytes, with the two that nobody compares as they are read back
data_of : Subtype → ℕ → ℕ → ℕ → ℕ → ℕ → ℕ → Message
data_of s n seq ident start end state = record { subtype = s; sid = n; body = DringData seq ident start end state }

same_kind : (s : Subtype) (n seq ident start end state : ℕ) → type_at (canonical (data_of s n seq ident start end state)) ≡ type_at (canonical (data_of s n 0 ident start end 0))
unfolding canonical data_of
same_kind s n seq ident start end state = refl

same_subtype : (s : Subtype) (n seq ident start end state : ℕ) → subtype_at (canonical (data_of s n seq ident start end state)) ≡ subtype_at (canonical (data_of s n 0 ident start end 0))
unfolding canonical data_of
same_subtype s n seq ident start end state = refl

same_envelope : (s : Subtype) (n seq ident start end state : ℕ) → envelope_at (canonical (data_of s n seq ident start end state)) ≡ envelope_at (canonical (data_of s n 0 ident start end 0))
unfolding canonical data_of
same_envelope s n seq ident start end state = refl

same_sid : (s : Subtype) (n seq ident start end state : ℕ) → sid_at (canonical (data_of s n seq ident start end state)) ≡ sid_at (canonical (data_of s n 0 ident start end 0))
unfolding canonical data_of
same_sid s n seq ident start end state = refl

same_long : (s : Subtype) (n seq ident start end state : ℕ) → length (canonical (data_of s n seq ident start end state)) ≡ 56
unfolding canonical data_of
same_long s n seq ident start end state = omega arith

same_ident : (s : Subtype) (n seq ident start end state : ℕ) → number_at 8 16 (canonical (data_of s n seq ident start end state)) ≡ number_at 8 16 (canonical (data_of s n 0 ident start end 0))
unfolding canonical data_of
same_ident s n seq ident start end state = refl

same_start : (s : Subtype) (n seq ident start end state : ℕ) → number_at 4 24 (canonical (data_of s n seq ident start end state)) ≡ number_at 4 24 (canonical (data_of s n 0 ident start end 0))
unfolding canonical data_of
same_start s n seq ident start end state = refl

same_end : (s : Subtype) (n seq ident start end state : ℕ) → number_at 4 28 (canonical (data_of s n seq ident start end state)) ≡ number_at 4 28 (canonical (data_of s n 0 ident start end 0))
unfolding canonical data_of
same_end s n seq ident start end state = refl

same_seq : (s : Subtype) (n seq ident start end state : ℕ) → number_at 8 8 (canonical (data_of s n seq ident start end state)) ≡ number_at 8 8 (canonical (data_of s n seq ident start end 0))
unfolding canonical data_of
same_seq s n seq ident start end state = refl

plain_spells : (s : Subtype) (n ident start end : ℕ) → n < 2 ^ 32 → ident < 2 ^ 64 → start < 2 ^ 32 → end < 2 ^ 32
    → SpellsMessage (canonical (data_of s n 0 ident start end 0)) (record { subtype = s; sid = n; body = DringData 0 ident start end 0 })
unfolding data_of
plain_spells s n ident start end small fits small_start small_end =
    canonical_spells (record { subtype = s; sid = n; body = DringData 0 ident start end 0 }) tt (small, (omega arith, fits, small_start, small_end, omega arith))

seq_spells : (s : Subtype) (n seq ident start end : ℕ) → n < 2 ^ 32 → seq < 2 ^ 64 → ident < 2 ^ 64 → start < 2 ^ 32 → end < 2 ^ 32
    → SpellsMessage (canonical (data_of s n seq ident start end 0)) (record { subtype = s; sid = n; body = DringData seq ident start end 0 })
unfolding data_of
seq_spells s n seq ident start end small few fits small_start small_end =
    canonical_spells (record { subtype = s; sid = n; body = DringData seq ident start end 0 }) tt (small, (few, fits, small_start, small_end, omega arith))

-- the bytes, and what they spell
abbrev pub data_bytes : Subtype → ℕ → ℕ → ℕ → ℕ → ℕ → ℕ → List ℕ
data_bytes s n seq ident start end state = canonical (record { subtype = s; sid = n; body = DringData seq ident start end state })

abbrev pub read_data : Subtype → ℕ → ℕ → ℕ → ℕ → List ℕ → Message
read_data s n ident start end bytes = record { subtype = s; sid = n; body = DringData (number_at 8 8 bytes) ident start end (number_at 1 32 bytes) }

named : (s : Subtype) (n seq ident start end state : ℕ) → data_bytes s n seq ident start end state ≡ canonical (data_of s n seq ident start end state)
unfolding data_of
named s n seq ident start end state = refl

data_of_spells : (s : Subtype) (n seq ident start end state : ℕ) → n < 2 ^ 32 → ident < 2 ^ 64 → start < 2 ^ 32 → end < 2 ^ 32
    → SpellsMessage (canonical (data_of s n seq ident start end state)) (read_data s n ident start end (canonical (data_of s n seq ident start end state)))
data_of_spells s n seq ident start end state small fits small_start small_end =
    let plain = plain_spells s n ident start end small fits small_start small_end in
    record {
      kind = same_kind s n seq ident start end state ∙ plain.kind;
      subtype = same_subtype s n seq ident start end state ∙ plain.subtype;
      envelope = same_envelope s n seq ident start end state ∙ plain.envelope;
      sid = plain.sid ∙ sym (same_sid s n seq ident start end state);
      long = same_long s n seq ident start end state;
      body = (
        refl,
        plain.body.1 ∙ sym (same_ident s n seq ident start end state),
        plain.body.2 ∙ sym (same_start s n seq ident start end state),
        plain.body.3 ∙ sym (same_end s n seq ident start end state),
        refl,
      );
    }

pub data_spells : (s : Subtype) (n seq ident start end state : ℕ) → n < 2 ^ 32 → ident < 2 ^ 64 → start < 2 ^ 32 → end < 2 ^ 32
    → SpellsMessage (data_bytes s n seq ident start end state) (read_data s n ident start end (data_bytes s n seq ident start end state))
data_spells s n seq ident start end state small fits small_start small_end = search (named, data_of_spells)

-- its number is read back
pub seq_reads : (s : Subtype) (n seq ident start end state : ℕ) → n < 2 ^ 32 → seq < 2 ^ 64 → ident < 2 ^ 64 → start < 2 ^ 32 → end < 2 ^ 32
    → number_at 8 8 (data_bytes s n seq ident start end state) ≡ seq
seq_reads s n seq ident start end state small few fits small_start small_end =
    ap (number_at 8 8) (named s n seq ident start end state) ∙ same_seq s n seq ident start end state
    ∙ sym (seq_spells s n seq ident start end small few fits small_start small_end).body.0
