-- Which messages name a range of slots, and which agree to RDX: by their bytes, as they were heard and as they are said.
use Rattle.std.proofs.Common.{◌≡◌, ◌≢◌, ℕ, ◌%◌, ◌^◌, ◌<◌, ◌⊎◌, Bool, true, false, Some, None, List, refl, sym, ap, ◌∙◌, arith}
use Rattle.std.specs.Prelude.{◌==◌, ⊤}
use Rattle.ldc_packet.specs.declared.packet.Subtype.{Subtype}
use Rattle.ldc_packet.specs.Spelling.{subtype_code}
use Rattle.vio_tag.proofs.Canonical.{canonical_spells}
use Rattle.vio_tag.specs.declared.message.Message.{Message}
use Rattle.vio_tag.specs.declared.message.MsgBody.{MsgBody}
use Rattle.vio_tag.specs.declared.message.MsgBody.TheVariants.{DringData, Plain}
use Rattle.vio_tag.specs.Form.{HasForm, IsWellFormed}
use Rattle.vio_tag.specs.Spelling.{SpellsMessage, canonical, envelope_at, envelope_code, subtype_at}
use Rattle.vio_handshake.specs.declared.handshake.Phase.{Phase}
use Rattle.vio_bytes.specs.Place.{big_bytes, number_at}
use Rattle.lane_models.specs.Messages.{end_slot_of, is_range, range_if, range_in, seq_of, sid_of, start_slot_of}
use Rattle.lane_laws.specs.EndLog.{ident_of, state_of}
use Rattle.lane_laws.specs.WorkLog.{length_in, one_in}
use Rattle.dring.specs.Slots.{range_length}
use Rattle.vio_handshake.specs.declared.handshake.Handshake.{Handshake}
use Rattle.lane_models.proofs.HandshakeCases.{HandshakeTook, row_apart}
use Rattle.lane_models.specs.EndStep.{IsOfSession}
use Rattle.lane_models.specs.HandshakeFits.{MayOwe}

-- THE ENVELOPE AND THE SUBTYPE of canonical bytes
abbrev pub IsNoPlain : MsgBody → Type 0
IsNoPlain (Plain envelope) = ⊥
IsNoPlain _ = ⊤

pub envelope_reads : (s : Subtype) (n : ℕ) (b : MsgBody) → IsNoPlain b → envelope_at (canonical (record { subtype = s; sid = n; body = b })) ≡ envelope_code b
unfolding canonical
envelope_reads s n b not = grind arith

pub subtype_reads : (m : Message) → subtype_at (canonical m) ≡ subtype_code m.subtype
unfolding canonical
subtype_reads m = omega arith

-- NO RANGE
abbrev pub IsNoData : MsgBody → Type 0
IsNoData (DringData seq ident start end state) = ⊥
IsNoData _ = ⊤

pub formed_code : (b : MsgBody) → IsNoData b → HasForm b → envelope_code b ≢ 0x0042
formed_code b not form is = grind arith

unequal : (a b : ℕ) → a ≢ b → (a == b) ≡ false
unequal a b not = grind arith

no_range : (k : ℕ) (bytes : List ℕ) → is_range k bytes ≡ false → range_in k (Some bytes) ≡ None
no_range k bytes is = ap (λ (b : Bool). range_if b bytes) is

pub other_envelope : (k : ℕ) (bytes : List ℕ) → envelope_at bytes ≢ 0x0042 → range_in k (Some bytes) ≡ None
other_envelope k bytes not = no_range k bytes (rw (unequal (envelope_at bytes) 0x0042 not) refl)

pub other_subtype : (k : ℕ) (bytes : List ℕ) → subtype_at bytes ≢ k → range_in k (Some bytes) ≡ None
other_subtype k bytes not = grind arith

-- a message of the handshake that was heard
pub heard_no_range : (k : ℕ) (bytes : List ℕ) (m : Message) → SpellsMessage bytes m → IsWellFormed m → IsNoData m.body → range_in k (Some bytes) ≡ None
heard_no_range k bytes m spells form not =
    other_envelope k bytes (λ (is : envelope_at bytes ≡ 0x0042). formed_code m.body not form (sym spells.envelope ∙ is))

apart_data : (body : MsgBody) → (IsOfSession body → ⊥) → IsNoData body
apart_data (DringData seq ident start end state) apart = apart tt
apart_data _ apart = tt

pub no_data : (h g : Handshake) (message : Message) (opens : Bool) → HandshakeTook h message g opens → IsNoData message.body
no_data h g message opens took = apart_data message.body (row_apart h g message opens took.row)

-- NO MESSAGE OF GROUPS
no_group : (b : MsgBody) → (IsOfSession b → ⊥) → HasForm b → envelope_code b ≢ 0x0101
no_group b apart form is = grind arith

pub heard_no_group : (bytes : List ℕ) (m : Message) (h g : Handshake) (opens : Bool) → SpellsMessage bytes m → IsWellFormed m → HandshakeTook h m g opens → number_at 2 2 bytes ≢ 0x0101
heard_no_group bytes m h g opens spells form took is = no_group m.body (row_apart h g m opens took.row) form (sym spells.envelope ∙ is)

pub data_no_group : (bytes : List ℕ) (m : Message) (seq ident start end state : ℕ) → SpellsMessage bytes m → m.body ≡ DringData seq ident start end state → number_at 2 2 bytes ≢ 0x0101
data_no_group bytes m seq ident start end state spells body is =
    absurd (omega (arith, ap envelope_code body, spells.envelope, is))

-- what a handshake owes
owed_in : (phase : Phase) (k n : ℕ) (s : Subtype) (b : MsgBody) → (k ≡ 1) ⊎ (k ≡ 2) → MayOwe phase s b → range_in k (Some (canonical (record { subtype = s; sid = n; body = b }))) ≡ None
owed_in phase k n s b kind may = grind (arith, subtype_reads, envelope_reads)

pub owed_no_range : (phase : Phase) (k : ℕ) (m : Message) → (k ≡ 1) ⊎ (k ≡ 2) → MayOwe phase m.subtype m.body → range_in k (Some (canonical m)) ≡ None
owed_no_range phase k m kind may = owed_in phase k m.sid m.subtype m.body kind may

-- A RANGE, as it was heard
test_is : (k : ℕ) (bytes : List ℕ) → envelope_at bytes ≡ 0x0042 → subtype_at bytes ≡ k → is_range k bytes ≡ true
test_is k bytes envelope subtype = grind arith

pub range_is : (k : ℕ) (bytes : List ℕ) → envelope_at bytes ≡ 0x0042 → subtype_at bytes ≡ k → range_in k (Some bytes) ≡ Some bytes
range_is k bytes envelope subtype = ap (λ (b : Bool). range_if b bytes) (test_is k bytes envelope subtype)

pub heard_range : (slots k : ℕ) (bytes : List ℕ) (m : Message) (seq ident start end state : ℕ) → SpellsMessage bytes m → subtype_code m.subtype ≡ k
    → m.body ≡ DringData seq ident start end state → length_in slots (range_in k (Some bytes)) ≡ range_length slots start end
heard_range slots k bytes m seq ident start end state spells kind body = grind (arith, range_is)

-- and as it is said: three of its fields are read back, whatever the others are
abbrev range_bytes : Subtype → ℕ → ℕ → ℕ → ℕ → ℕ → ℕ → List ℕ
range_bytes s n seq ident start end state = canonical (record { subtype = s; sid = n; body = DringData seq ident start end state })

simple : Subtype → ℕ → ℕ → ℕ → Message
simple s seq start end = record { subtype = s; sid = 0; body = DringData seq 0 start end 0 }

same_seq : (s : Subtype) (n seq ident start end state : ℕ) → seq_of (range_bytes s n seq ident start end state) ≡ seq_of (canonical (simple s seq 0 0))
unfolding canonical simple
same_seq s n seq ident start end state = refl

same_start : (s : Subtype) (n seq ident start end state : ℕ) → start_slot_of (range_bytes s n seq ident start end state) ≡ start_slot_of (canonical (simple s 0 start 0))
unfolding canonical simple
same_start s n seq ident start end state = refl

same_end : (s : Subtype) (n seq ident start end state : ℕ) → end_slot_of (range_bytes s n seq ident start end state) ≡ end_slot_of (canonical (simple s 0 0 end))
unfolding canonical simple
same_end s n seq ident start end state = refl

simple_spells : (s : Subtype) (seq start end : ℕ) → seq < 2 ^ 64 → start < 2 ^ 32 → end < 2 ^ 32
    → SpellsMessage (canonical (simple s seq start end)) (record { subtype = s; sid = 0; body = DringData seq 0 start end 0 })
unfolding simple
simple_spells s seq start end small_seq small_start small_end =
    canonical_spells (record { subtype = s; sid = 0; body = DringData seq 0 start end 0 }) tt (omega arith, (small_seq, omega arith, small_start, small_end, omega arith))

pub seq_is : (s : Subtype) (n seq ident start end state : ℕ) → seq < 2 ^ 64 → seq_of (range_bytes s n seq ident start end state) ≡ seq
seq_is s n seq ident start end state small =
    same_seq s n seq ident start end state ∙ sym (simple_spells s seq 0 0 small (omega arith) (omega arith)).body.0

pub start_is : (s : Subtype) (n seq ident start end state : ℕ) → start < 2 ^ 32 → start_slot_of (range_bytes s n seq ident start end state) ≡ start
start_is s n seq ident start end state small =
    same_start s n seq ident start end state ∙ sym (simple_spells s 0 start 0 (omega arith) small (omega arith)).body.2

pub end_is : (s : Subtype) (n seq ident start end state : ℕ) → end < 2 ^ 32 → end_slot_of (range_bytes s n seq ident start end state) ≡ end
end_is s n seq ident start end state small =
    same_end s n seq ident start end state ∙ sym (simple_spells s 0 0 end (omega arith) (omega arith) small).body.3

-- the state, which is a byte
with_state : Subtype → ℕ → Message
with_state s state = record { subtype = s; sid = 0; body = DringData 0 0 0 0 state }

same_state : (s : Subtype) (n seq ident start end state : ℕ) → state_of (range_bytes s n seq ident start end state) ≡ state_of (canonical (with_state s (state % 256)))
unfolding canonical with_state
same_state s n seq ident start end state = omega arith

state_spells : (s : Subtype) (state : ℕ) → state < 2 ^ 8 → SpellsMessage (canonical (with_state s state)) (record { subtype = s; sid = 0; body = DringData 0 0 0 0 state })
unfolding with_state
state_spells s state small =
    canonical_spells (record { subtype = s; sid = 0; body = DringData 0 0 0 0 state }) tt (omega arith, (omega arith, omega arith, omega arith, omega arith, small))

pub state_is : (s : Subtype) (n seq ident start end state : ℕ) → state_of (range_bytes s n seq ident start end state) ≡ state % 256
state_is s n seq ident start end state =
    same_state s n seq ident start end state ∙ sym (state_spells s (state % 256) (omega arith)).body.4

-- the sid and the number of the ring, as many bytes of them as their fields have
with_names : Subtype → ℕ → ℕ → Message
with_names s n ident = record { subtype = s; sid = n; body = DringData 0 ident 0 0 0 }

with_sid : (s : Subtype) (n seq ident start end state : ℕ) → sid_of (range_bytes s n seq ident start end state) ≡ number_at 4 0 (big_bytes 4 n)
unfolding canonical
with_sid s n seq ident start end state = refl

with_ident : (s : Subtype) (n seq ident start end state : ℕ) → ident_of (range_bytes s n seq ident start end state) ≡ number_at 8 0 (big_bytes 8 ident)
unfolding canonical
with_ident s n seq ident start end state = refl

pub sid_is : (s : Subtype) (n seq ident start end state : ℕ) → sid_of (range_bytes s n seq ident start end state) ≡ n % 2 ^ 32
unfolding with_names
sid_is s n seq ident start end state = grind (arith, with_sid)

pub ident_is : (s : Subtype) (n seq ident start end state : ℕ) → ident_of (range_bytes s n seq ident start end state) ≡ ident % 2 ^ 64
unfolding with_names
ident_is s n seq ident start end state = grind (arith, with_ident)

pub is_data : (k n : ℕ) (s : Subtype) (seq ident start end state : ℕ) → subtype_code s ≡ k → is_range k (range_bytes s n seq ident start end state) ≡ true
is_data k n s seq ident start end state kind = search (test_is, envelope_reads, subtype_reads)

pub said_is : (k n : ℕ) (s : Subtype) (seq ident start end state : ℕ) → subtype_code s ≡ k
    → range_in k (Some (range_bytes s n seq ident start end state)) ≡ Some (range_bytes s n seq ident start end state)
said_is k n s seq ident start end state kind =
    ap (λ (b : Bool). range_if b (range_bytes s n seq ident start end state)) (is_data k n s seq ident start end state kind)

pub said_range : (slots k n : ℕ) (s : Subtype) (seq ident start end state : ℕ) → subtype_code s ≡ k → start < 2 ^ 32 → end < 2 ^ 32
    → length_in slots (range_in k (Some (canonical (record { subtype = s; sid = n; body = DringData seq ident start end state })))) ≡ range_length slots start end
said_range slots k n s seq ident start end state kind small_start small_end = search (said_is, start_is, end_is)

pub said_one : (k n : ℕ) (s : Subtype) (seq ident start end state : ℕ) → subtype_code s ≡ k
    → one_in (range_in k (Some (canonical (record { subtype = s; sid = n; body = DringData seq ident start end state })))) ≡ 1
said_one k n s seq ident start end state kind = ap one_in (said_is k n s seq ident start end state kind)
