-- Nothing is wrong with bytes that spell a well-formed message.
use Rattle.std.proofs.Common.{◌≡◌, ℕ, ◌+◌, ◌*◌, ◌≤◌, true, false, nat_lt, nat_le, ◌==◌, List, length, None, refl, sym, ap, ◌∙◌, arith, inl, inr, eq-eqb}
use Rattle.std.proofs.lemmas.Bool.{le-leb, le-ltb}
use Rattle.ldc_packet.specs.declared.packet.Subtype.{Subtype}
use Rattle.ldc_packet.specs.declared.packet.Subtype.TheVariants.{Info, Ack, Nack}
use Rattle.ldc_packet.specs.Spelling.{subtype_code}
use Rattle.vio_tag.specs.declared.message.Message.{Message}
use Rattle.vio_tag.specs.declared.message.MsgBody.{MsgBody}
use Rattle.vio_tag.specs.declared.message.MsgBody.TheVariants.{Ver, Attr, DringReg, DringUnreg, Rdx, DringData, Mcast, Plain}
use Rattle.vio_tag.specs.Fault.{body_fault, first_fault, is_subtype, is_type}
use Rattle.vio_tag.specs.Form.{HasForm, IsWellFormed}
use Rattle.vio_tag.specs.Spelling.{HasLength, SpellsBody, SpellsMessage, count_at, envelope_at, envelope_code, subtype_at, type_at, type_code}

-- the type of a body is one
known_type : (body : MsgBody) → is_type (type_code body) ≡ true
known_type (Ver major minor class) = refl
known_type (Attr bytes) = refl
known_type (DringReg ident slots slot_size options count cookies) = refl
known_type (DringUnreg ident) = refl
known_type Rdx = refl
known_type (DringData seq ident start end state) = refl
known_type (Mcast set count addresses) = refl
known_type (Plain envelope) = refl

known_subtype : (subtype : Subtype) → is_subtype (subtype_code subtype) ≡ true
known_subtype Info = refl
known_subtype Ack = refl
known_subtype Nack = refl

-- a message has a tag
has_tag : (body : MsgBody) (len : ℕ) → HasLength len body → 8 ≤ len
has_tag (Ver major minor class) len is = omega arith
has_tag (Attr bytes) len is = omega arith
has_tag (DringReg ident slots slot_size options count cookies) len is = omega arith
has_tag (DringUnreg ident) len is = omega arith
has_tag Rdx len is = omega arith
has_tag (DringData seq ident start end state) len is = omega arith
has_tag (Mcast set count addresses) len is = omega arith
has_tag (Plain envelope) len is = is

-- a registration of the right length has nothing wrong
registered : (count len : ℕ) → count ≤ 14 → len ≡ 32 + 16 * count → body_fault 1 3 count len ≡ None
registered count len most is =
    let long : nat_le 32 len ≡ true = le-leb 32 len (omega arith) in
    let few : nat_le count 14 ≡ true = le-leb count 14 most in
    let same : (len == 32 + 16 * count) ≡ true = eq-eqb len (32 + 16 * count) is in
    rw (long, few, same) refl

-- nothing is wrong after the subtype
body_no_fault : (bytes : List ℕ) (body : MsgBody) (len : ℕ) → HasForm body → HasLength len body → SpellsBody bytes body
    → body_fault (type_code body) (envelope_code body) (count_at bytes) len ≡ None
body_no_fault bytes (Ver major minor class) len form is fields = ap (λ (n : ℕ). body_fault 1 1 (count_at bytes) n) is
body_no_fault bytes (Attr attr) len form is fields = ap (λ (n : ℕ). body_fault 1 2 (count_at bytes) n) is
body_no_fault bytes (DringReg ident slots slot_size options count cookies) len form is fields =
    ap (λ (n : ℕ). body_fault 1 3 n len) (sym fields.4) ∙ registered count len form.most is
body_no_fault bytes (DringUnreg ident) len form is fields = ap (λ (n : ℕ). body_fault 1 4 (count_at bytes) n) is
body_no_fault bytes Rdx len form is fields = ap (λ (n : ℕ). body_fault 1 5 (count_at bytes) n) is
body_no_fault bytes (DringData seq ident start end state) len form is fields = ap (λ (n : ℕ). body_fault 2 66 (count_at bytes) n) is
body_no_fault bytes (Mcast set count addresses) len form is fields = ap (λ (n : ℕ). body_fault 1 257 (count_at bytes) n) is
body_no_fault bytes (Plain envelope) len (inl packet) is fields = ap (λ (e : ℕ). body_fault 2 e (count_at bytes) len) packet
body_no_fault bytes (Plain envelope) len (inr descriptor) is fields = ap (λ (e : ℕ). body_fault 2 e (count_at bytes) len) descriptor

-- nothing is wrong with what is spelled
pub spelled_no_fault : (bytes : List ℕ) (message : Message) → IsWellFormed message → SpellsMessage bytes message → first_fault bytes ≡ None
spelled_no_fault bytes message form is =
    let long : nat_lt (length bytes) 8 ≡ false = le-ltb (length bytes) 8 (has_tag message.body (length bytes) is.long) in
    let kind : is_type (type_at bytes) ≡ true = ap is_type is.kind ∙ known_type message.body in
    let subtype : is_subtype (subtype_at bytes) ≡ true = ap is_subtype is.subtype ∙ known_subtype message.subtype in
    let body : body_fault (type_at bytes) (envelope_at bytes) (count_at bytes) (length bytes) ≡ None =
    ap (λ (k : ℕ). body_fault k (envelope_at bytes) (count_at bytes) (length bytes)) is.kind
    ∙ ap (λ (e : ℕ). body_fault (type_code message.body) e (count_at bytes) (length bytes)) is.envelope
    ∙ body_no_fault bytes message.body (length bytes) form is.long is.body in
    rw (long, kind, subtype) body
