-- Nothing is wrong with bytes that spell a well-formed packet.
use Rattle.std.proofs.Common.{◌≡◌, ℕ, ◌%◌, ◌<◌, Bool, true, false, nat_le, List, None, refl, ap, ◌∙◌, arith}
use Rattle.std.proofs.lemmas.Bool.{le-leb}
use Rattle.ldc_packet.specs.declared.packet.Body.{Body}
use Rattle.ldc_packet.specs.declared.packet.Body.TheVariants.{Vers, Rts, Rtr, Rdx, Part}
use Rattle.ldc_packet.specs.declared.packet.Packet.{Packet}
use Rattle.ldc_packet.specs.declared.packet.Subtype.{Subtype}
use Rattle.ldc_packet.specs.declared.packet.Subtype.TheVariants.{Info, Ack, Nack}
use Rattle.ldc_packet.specs.Fault.{first_fault, is_ctrl, is_length, is_subtype, is_type}
use Rattle.ldc_packet.specs.Form.{HasForm, IsWellFormed}
use Rattle.ldc_packet.specs.Spelling.{SpellsBody, SpellsPacket, ctrl_at, env_at, part_env, subtype_at, subtype_code, type_at, type_code}

known_type : (body : Body) → is_type (type_code body) ≡ true
known_type (Vers major minor) = refl
known_type (Rts mode) = refl
known_type (Rtr mode) = refl
known_type Rdx = refl
known_type (Part start stop len part) = refl

-- a control packet may have any subtype
known_code : (s : Subtype) → is_subtype 1 (subtype_code s) ≡ true
known_code Info = refl
known_code Ack = refl
known_code Nack = refl

known_subtype : (s : Subtype) (body : Body) → HasForm s body → is_subtype (type_code body) (subtype_code s) ≡ true
known_subtype s (Vers major minor) form = known_code s
known_subtype s (Rts mode) form = known_code s
known_subtype s (Rtr mode) form = known_code s
known_subtype s Rdx form = known_code s
known_subtype s (Part start stop len part) form = ap (λ (info : Subtype). is_subtype 2 (subtype_code info)) form.info

known_ctrl : (bytes : List ℕ) (body : Body) → SpellsBody bytes body → is_ctrl (type_code body) (ctrl_at bytes) ≡ true
known_ctrl bytes (Vers major minor) is = ap (is_ctrl 1) is.0
known_ctrl bytes (Rts mode) is = ap (is_ctrl 1) is.0
known_ctrl bytes (Rtr mode) is = ap (is_ctrl 1) is.0
known_ctrl bytes Rdx is = ap (is_ctrl 1) is
known_ctrl bytes (Part start stop len part) is = refl

-- the length of a part is what its env byte has below the flags
env_length : (start stop : Bool) (len : ℕ) → len < 64 → part_env start stop len % 64 ≡ len
env_length true true len within = omega arith
env_length true false len within = omega arith
env_length false true len within = omega arith
env_length false false len within = omega arith

known_length : (s : Subtype) (bytes : List ℕ) (body : Body) → HasForm s body → SpellsBody bytes body
    → is_length (type_code body) (env_at bytes) ≡ true
known_length s bytes (Vers major minor) form is = refl
known_length s bytes (Rts mode) form is = refl
known_length s bytes (Rtr mode) form is = refl
known_length s bytes Rdx form is = refl
known_length s bytes (Part start stop len part) form is =
    let same : env_at bytes % 64 ≡ len = ap (λ (env : ℕ). env % 64) is.0 ∙ env_length start stop len (omega (arith, form.within)) in
    let some : nat_le 1 len ≡ true = le-leb 1 len form.some in
    let most : nat_le len 56 ≡ true = le-leb len 56 form.within in
    rw (same, some, most) refl

-- nothing is wrong with what is spelled
pub spelled_no_fault : (bytes : List ℕ) (packet : Packet) → IsWellFormed packet → SpellsPacket bytes packet → first_fault bytes ≡ None
spelled_no_fault bytes packet form is =
    let kind : is_type (type_at bytes) ≡ true = ap is_type is.kind ∙ known_type packet.body in
    let subtype : is_subtype (type_at bytes) (subtype_at bytes) ≡ true =
    ap (λ (k : ℕ). is_subtype k (subtype_at bytes)) is.kind
    ∙ ap (λ (c : ℕ). is_subtype (type_code packet.body) c) is.subtype ∙ known_subtype packet.subtype packet.body form in
    let ctrl : is_ctrl (type_at bytes) (ctrl_at bytes) ≡ true =
    ap (λ (k : ℕ). is_ctrl k (ctrl_at bytes)) is.kind ∙ known_ctrl bytes packet.body is.body in
    let long : is_length (type_at bytes) (env_at bytes) ≡ true =
    ap (λ (k : ℕ). is_length k (env_at bytes)) is.kind ∙ known_length packet.subtype bytes packet.body form is.body in
    rw (kind, subtype, ctrl, long) refl
