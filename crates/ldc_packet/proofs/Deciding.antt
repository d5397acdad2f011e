-- 64 bytes spell a well-formed packet or have a first fault.
use Rattle.std.proofs.Common.{◌≡◌, ℕ, zero, suc, ◌+◌, ◌-◌, ◌%◌, ◌^◌, ◌<◌, ◌≤◌, ◌⊎◌, true, false, ◌&&◌, ◌||◌, not, nat_eq, nat_le, ◌==◌, bit_and, List, [], ◌∷◌, ◌++◌, length, take, drop, replicate, get_or, Some, Result, Ok, Err, refl, sym, ap, ◌∙◌, arith, inl, inr}
use Rattle.std.proofs.lemmas.Bool.{and_parts, cases_Bool, cases_lt, eqb-true, leb-true, or_cases}
use Rattle.std.proofs.lemmas.List.{drop_at, get_or-drop, length-append, length-drop, length-replicate, length-take-le, take_at}
use Rattle.std.proofs.lemmas.Nat.{and_mask}
use Rattle.std.specs.List.{AllByRecursion}
use Rattle.byteorder.specs.Numbers.{big_from-lt}
use Rattle.vio_bytes.specs.Place.{number_at}
use Rattle.ldc_packet.specs.declared.packet.Body.{Body}
use Rattle.ldc_packet.specs.declared.packet.Body.TheVariants.{Vers, Rts, Rtr, Rdx, Part}
use Rattle.ldc_packet.specs.declared.packet.Packet.{Packet}
use Rattle.ldc_packet.specs.declared.packet.PacketFault.{PacketFault}
use Rattle.ldc_packet.specs.declared.packet.PacketFault.TheVariants as fault
use Rattle.ldc_packet.specs.declared.packet.Subtype.{Subtype}
use Rattle.ldc_packet.specs.declared.packet.Subtype.TheVariants.{Info, Ack, Nack}
use Rattle.ldc_packet.specs.Decoding.{Unpacks}
use Rattle.ldc_packet.specs.Fault.{first_fault, is_ctrl, is_length, is_subtype, is_type}
use Rattle.ldc_packet.specs.Form.{HasForm}
use Rattle.ldc_packet.specs.Spelling.{SpellsBody, ctrl_at, env_at, payload_at, seqid_at, subtype_at, subtype_code, type_at, type_code}
use Rattle.ldc_packet.proofs.Payload.{env_whole}

-- each byte is below 256, and so is 0, which stands for those past the end
byte_below : (bytes : List ℕ) → AllByRecursion (λ byte. byte < 256) bytes → (k : ℕ) → get_or bytes k 0 < 256
byte_below [] each k = omega arith
byte_below (byte ∷ bytes) each zero = each.0
byte_below (byte ∷ bytes) each (suc k) = byte_below bytes each.1 k

env_below : (bytes : List ℕ) → AllByRecursion (λ byte. byte < 256) bytes → env_at bytes < 256
env_below bytes each =
    let fits : env_at bytes < 256 ^ 1 = big_from-lt 0 1 (drop 3 bytes) (λ k. let is = get_or-drop 3 bytes k 0 in let below = byte_below bytes each (3 + k) in omega (arith, is, below)) in
    omega (arith, fits)

-- a code of a subtype names it
named_before_nack : (code : ℕ) → ((code == 1) ≡ true) ⊎ ((code == 2) ≡ true) → (s : Subtype) × (code ≡ subtype_code s)
named_before_nack code (inl info) = (Info, eqb-true code 1 info)
named_before_nack code (inr ack) = (Ack, eqb-true code 2 ack)

named : (code : ℕ) → ((code == 1 || code == 2) ≡ true) ⊎ ((code == 4) ≡ true) → (s : Subtype) × (code ≡ subtype_code s)
named code (inl other) = named_before_nack code (or_cases (code == 1) (code == 2) other)
named code (inr nack) = (Nack, eqb-true code 4 nack)

-- a body of a type that the bytes spell
abbrev HasBody : Subtype → ℕ → List ℕ → Type 0
HasBody subtype kind bytes = (body : Body) × (type_code body ≡ kind) × HasForm subtype body × SpellsBody bytes body

-- a control packet is one of four
control : (bytes : List ℕ) (s : Subtype) → 1 ≤ ctrl_at bytes → ctrl_at bytes ≤ 4
    → (ctrl_at bytes < 2) ⊎ (2 ≤ ctrl_at bytes) → (ctrl_at bytes < 3) ⊎ (3 ≤ ctrl_at bytes) → (ctrl_at bytes < 4) ⊎ (4 ≤ ctrl_at bytes)
    → HasBody s 1 bytes
control bytes s some most (inl vers) _ _ =
    (Vers (number_at 2 8 bytes) (number_at 2 10 bytes), refl, tt, (omega (arith, some, vers), refl, refl))
control bytes s some most (inr above) (inl rts) _ = (Rts (env_at bytes), refl, tt, (omega (arith, above, rts), refl))
control bytes s some most (inr _) (inr above) (inl rtr) = (Rtr (env_at bytes), refl, tt, (omega (arith, above, rtr), refl))
control bytes s some most (inr _) (inr _) (inr above) = (Rdx, refl, tt, omega (arith, above, most))

-- a data packet is a part: its bytes, and zeros after them
data_part : (bytes : List ℕ) → length bytes ≡ 64 → env_at bytes < 256 → 1 ≤ env_at bytes % 64 → env_at bytes % 64 ≤ 56 → HasBody Info 2 bytes
data_part bytes long fits some most =
    let env : ℕ = env_at bytes in
    let len : ℕ = bit_and env 63 in
    let low : len ≡ env % 64 = and_mask env 6 in
    let most_len : len ≤ 56 = omega (arith, low, most) in
    let some_len : 1 ≤ len = omega (arith, low, some) in
    let front : List ℕ = take len (payload_at bytes) in
    let rest : List ℕ = replicate (56 - len) 0 in
    let room : length front ≡ len = length-take-le len (payload_at bytes) (omega (arith, most_len, length-drop 8 bytes, long)) in
    let whole : length (front ++ rest) ≡ 56 = omega (arith, length-append front rest, room, length-replicate {A = ℕ} (56 - len) 0, most_len) in (
      Part (not (nat_eq (bit_and env 64) 0)) (not (nat_eq (bit_and env 128) 0)) len (front ++ rest),
      refl,
      record { info = refl; some = some_len; within = most_len; room = whole; zeros = drop_at front rest len room },
      (env_whole env fits, sym (take_at front rest len room)),
    )

-- what the bytes decode to
abbrev Decided : List ℕ → Type 0
Decided bytes = (d : Result Packet PacketFault) × Unpacks bytes d

refused : (bytes : List ℕ) (fault : PacketFault) → first_fault bytes ≡ Some fault → Decided bytes
refused bytes fault is = (Err fault, record { packet = tt; fault = is })

unpacked : (bytes : List ℕ) (s : Subtype) (kind : ℕ) → length bytes ≡ 64 → type_at bytes ≡ kind → subtype_at bytes ≡ subtype_code s
    → HasBody s kind bytes → Decided bytes
unpacked bytes s kind long type subtype found = (
  Ok (record { subtype = s; seqid = seqid_at bytes; body = found.0 }),
  record {
    packet = (found.2, record { size = long; kind = type ∙ sym found.1; subtype = subtype; seqid = refl; body = found.3 });
    fault = tt;
  },
)

-- where nothing is wrong, by the type
spelled : (bytes : List ℕ) → length bytes ≡ 64 → AllByRecursion (λ byte. byte < 256) bytes
    → ((type_at bytes == 1) ≡ true) ⊎ ((type_at bytes == 2) ≡ true)
    → is_subtype (type_at bytes) (subtype_at bytes) ≡ true → is_ctrl (type_at bytes) (ctrl_at bytes) ≡ true
    → is_length (type_at bytes) (env_at bytes) ≡ true → Decided bytes
spelled bytes long each (inl one) subtype ctrl len =
    let kind : type_at bytes ≡ 1 = eqb-true (type_at bytes) 1 one in
    let code = subtype_at bytes in
    let known : (code == 1 || code == 2 || code == 4) ≡ true = sym (ap (λ (k : ℕ). is_subtype k code) kind) ∙ subtype in
    let name = named code (or_cases (code == 1 || code == 2) (code == 4) known) in
    let c = ctrl_at bytes in
    let within : (nat_le 1 c && nat_le c 4) ≡ true = sym (ap (λ (k : ℕ). is_ctrl k c) kind) ∙ ctrl in
    let parts = and_parts (nat_le 1 c) (nat_le c 4) within in
    unpacked bytes name.0 1 long kind name.1
    (control bytes name.0 (leb-true 1 c parts.0) (leb-true c 4 parts.1) (cases_lt c 2) (cases_lt c 3) (cases_lt c 4))
spelled bytes long each (inr two) subtype ctrl len =
    let kind : type_at bytes ≡ 2 = eqb-true (type_at bytes) 2 two in
    let info : (subtype_at bytes == 1) ≡ true = sym (ap (λ (k : ℕ). is_subtype k (subtype_at bytes)) kind) ∙ subtype in
    let n = env_at bytes % 64 in
    let within : (nat_le 1 n && nat_le n 56) ≡ true = sym (ap (λ (k : ℕ). is_length k (env_at bytes)) kind) ∙ len in
    let parts = and_parts (nat_le 1 n) (nat_le n 56) within in
    unpacked bytes Info 2 long kind (eqb-true (subtype_at bytes) 1 info)
    (data_part bytes long (env_below bytes each) (leb-true 1 n parts.0) (leb-true n 56 parts.1))

decided_by : (bytes : List ℕ) → length bytes ≡ 64 → AllByRecursion (λ byte. byte < 256) bytes
    → (is_type (type_at bytes) ≡ true) ⊎ (is_type (type_at bytes) ≡ false)
    → (is_subtype (type_at bytes) (subtype_at bytes) ≡ true) ⊎ (is_subtype (type_at bytes) (subtype_at bytes) ≡ false)
    → (is_ctrl (type_at bytes) (ctrl_at bytes) ≡ true) ⊎ (is_ctrl (type_at bytes) (ctrl_at bytes) ≡ false)
    → (is_length (type_at bytes) (env_at bytes) ≡ true) ⊎ (is_length (type_at bytes) (env_at bytes) ≡ false)
    → Decided bytes
decided_by bytes long each (inr kind) _ _ _ = refused bytes fault.Kind (rw kind refl)
decided_by bytes long each (inl kind) (inr subtype) _ _ = refused bytes fault.Subtype (rw (kind, subtype) refl)
decided_by bytes long each (inl kind) (inl subtype) (inr ctrl) _ = refused bytes fault.Ctrl (rw (kind, subtype, ctrl) refl)
decided_by bytes long each (inl kind) (inl subtype) (inl ctrl) (inr len) = refused bytes fault.Length (rw (kind, subtype, ctrl, len) refl)
decided_by bytes long each (inl kind) (inl subtype) (inl ctrl) (inl len) =
    spelled bytes long each (or_cases (type_at bytes == 1) (type_at bytes == 2) kind) subtype ctrl len

-- 64 bytes decode to a result
pub some_result : (bytes : List ℕ) → length bytes ≡ 64 → AllByRecursion (λ byte. byte < 256) bytes
    → (d : Result Packet PacketFault) × Unpacks bytes d
some_result bytes long each =
    decided_by bytes long each (cases_Bool (is_type (type_at bytes))) (cases_Bool (is_subtype (type_at bytes) (subtype_at bytes)))
    (cases_Bool (is_ctrl (type_at bytes) (ctrl_at bytes))) (cases_Bool (is_length (type_at bytes) (env_at bytes)))
