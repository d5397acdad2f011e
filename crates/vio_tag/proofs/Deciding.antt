-- Bytes spell a well-formed message or have a first fault.
use Rattle.std.proofs.Common.{◌≡◌, ℕ, ◌+◌, ◌-◌, ◌*◌, ◌≤◌, ◌⊎◌, true, false, ◌&&◌, ◌||◌, nat_lt, nat_le, ◌==◌, List, ◌++◌, length, replicate, Some, Result, Ok, Err, refl, sym, ap, ◌∙◌, inl, inr}
use Rattle.std.proofs.lemmas.Bool.{and_parts, cases_Bool, eqb-true, leb-true, ltb-false, or_cases}
use Rattle.std.proofs.lemmas.List.{drop_at, take_at}
use Rattle.ldc_packet.specs.declared.packet.Subtype.{Subtype}
use Rattle.ldc_packet.specs.declared.packet.Subtype.TheVariants.{Info, Ack, Nack}
use Rattle.ldc_packet.specs.Spelling.{subtype_code}
use Rattle.map_table.specs.declared.cookie.Cookie.{Cookie}
use Rattle.map_table.specs.Cookies.{cookies_at, no_cookie}
use Rattle.map_table.proofs.Getting.{length-cookies_at}
use Rattle.vio_bytes.specs.Place.{number_at}
use Rattle.vio_tag.specs.declared.message.Message.{Message}
use Rattle.vio_tag.specs.declared.message.MsgBody.{MsgBody}
use Rattle.vio_tag.specs.declared.message.MsgBody.TheVariants.{Ver, Attr, DringReg, DringUnreg, Rdx, DringData, Mcast, Plain}
use Rattle.vio_tag.specs.declared.message.TagFault.{TagFault}
use Rattle.vio_tag.specs.declared.message.TagFault.TheVariants as fault
use Rattle.vio_tag.specs.Decoding.{Decodes}
use Rattle.vio_tag.specs.Fault.{first_fault, is_cookies, is_envelope, is_length, is_subtype, is_type}
use Rattle.vio_tag.specs.Form.{HasForm}
use Rattle.vio_tag.specs.Spelling.{SpellsBodyOf, addresses_at, bytes_at, count_at, envelope_at, sid_at, subtype_at, type_at}

-- a code of a subtype names it
named_before_nack : (code : ℕ) → ((code == 1) ≡ true) ⊎ ((code == 2) ≡ true) → (s : Subtype) × (code ≡ subtype_code s)
named_before_nack code (inl info) = (Info, eqb-true code 1 info)
named_before_nack code (inr ack) = (Ack, eqb-true code 2 ack)

named : (code : ℕ) → ((code == 1 || code == 2) ≡ true) ⊎ ((code == 4) ≡ true) → (s : Subtype) × (code ≡ subtype_code s)
named code (inl other) = named_before_nack code (or_cases (code == 1) (code == 2) other)
named code (inr nack) = (Nack, eqb-true code 4 nack)

-- a body of a type that the bytes spell
abbrev HasBody : ℕ → List ℕ → Type 0
HasBody kind bytes = (body : MsgBody) × HasForm body × SpellsBodyOf kind bytes body

-- the tests of the length and of the cookies, at the envelope
long_at : (bytes : List ℕ) (e : ℕ) → envelope_at bytes ≡ e → is_length (envelope_at bytes) (length bytes) ≡ true
    → is_length e (length bytes) ≡ true
long_at bytes e is long = sym (ap (λ (k : ℕ). is_length k (length bytes)) is) ∙ long

held_at : (bytes : List ℕ) → envelope_at bytes ≡ 3 → is_cookies (envelope_at bytes) (count_at bytes) (length bytes) ≡ true
    → (nat_le (count_at bytes) 14 && length bytes == 32 + 16 * count_at bytes) ≡ true
held_at bytes is held = sym (ap (λ (k : ℕ). is_cookies k (count_at bytes) (length bytes)) is) ∙ held

-- each body, from the bytes of its envelope
ver : (bytes : List ℕ) → envelope_at bytes ≡ 1 → length bytes ≡ 56 → HasBody 1 bytes
ver bytes is long = (
  Ver (number_at 2 8 bytes) (number_at 2 10 bytes) (number_at 1 12 bytes),
  tt,
  record { type = refl; envelope = is; long = long; fields = (refl, refl, refl) },
)

attr : (bytes : List ℕ) → envelope_at bytes ≡ 2 → length bytes ≡ 56 → HasBody 1 bytes
attr bytes is long = (Attr (bytes_at 48 8 bytes), tt, record { type = refl; envelope = is; long = long; fields = refl })

reg : (bytes : List ℕ) → envelope_at bytes ≡ 3 → count_at bytes ≤ 14 → length bytes ≡ 32 + 16 * count_at bytes → HasBody 1 bytes
reg bytes is most long =
    let count : ℕ = count_at bytes in
    let front : List Cookie = cookies_at 32 count bytes in
    let rest : List Cookie = replicate (14 - count) no_cookie in
    let full : length front ≡ count = length-cookies_at 32 count bytes in (
      DringReg (number_at 8 8 bytes) (number_at 4 16 bytes) (number_at 4 20 bytes) (number_at 2 24 bytes) count (front ++ rest),
      record { most = most; none = drop_at front rest count full },
      record {
        type = refl;
        envelope = is;
        long = long;
        fields = (refl, refl, refl, refl, refl, take_at front rest count full);
      },
    )

unreg : (bytes : List ℕ) → envelope_at bytes ≡ 4 → length bytes ≡ 56 → HasBody 1 bytes
unreg bytes is long = (DringUnreg (number_at 8 8 bytes), tt, record { type = refl; envelope = is; long = long; fields = refl })

rdx : (bytes : List ℕ) → envelope_at bytes ≡ 5 → length bytes ≡ 56 → HasBody 1 bytes
rdx bytes is long = (Rdx, tt, record { type = refl; envelope = is; long = long; fields = tt })

mcast : (bytes : List ℕ) → envelope_at bytes ≡ 0x0101 → length bytes ≡ 56 → HasBody 1 bytes
mcast bytes is long = (
  Mcast (number_at 1 8 bytes) (number_at 1 9 bytes) (addresses_at 10 7 bytes),
  tt,
  record { type = refl; envelope = is; long = long; fields = (refl, refl, refl) },
)

plain : (bytes : List ℕ) → (envelope_at bytes ≡ 0x0040) ⊎ (envelope_at bytes ≡ 0x0041) → 8 ≤ length bytes → HasBody 2 bytes
plain bytes is long = (Plain (envelope_at bytes), is, record { type = refl; envelope = refl; long = long; fields = tt })

data_message : (bytes : List ℕ) → envelope_at bytes ≡ 0x0042 → length bytes ≡ 56 → HasBody 2 bytes
data_message bytes is long = (
  DringData (number_at 8 8 bytes) (number_at 8 16 bytes) (number_at 4 24 bytes) (number_at 4 28 bytes) (number_at 1 32 bytes),
  tt,
  record { type = refl; envelope = is; long = long; fields = (refl, refl, refl, refl, refl) },
)

-- the envelopes of CTRL, the last first
ver_or_attr : (bytes : List ℕ)
    → ((envelope_at bytes == 0x0001) ≡ true) ⊎ ((envelope_at bytes == 0x0002) ≡ true)
    → is_length (envelope_at bytes) (length bytes) ≡ true → HasBody 1 bytes
ver_or_attr bytes (inl test) long =
    let is = eqb-true (envelope_at bytes) 0x0001 test in ver bytes is (eqb-true (length bytes) 56 (long_at bytes 0x0001 is long))
ver_or_attr bytes (inr test) long =
    let is = eqb-true (envelope_at bytes) 0x0002 test in attr bytes is (eqb-true (length bytes) 56 (long_at bytes 0x0002 is long))

up_to_reg : (bytes : List ℕ)
    → ((envelope_at bytes == 0x0001 || envelope_at bytes == 0x0002) ≡ true) ⊎ ((envelope_at bytes == 0x0003) ≡ true)
    → is_length (envelope_at bytes) (length bytes) ≡ true → is_cookies (envelope_at bytes) (count_at bytes) (length bytes) ≡ true → HasBody 1 bytes
up_to_reg bytes (inl other) long held = ver_or_attr bytes (or_cases (envelope_at bytes == 0x0001) (envelope_at bytes == 0x0002) other) long
up_to_reg bytes (inr test) long held =
    let is = eqb-true (envelope_at bytes) 0x0003 test in
    let count = count_at bytes in
    let parts = and_parts (nat_le count 14) (length bytes == 32 + 16 * count) (held_at bytes is held) in
    reg bytes is (leb-true count 14 parts.0) (eqb-true (length bytes) (32 + 16 * count) parts.1)

up_to_unreg : (bytes : List ℕ)
    → ((envelope_at bytes == 0x0001 || envelope_at bytes == 0x0002 || envelope_at bytes == 0x0003) ≡ true) ⊎ ((envelope_at bytes == 0x0004) ≡ true)
    → is_length (envelope_at bytes) (length bytes) ≡ true → is_cookies (envelope_at bytes) (count_at bytes) (length bytes) ≡ true → HasBody 1 bytes
up_to_unreg bytes (inl other) long held = up_to_reg bytes (or_cases (envelope_at bytes == 0x0001 || envelope_at bytes == 0x0002) (envelope_at bytes == 0x0003) other) long held
up_to_unreg bytes (inr test) long held =
    let is = eqb-true (envelope_at bytes) 0x0004 test in unreg bytes is (eqb-true (length bytes) 56 (long_at bytes 0x0004 is long))

up_to_rdx : (bytes : List ℕ)
    → ((envelope_at bytes == 0x0001 || envelope_at bytes == 0x0002 || envelope_at bytes == 0x0003 || envelope_at bytes == 0x0004) ≡ true) ⊎ ((envelope_at bytes == 0x0005) ≡ true)
    → is_length (envelope_at bytes) (length bytes) ≡ true → is_cookies (envelope_at bytes) (count_at bytes) (length bytes) ≡ true → HasBody 1 bytes
up_to_rdx bytes (inl other) long held =
    up_to_unreg bytes (or_cases (envelope_at bytes == 0x0001 || envelope_at bytes == 0x0002 || envelope_at bytes == 0x0003) (envelope_at bytes == 0x0004) other) long held
up_to_rdx bytes (inr test) long held =
    let is = eqb-true (envelope_at bytes) 0x0005 test in rdx bytes is (eqb-true (length bytes) 56 (long_at bytes 0x0005 is long))

control : (bytes : List ℕ)
    → ((envelope_at bytes == 0x0001 || envelope_at bytes == 0x0002 || envelope_at bytes == 0x0003 || envelope_at bytes == 0x0004 || envelope_at bytes == 0x0005) ≡ true) ⊎ ((envelope_at bytes == 0x0101) ≡ true)
    → is_length (envelope_at bytes) (length bytes) ≡ true → is_cookies (envelope_at bytes) (count_at bytes) (length bytes) ≡ true → HasBody 1 bytes
control bytes (inl other) long held =
    up_to_rdx bytes (or_cases (envelope_at bytes == 0x0001 || envelope_at bytes == 0x0002 || envelope_at bytes == 0x0003 || envelope_at bytes == 0x0004) (envelope_at bytes == 0x0005) other) long held
control bytes (inr test) long held =
    let is = eqb-true (envelope_at bytes) 0x0101 test in mcast bytes is (eqb-true (length bytes) 56 (long_at bytes 0x0101 is long))

-- the envelopes of DATA
plain_at : (bytes : List ℕ) → ((envelope_at bytes == 0x0040) ≡ true) ⊎ ((envelope_at bytes == 0x0041) ≡ true) → 8 ≤ length bytes → HasBody 2 bytes
plain_at bytes (inl test) tag = plain bytes (inl (eqb-true (envelope_at bytes) 0x0040 test)) tag
plain_at bytes (inr test) tag = plain bytes (inr (eqb-true (envelope_at bytes) 0x0041 test)) tag

data_on : (bytes : List ℕ)
    → ((envelope_at bytes == 0x0040 || envelope_at bytes == 0x0041) ≡ true) ⊎ ((envelope_at bytes == 0x0042) ≡ true)
    → 8 ≤ length bytes → is_length (envelope_at bytes) (length bytes) ≡ true → HasBody 2 bytes
data_on bytes (inl other) tag long = plain_at bytes (or_cases (envelope_at bytes == 0x0040) (envelope_at bytes == 0x0041) other) tag
data_on bytes (inr test) tag long =
    let is = eqb-true (envelope_at bytes) 0x0042 test in data_message bytes is (eqb-true (length bytes) 56 (long_at bytes 0x0042 is long))

-- what the bytes decode to
abbrev Decided : List ℕ → Type 0
Decided bytes = (d : Result Message TagFault) × Decodes bytes d

refused : (bytes : List ℕ) (fault : TagFault) → first_fault bytes ≡ Some fault → Decided bytes
refused bytes fault is = (Err fault, record { message = tt; fault = is })

decoded : (bytes : List ℕ) (s : Subtype) (kind : ℕ) → type_at bytes ≡ kind → subtype_at bytes ≡ subtype_code s → HasBody kind bytes
    → Decided bytes
decoded bytes s kind type subtype found = (
  Ok (record { subtype = s; sid = sid_at bytes; body = found.0 }),
  record {
    message = (
      found.1,
      record {
        kind = type ∙ sym found.2.type;
        subtype = subtype;
        envelope = found.2.envelope;
        sid = refl;
        long = found.2.long;
        body = found.2.fields;
      },
    );
    fault = tt;
  },
)

-- where nothing is wrong, by the type
spelled : (bytes : List ℕ) → 8 ≤ length bytes → ((type_at bytes == 1) ≡ true) ⊎ ((type_at bytes == 2) ≡ true)
    → is_subtype (subtype_at bytes) ≡ true → is_envelope (type_at bytes) (envelope_at bytes) ≡ true
    → is_length (envelope_at bytes) (length bytes) ≡ true → is_cookies (envelope_at bytes) (count_at bytes) (length bytes) ≡ true
    → Decided bytes
spelled bytes tag (inl one) subtype envelope long held =
    let kind : type_at bytes ≡ 1 = eqb-true (type_at bytes) 1 one in
    let code = subtype_at bytes in
    let e = envelope_at bytes in
    let name = named code (or_cases (code == 1 || code == 2) (code == 4) subtype) in
    let known : (e == 0x0001 || e == 0x0002 || e == 0x0003 || e == 0x0004 || e == 0x0005 || e == 0x0101) ≡ true =
    sym (ap (λ (k : ℕ). is_envelope k e) kind) ∙ envelope in
    decoded bytes name.0 1 kind name.1
    (control bytes (or_cases (e == 0x0001 || e == 0x0002 || e == 0x0003 || e == 0x0004 || e == 0x0005) (e == 0x0101) known) long held)
spelled bytes tag (inr two) subtype envelope long held =
    let kind : type_at bytes ≡ 2 = eqb-true (type_at bytes) 2 two in
    let code = subtype_at bytes in
    let e = envelope_at bytes in
    let name = named code (or_cases (code == 1 || code == 2) (code == 4) subtype) in
    let known : (e == 0x0040 || e == 0x0041 || e == 0x0042) ≡ true = sym (ap (λ (k : ℕ). is_envelope k e) kind) ∙ envelope in
    decoded bytes name.0 2 kind name.1 (data_on bytes (or_cases (e == 0x0040 || e == 0x0041) (e == 0x0042) known) tag long)

decided_by : (bytes : List ℕ)
    → (nat_lt (length bytes) 8 ≡ true) ⊎ (nat_lt (length bytes) 8 ≡ false)
    → (is_type (type_at bytes) ≡ true) ⊎ (is_type (type_at bytes) ≡ false)
    → (is_subtype (subtype_at bytes) ≡ true) ⊎ (is_subtype (subtype_at bytes) ≡ false)
    → (is_envelope (type_at bytes) (envelope_at bytes) ≡ true) ⊎ (is_envelope (type_at bytes) (envelope_at bytes) ≡ false)
    → (is_length (envelope_at bytes) (length bytes) ≡ true) ⊎ (is_length (envelope_at bytes) (length bytes) ≡ false)
    → (is_cookies (envelope_at bytes) (count_at bytes) (length bytes) ≡ true)
    ⊎ (is_cookies (envelope_at bytes) (count_at bytes) (length bytes) ≡ false)
    → Decided bytes
decided_by bytes (inl short) _ _ _ _ _ = refused bytes fault.Short (rw short refl)
decided_by bytes (inr short) (inr kind) _ _ _ _ = refused bytes fault.Kind (rw (short, kind) refl)
decided_by bytes (inr short) (inl kind) (inr subtype) _ _ _ = refused bytes fault.Subtype (rw (short, kind, subtype) refl)
decided_by bytes (inr short) (inl kind) (inl subtype) (inr envelope) _ _ =
    refused bytes fault.Envelope (rw (short, kind, subtype, envelope) refl)
decided_by bytes (inr short) (inl kind) (inl subtype) (inl envelope) (inr long) _ =
    refused bytes fault.Length (rw (short, kind, subtype, envelope, long) refl)
decided_by bytes (inr short) (inl kind) (inl subtype) (inl envelope) (inl long) (inr held) =
    refused bytes fault.Cookies (rw (short, kind, subtype, envelope, long, held) refl)
decided_by bytes (inr short) (inl kind) (inl subtype) (inl envelope) (inl long) (inl held) =
    spelled bytes (ltb-false (length bytes) 8 short) (or_cases (type_at bytes == 1) (type_at bytes == 2) kind) subtype envelope long held

-- bytes decode to a result
pub some_result : (bytes : List ℕ) → (d : Result Message TagFault) × Decodes bytes d
some_result bytes =
    decided_by bytes (cases_Bool (nat_lt (length bytes) 8)) (cases_Bool (is_type (type_at bytes))) (cases_Bool (is_subtype (subtype_at bytes)))
    (cases_Bool (is_envelope (type_at bytes) (envelope_at bytes))) (cases_Bool (is_length (envelope_at bytes) (length bytes)))
    (cases_Bool (is_cookies (envelope_at bytes) (count_at bytes) (length bytes)))
