-- Bytes spell at most one well-formed packet.
use Rattle.std.proofs.Common.{◌≡◌, ℕ, ◌+◌, ◌-◌, ◌<◌, ◌≤◌, Bool, true, false, List, ◌++◌, take, drop, replicate, refl, sym, ap, ◌∙◌, arith}
use Rattle.std.proofs.lemmas.List.{take-append-drop}
use Rattle.ldc_packet.specs.declared.packet.Body.{Body}
use Rattle.ldc_packet.specs.declared.packet.Body.TheVariants.{Vers, Rts, Rtr, Rdx, Part}
use Rattle.ldc_packet.specs.declared.packet.Packet.{Packet}
use Rattle.ldc_packet.specs.declared.packet.Subtype.{Subtype}
use Rattle.ldc_packet.specs.declared.packet.Subtype.TheVariants.{Info, Ack, Nack}
use Rattle.ldc_packet.specs.Form.{HasForm, IsWellFormed}
use Rattle.ldc_packet.specs.Spelling.{SpellsBody, SpellsPacket, flag, part_env, payload_at, subtype_code, type_code}

-- a code names one subtype
same_subtype : (s t : Subtype) → subtype_code s ≡ subtype_code t → s ≡ t
same_subtype Info Info is = refl
same_subtype Ack Ack is = refl
same_subtype Nack Nack is = refl
same_subtype _ _ is = absurd (omega arith)

-- a flag is at most its bit
flag_within : (b : Bool) (bit : ℕ) → flag b bit ≤ bit
flag_within true bit = omega arith
flag_within false bit = omega arith

-- a number names a flag and what is below it
same_flag : (b d : Bool) (bit x y : ℕ) → x < bit → y < bit → flag b bit + x ≡ flag d bit + y → (b ≡ d) × (x ≡ y)
same_flag true true bit x y hx hy is = (refl, omega arith)
same_flag true false bit x y hx hy is = absurd (omega arith)
same_flag false true bit x y hx hy is = absurd (omega arith)
same_flag false false bit x y hx hy is = (refl, omega arith)

-- an env byte names one length and one pair of flags
same_env : (a b : Bool) (m : ℕ) (c d : Bool) (n : ℕ) → m < 64 → n < 64 → part_env a b m ≡ part_env c d n
    → (a ≡ c) × (b ≡ d) × (m ≡ n)
same_env a b m c d n hm hn is =
    let one = flag_within a 0x40 in
    let other = flag_within c 0x40 in
    let stop = same_flag b d 0x80 (flag a 0x40 + m) (flag c 0x40 + n) (omega arith) (omega arith) (omega arith) in
    let start = same_flag a c 0x40 m n hm hn stop.1 in
    (start.0, stop.0, start.1)

-- a list of zeros past its front is known by the front
same_part : (m n : ℕ) (bytes xs ys : List ℕ) → m ≡ n → take m bytes ≡ take m xs → take n bytes ≡ take n ys
    → drop m xs ≡ replicate (56 - m) 0 → drop n ys ≡ replicate (56 - n) 0 → xs ≡ ys
same_part m n bytes xs ys is front other zeros others =
    let fronts : take m xs ≡ take n ys = sym front ∙ ap (λ (k : ℕ). take k bytes) is ∙ other in
    let rests : drop m xs ≡ drop n ys = zeros ∙ ap (λ (k : ℕ). replicate (56 - k) 0) is ∙ sym others in
    sym (take-append-drop m xs) ∙ ap (λ (zs : List ℕ). zs ++ drop m xs) fronts ∙ ap (λ (zs : List ℕ). take n ys ++ zs) rests ∙ take-append-drop n ys

-- bodies of one type that the same bytes spell
same_body : (bytes : List ℕ) (s t : Subtype) (a b : Body) → type_code a ≡ type_code b → HasForm s a → HasForm t b
    → SpellsBody bytes a → SpellsBody bytes b → a ≡ b
same_body bytes s t (Vers major minor) (Vers major' minor') is fa fb pa pb = (cc)
same_body bytes s t (Rts mode) (Rts mode') is fa fb pa pb = (cc)
same_body bytes s t (Rtr mode) (Rtr mode') is fa fb pa pb = (cc)
same_body bytes s t Rdx Rdx is fa fb pa pb = refl
same_body bytes s t (Part start stop len part) (Part start' stop' len' part') is fa fb pa pb =
    let env = same_env start stop len start' stop' len' (omega (arith, fa.within)) (omega (arith, fb.within)) (sym pa.0 ∙ pb.0) in
    let same : part ≡ part' = same_part len len' (payload_at bytes) part part' env.2 pa.1 pb.1 fa.zeros fb.zeros in
    (cc)
same_body bytes s t _ _ is fa fb pa pb = absurd (omega arith)

-- packets that the same bytes spell
pub same_packet : (bytes : List ℕ) (one other : Packet) → IsWellFormed one → IsWellFormed other
    → SpellsPacket bytes one → SpellsPacket bytes other → one ≡ other
same_packet bytes one other fa fb a b =
    let subtype : one.subtype ≡ other.subtype = same_subtype one.subtype other.subtype (sym a.subtype ∙ b.subtype) in
    let body : one.body ≡ other.body = same_body bytes one.subtype other.subtype one.body other.body (sym a.kind ∙ b.kind) fa fb a.body b.body in
    let seqid : one.seqid ≡ other.seqid = sym a.seqid ∙ b.seqid in
    let make : Subtype → ℕ → Body → Packet = λ s n b. record { subtype = s; seqid = n; body = b } in
    ap (λ (s : Subtype). make s one.seqid one.body) subtype
    ∙ ap (λ (n : ℕ). make other.subtype n one.body) seqid
    ∙ ap (λ (b : Body). make other.subtype other.seqid b) body
