-- The canonical spelling of a message spells it.
use Rattle.std.proofs.Common.{◌≡◌, ℕ, zero, suc, ◌+◌, ◌*◌, ◌^◌, ◌<◌, ◌≤◌, List, [], ◌∷◌, ◌++◌, length, take, drop, replicate, refl, sym, ap, subst, ◌∙◌, arith, inl, inr}
use Rattle.std.proofs.lemmas.List.{append-nil, append_assoc, drop_at, length-append, length-take-le, take_all, take_at}
use Rattle.std.specs.List.{AllByRecursion, flat_map}
use Rattle.byteorder.specs.Numbers.{big_number-reads_back}
use Rattle.ldc_packet.specs.declared.packet.Subtype.{Subtype}
use Rattle.map_table.specs.declared.cookie.Cookie.{Cookie}
use Rattle.map_table.specs.Cookies.{IsCookie, cookies_at, cookies_bytes}
use Rattle.map_table.proofs.Getting.{cookies_at-bytes}
use Rattle.map_table.proofs.Putting.{length-cookies_bytes}
use Rattle.vio_tag.specs.declared.message.Message.{Message}
use Rattle.vio_tag.specs.declared.message.MsgBody.{MsgBody}
use Rattle.vio_tag.specs.declared.message.MsgBody.TheVariants.{Ver, Attr, DringReg, DringUnreg, Rdx, DringData, Mcast, Plain}
use Rattle.vio_tag.specs.Form.{BodyHasWidths, HasForm, HasWidths, IsWellFormed}
use Rattle.vio_tag.specs.Spelling.{HasLength, SpellsBody, SpellsMessage, addresses_at, body_bytes, bytes_at, canonical, envelope_code}
use Rattle.vio_tag.proofs.Same.{spelled_once}

-- an envelope has two bytes
envelope_fits : (body : MsgBody) → HasForm body → envelope_code body < 2 ^ 16
envelope_fits (Ver major minor class) form = omega arith
envelope_fits (Attr bytes) form = omega arith
envelope_fits (DringReg ident slots slot_size options count cookies) form = omega arith
envelope_fits (DringUnreg ident) form = omega arith
envelope_fits Rdx form = omega arith
envelope_fits (DringData seq ident start end state) form = omega arith
envelope_fits (Mcast set count addresses) form = omega arith
envelope_fits (Plain envelope) (inl packet) = omega arith
envelope_fits (Plain envelope) (inr descriptor) = omega arith

-- addresses of six bytes each, all together
length-joined : (addresses : List (List ℕ)) → AllByRecursion (λ address. length address ≡ 6) addresses
    → length (flat_map (λ address. address) addresses) ≡ 6 * length addresses
length-joined [] each = refl
length-joined (address ∷ addresses) each =
    let rest = length-joined addresses each.1 in
    length-append address (flat_map (λ xs. xs) addresses) ∙ omega (arith, each.0, rest)

-- addresses read back, whatever stands before and after them
addresses_at-joined : (addresses : List (List ℕ)) (front rest : List ℕ) → AllByRecursion (λ address. length address ≡ 6) addresses
    → addresses_at (length front) (length addresses) (front ++ (flat_map (λ address. address) addresses ++ rest)) ≡ addresses
addresses_at-joined [] front rest each = refl
addresses_at-joined (address ∷ addresses) front rest each =
    let tail : List ℕ = flat_map (λ xs. xs) addresses in
    let bytes : List ℕ = front ++ ((address ++ tail) ++ rest) in
    let next : List ℕ = front ++ address in
    let long : length next ≡ length front + 6 = length-append front address ∙ ap (λ (n : ℕ). length front + n) each.0 in
    let first : bytes ≡ front ++ (address ++ (tail ++ rest)) = ap (λ (xs : List ℕ). front ++ xs) (append_assoc address tail rest) in
    let second : bytes ≡ next ++ (tail ++ rest) = first ∙ sym (append_assoc front address (tail ++ rest)) in
    let head : bytes_at 6 (length front) bytes ≡ address =
    ap (λ (xs : List ℕ). bytes_at 6 (length front) xs) first
    ∙ ap (take 6) (drop_at front (address ++ (tail ++ rest)) (length front) refl) ∙ take_at address (tail ++ rest) 6 each.0 in
    let others : addresses_at (length front + 6) (length addresses) bytes ≡ addresses =
    ap (λ (p : ℕ). addresses_at p (length addresses) bytes) (sym long) ∙ ap (addresses_at (length next) (length addresses)) second
    ∙ addresses_at-joined addresses next rest each.1 in
    ap (λ (x : List ℕ). x ∷ addresses_at (length front + 6) (length addresses) bytes) head ∙ ap (λ (xs : List (List ℕ)). address ∷ xs) others

-- the first of good cookies are good
each_taken : (count : ℕ) (cookies : List Cookie) → AllByRecursion IsCookie cookies → AllByRecursion IsCookie (take count cookies)
each_taken zero cookies each = tt
each_taken (suc count) [] each = tt
each_taken (suc count) (cookie ∷ cookies) each = (each.0, each_taken count cookies each.1)

-- the canonical spelling is as long as its form asks
body_length : (body : MsgBody) → HasForm body → BodyHasWidths body → HasLength (8 + length (body_bytes body)) body
body_length (Ver major minor class) form fits = refl
body_length (Attr bytes) form fits = omega (arith, fits)
body_length (DringReg ident slots slot_size options count cookies) form fits =
    let taken = length-take-le count cookies (omega (arith, form.most, fits.4)) in
    omega (arith, length-cookies_bytes (take count cookies), taken)
body_length (DringUnreg ident) form fits = refl
body_length Rdx form fits = refl
body_length (DringData seq ident start end state) form fits = refl
body_length (Mcast set count addresses) form fits =
    omega (arith, length-append (flat_map (λ xs. xs) addresses) (replicate 4 0), length-joined addresses fits.3, fits.2)
body_length (Plain envelope) form fits = omega arith

-- the cookies of a registration, after its head
cookies_spelled : (front : List ℕ) (count : ℕ) (cookies : List Cookie) → length front ≡ 32 → count ≤ length cookies
    → AllByRecursion IsCookie cookies
    → take count cookies ≡ cookies_at 32 count (front ++ cookies_bytes (take count cookies))
cookies_spelled front count cookies long within each =
    let taken : List Cookie = take count cookies in
    let bytes : List ℕ = front ++ cookies_bytes taken in
    let same : front ++ (cookies_bytes taken ++ []) ≡ bytes = ap (λ (xs : List ℕ). front ++ xs) (append-nil (cookies_bytes taken)) in
    sym (ap (λ (p : ℕ). cookies_at p count bytes) (sym long)
    ∙ ap (λ (n : ℕ). cookies_at (length front) n bytes) (sym (length-take-le count cookies within))
    ∙ ap (cookies_at (length front) (length taken)) (sym same)
    ∙ cookies_at-bytes taken front [] (each_taken count cookies each))

-- the addresses of a list of them, after its head
addresses_spelled : (front rest : List ℕ) (addresses : List (List ℕ)) → length front ≡ 10 → length addresses ≡ 7
    → AllByRecursion (λ address. length address ≡ 6) addresses
    → addresses ≡ addresses_at 10 7 (front ++ (flat_map (λ address. address) addresses ++ rest))
addresses_spelled front rest addresses long seven each =
    let bytes : List ℕ = front ++ (flat_map (λ address. address) addresses ++ rest) in
    sym (ap (λ (p : ℕ). addresses_at p 7 bytes) (sym long)
    ∙ ap (λ (n : ℕ). addresses_at (length front) n bytes) (sym seven)
    ∙ addresses_at-joined addresses front rest each)

-- the fields after the tag read back
body_spelled : (s : Subtype) (n : ℕ) (body : MsgBody) → HasForm body → BodyHasWidths body
    → SpellsBody (canonical (record { subtype = s; sid = n; body = body })) body
unfolding canonical
body_spelled s n (Ver major minor class) form fits =
    let bytes : List ℕ = canonical (record { subtype = s; sid = n; body = Ver major minor class }) in
    (sym (big_number-reads_back 2 major (drop 10 bytes) fits.0), sym (big_number-reads_back 2 minor (drop 12 bytes) fits.1), sym (big_number-reads_back 1 class (drop 13 bytes) fits.2))
body_spelled s n (Attr attr) form fits = sym (take_all 48 attr (omega (arith, fits)))
body_spelled s n (DringReg ident slots slot_size options count cookies) form fits =
    let bytes : List ℕ = canonical (record { subtype = s; sid = n; body = DringReg ident slots slot_size options count cookies }) in
    let most = form.most in (
      sym (big_number-reads_back 8 ident (drop 16 bytes) fits.0),
      sym (big_number-reads_back 4 slots (drop 20 bytes) fits.1),
      sym (big_number-reads_back 4 slot_size (drop 24 bytes) fits.2),
      sym (big_number-reads_back 2 options (drop 26 bytes) fits.3),
      sym (big_number-reads_back 4 count (drop 32 bytes) (omega (arith, most))),
      cookies_spelled (take 32 bytes) count cookies refl (omega (arith, most, fits.4)) fits.5,
    )
body_spelled s n (DringUnreg ident) form fits =
    sym (big_number-reads_back 8 ident (drop 16 (canonical (record { subtype = s; sid = n; body = DringUnreg ident }))) fits)
body_spelled s n Rdx form fits = tt
body_spelled s n (DringData seq ident start end state) form fits =
    let bytes : List ℕ = canonical (record { subtype = s; sid = n; body = DringData seq ident start end state }) in (
      sym (big_number-reads_back 8 seq (drop 16 bytes) fits.0),
      sym (big_number-reads_back 8 ident (drop 24 bytes) fits.1),
      sym (big_number-reads_back 4 start (drop 28 bytes) fits.2),
      sym (big_number-reads_back 4 end (drop 32 bytes) fits.3),
      sym (big_number-reads_back 1 state (drop 33 bytes) fits.4),
    )
body_spelled s n (Mcast set count addresses) form fits =
    let bytes : List ℕ = canonical (record { subtype = s; sid = n; body = Mcast set count addresses }) in (
      sym (big_number-reads_back 1 set (drop 9 bytes) fits.0),
      sym (big_number-reads_back 1 count (drop 10 bytes) fits.1),
      addresses_spelled (take 10 bytes) (replicate 4 0) addresses refl fits.2 fits.3,
    )
body_spelled s n (Plain envelope) form fits = tt

-- the canonical spelling spells its message
pub canonical_spells : (message : Message) → IsWellFormed message → HasWidths message → SpellsMessage (canonical message) message
unfolding canonical
canonical_spells message form fits =
    let bytes : List ℕ = canonical message in
    let long : 8 + length (body_bytes message.body) ≡ length bytes = omega arith in
    record {
      kind = omega arith;
      subtype = omega arith;
      envelope = big_number-reads_back 2 (envelope_code message.body) (drop 4 bytes) (envelope_fits message.body form);
      sid = sym (big_number-reads_back 4 message.sid (drop 8 bytes) fits.0);
      long = subst (λ (n : ℕ). HasLength n message.body) long (body_length message.body form fits.1);
      body = body_spelled message.subtype message.sid message.body form fits.1;
    }

-- the bytes after the tag are 248 at most, 16 for each of 14 cookies after a registration's head
body_within : (body : MsgBody) → HasForm body → BodyHasWidths body → length (body_bytes body) ≤ 248
body_within (Ver major minor class) form fits = omega arith
body_within (Attr bytes) form fits = omega (arith, fits)
body_within (DringReg ident slots slot_size options count cookies) form fits =
    let long = body_length (DringReg ident slots slot_size options count cookies) form fits in omega (arith, long, form.most)
body_within (DringUnreg ident) form fits = omega arith
body_within Rdx form fits = omega arith
body_within (DringData seq ident start end state) form fits = omega arith
body_within (Mcast set count addresses) form fits =
    let long = body_length (Mcast set count addresses) form fits in omega (arith, long)
body_within (Plain envelope) form fits = omega arith

-- the canonical bytes of a message are those of its tag and of its body
pub length_canonical : (message : Message) → length (canonical message) ≡ 8 + length (body_bytes message.body)
unfolding canonical
length_canonical message = omega arith

-- so they are 8 to 256
pub canonical_within : (message : Message) → IsWellFormed message → HasWidths message
    → (8 ≤ length (canonical message)) × (length (canonical message) ≤ 256)
canonical_within message form fits =
    let long = length_canonical message in
    let within = body_within message.body form fits.1 in (omega (arith, long), omega (arith, long, within))

-- messages with the same canonical spelling are equal
pub same_bytes : (one other : Message) → IsWellFormed one → IsWellFormed other → HasWidths one → HasWidths other
    → canonical one ≡ canonical other → one ≡ other
same_bytes one other form other_form fits other_fits same =
    spelled_once (canonical one) one other form other_form (canonical_spells one form fits)
    (subst (λ (bytes : List ℕ). SpellsMessage bytes other) (sym same) (canonical_spells other other_form other_fits))
