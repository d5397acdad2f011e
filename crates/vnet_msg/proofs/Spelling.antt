-- The canonical spelling of a descriptor reads back.
use Rattle.std.proofs.Common.{◌≡◌, ℕ, List, [], ◌++◌, length, drop, sym, ap, subst, ◌∙◌, arith}
use Rattle.std.proofs.lemmas.List.{append-nil, length-append}
use Rattle.byteorder.specs.Numbers.{big_number-reads_back}
use Rattle.map_table.specs.Cookies.{cookies_at, cookies_bytes}
use Rattle.map_table.proofs.Getting.{cookies_at-bytes}
use Rattle.map_table.proofs.Putting.{length-cookies_bytes}
use Rattle.vnet_msg.specs.Descriptor.{HasWidths, canonical, head_bytes, net_desc_of}
use Rattle.vnet_msg.specs.declared.desc.NetDesc.{NetDesc}

-- descriptors with the same fields are equal
pub same_fields : (a b : NetDesc) → a.state ≡ b.state → a.ack ≡ b.ack → a.size ≡ b.size → a.count ≡ b.count → a.cookies ≡ b.cookies → a ≡ b
same_fields a b state ack size count cookies =
    let built : ◌≡◌ {A = NetDesc}
    (record { state = a.state; ack = a.ack; size = a.size; count = a.count; cookies = a.cookies })
    (record { state = b.state; ack = b.ack; size = b.size; count = b.count; cookies = b.cookies }) = cc in
    built

-- the canonical bytes of a descriptor are 64
pub length_canonical : (desc : NetDesc) → HasWidths desc → length (canonical desc) ≡ 64
length_canonical desc fits =
    omega (arith, length-append (head_bytes desc) (cookies_bytes desc.cookies), length-cookies_bytes desc.cookies, fits.three)

-- and read back as it
pub canonical_reads_back : (desc : NetDesc) → HasWidths desc → net_desc_of (canonical desc) ≡ desc
canonical_reads_back desc fits =
    let bytes : List ℕ = canonical desc in
    let behind : cookies_at 16 (length desc.cookies) (head_bytes desc ++ (cookies_bytes desc.cookies ++ [])) ≡ desc.cookies = cookies_at-bytes desc.cookies (head_bytes desc) [] fits.cookies in
    let at_end : cookies_at 16 (length desc.cookies) bytes ≡ desc.cookies = subst (λ (xs : List ℕ). cookies_at 16 (length desc.cookies) (head_bytes desc ++ xs) ≡ desc.cookies) (append-nil (cookies_bytes desc.cookies)) behind in
    same_fields (net_desc_of bytes) desc
    (big_number-reads_back 1 desc.state (drop 1 bytes) fits.head.state)
    (big_number-reads_back 1 desc.ack (drop 2 bytes) fits.head.ack)
    (big_number-reads_back 4 desc.size (drop 12 bytes) fits.head.size)
    (big_number-reads_back 4 desc.count (drop 16 bytes) fits.head.count)
    (ap (λ (n : ℕ). cookies_at 16 n bytes) (sym fits.three) ∙ at_end)

-- descriptors with the same canonical spelling are equal
pub same_bytes : (a b : NetDesc) → HasWidths a → HasWidths b → canonical a ≡ canonical b → a ≡ b
same_bytes a b fits_a fits_b same =
    sym (canonical_reads_back a fits_a) ∙ ap net_desc_of same ∙ canonical_reads_back b fits_b
