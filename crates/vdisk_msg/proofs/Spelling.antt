-- The canonical spelling of a descriptor reads back.
use Rattle.std.proofs.Common.{◌≡◌, ℕ, List, [], ◌++◌, length, drop, sym, ap, subst, ◌∙◌, arith}
use Rattle.std.proofs.lemmas.List.{append-nil, length-append}
use Rattle.byteorder.specs.Numbers.{big_number-reads_back}
use Rattle.map_table.specs.Cookies.{cookies_at, cookies_bytes}
use Rattle.map_table.proofs.Getting.{cookies_at-bytes}
use Rattle.map_table.proofs.Putting.{length-cookies_bytes}
use Rattle.vdisk_msg.specs.Descriptor.{HasWidths, canonical, disk_desc_of, head_bytes}
use Rattle.vdisk_msg.specs.declared.desc.DiskDesc.{DiskDesc}

-- descriptors with the same fields are equal
pub same_fields : (a b : DiskDesc) → a.state ≡ b.state → a.ack ≡ b.ack → a.id ≡ b.id → a.operation ≡ b.operation → a.slice ≡ b.slice
    → a.status ≡ b.status → a.offset ≡ b.offset → a.size ≡ b.size → a.count ≡ b.count → a.cookies ≡ b.cookies → a ≡ b
same_fields a b state ack id operation slice status offset size count cookies =
    let built : ◌≡◌ {A = DiskDesc}
    (record { state = a.state; ack = a.ack; id = a.id; operation = a.operation; slice = a.slice; status = a.status; offset = a.offset; size = a.size; count = a.count; cookies = a.cookies })
    (record { state = b.state; ack = b.ack; id = b.id; operation = b.operation; slice = b.slice; status = b.status; offset = b.offset; size = b.size; count = b.count; cookies = b.cookies }) = cc in
    built

-- the canonical bytes of a descriptor are 128
pub length_canonical : (desc : DiskDesc) → HasWidths desc → length (canonical desc) ≡ 128
length_canonical desc fits =
    omega (arith, length-append (head_bytes desc) (cookies_bytes desc.cookies), length-cookies_bytes desc.cookies, fits.five)

-- and read back as it
pub canonical_reads_back : (desc : DiskDesc) → HasWidths desc → disk_desc_of (canonical desc) ≡ desc
canonical_reads_back desc fits =
    let bytes : List ℕ = canonical desc in
    let behind : cookies_at 48 (length desc.cookies) (head_bytes desc ++ (cookies_bytes desc.cookies ++ [])) ≡ desc.cookies = cookies_at-bytes desc.cookies (head_bytes desc) [] fits.cookies in
    let at_end : cookies_at 48 (length desc.cookies) bytes ≡ desc.cookies = subst (λ (xs : List ℕ). cookies_at 48 (length desc.cookies) (head_bytes desc ++ xs) ≡ desc.cookies) (append-nil (cookies_bytes desc.cookies)) behind in
    same_fields (disk_desc_of bytes) desc
    (big_number-reads_back 1 desc.state (drop 1 bytes) fits.head.state)
    (big_number-reads_back 1 desc.ack (drop 2 bytes) fits.head.ack)
    (big_number-reads_back 8 desc.id (drop 16 bytes) fits.head.id)
    (big_number-reads_back 1 desc.operation (drop 17 bytes) fits.head.operation)
    (big_number-reads_back 1 desc.slice (drop 18 bytes) fits.head.slice)
    (big_number-reads_back 4 desc.status (drop 24 bytes) fits.head.status)
    (big_number-reads_back 8 desc.offset (drop 32 bytes) fits.head.offset)
    (big_number-reads_back 8 desc.size (drop 40 bytes) fits.head.size)
    (big_number-reads_back 4 desc.count (drop 44 bytes) fits.head.count)
    (ap (λ (n : ℕ). cookies_at 48 n bytes) (sym fits.five) ∙ at_end)

-- descriptors with the same canonical spelling are equal
pub same_bytes : (a b : DiskDesc) → HasWidths a → HasWidths b → canonical a ≡ canonical b → a ≡ b
same_bytes a b fits_a fits_b same =
    sym (canonical_reads_back a fits_a) ∙ ap disk_desc_of same ∙ canonical_reads_back b fits_b
