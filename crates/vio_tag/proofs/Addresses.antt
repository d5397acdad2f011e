-- Multicast addresses, one after another.
use Rattle.std.proofs.Common.{◌≡◌, ℕ, zero, suc, ◌+◌, ◌-◌, ◌*◌, ◌<◌, ◌≤◌, List, [], ◌∷◌, ◌++◌, length, get_or, take, drop, refl, sym, ap, ◌∙◌, arith}
use Rattle.std.proofs.lemmas.List.{append-nil, drop-drop, length-append, length-drop, length-take-le, same_lists, take_more}
use Rattle.std.proofs.lemmas.List.Concat.{flat_map-append}
use Rattle.std.specs.List.{flat_map}
use borrow.Rule.Slice.PartMut.{mid_of, put_mid}
use Rattle.vio_bytes.specs.Place.{put_at}
use Rattle.map_table.proofs.Putting.{put_both}
use Rattle.vio_tag.specs.Spelling.{addresses_at, bytes_at}

length-addresses_at : (at count : ℕ) (bytes : List ℕ) → length (addresses_at at count bytes) ≡ count
length-addresses_at at zero bytes = refl
length-addresses_at at (suc count) bytes = ap suc (length-addresses_at (at + 6) count bytes)

get_or-addresses_at : (at count : ℕ) (bytes : List ℕ) (k : ℕ) (d : List ℕ) → k < count
    → get_or (addresses_at at count bytes) k d ≡ bytes_at 6 (at + 6 * k) bytes
get_or-addresses_at at zero bytes k d below = absurd (omega arith)
get_or-addresses_at at (suc count) bytes zero d below =
    let same : at ≡ at + 6 * 0 = omega arith in ap (λ (p : ℕ). bytes_at 6 p bytes) same
get_or-addresses_at at (suc count) bytes (suc k) d below =
    let same : at + 6 + 6 * k ≡ at + 6 * suc k = omega arith in
    get_or-addresses_at (at + 6) count bytes k d (omega arith) ∙ ap (λ (p : ℕ). bytes_at 6 p bytes) same

-- addresses that are right at each place are those that stand there
pub addresses_by_place : (addresses : List (List ℕ)) (at count : ℕ) (bytes : List ℕ) → length addresses ≡ count
    → ((k : ℕ) (d : List ℕ) → k < count → get_or addresses k d ≡ bytes_at 6 (at + 6 * k) bytes)
    → addresses ≡ addresses_at at count bytes
addresses_by_place addresses at count bytes len each =
    same_lists addresses (addresses_at at count bytes) (omega (arith, length-addresses_at at count bytes))
    (λ k d below. let inside : k < count = omega arith in each k d inside ∙ sym (get_or-addresses_at at count bytes k d inside))

-- addresses, one after another
abbrev pub joined : List (List ℕ) → List ℕ
joined addresses = flat_map (λ address. address) addresses

-- one address more
joined_more : (addresses : List (List ℕ)) (i : ℕ) (address : List ℕ) → i < length addresses → address ≡ get_or addresses i []
    → joined (take (i + 1) addresses) ≡ joined (take i addresses) ++ address
joined_more addresses i address within is =
    ap joined (take_more addresses i [] within)
    ∙ flat_map-append (λ (xs : List ℕ). xs) (take i addresses) (get_or addresses i [] ∷ [])
    ∙ ap (λ (xs : List ℕ). joined (take i addresses) ++ xs) (append-nil (get_or addresses i []) ∙ sym is)

pub length_more : (addresses : List (List ℕ)) (i : ℕ) (address : List ℕ) → i < length addresses → address ≡ get_or addresses i []
    → length address ≡ 6 → length (joined (take i addresses)) ≡ 6 * i → length (joined (take (i + 1) addresses)) ≡ 6 * (i + 1)
length_more addresses i address within is six long =
    ap length (joined_more addresses i address within is) ∙ length-append (joined (take i addresses)) address ∙ omega (arith, six, long)

-- a copy over a part is a put
copy_is_put : (next k : ℕ) (address one two : List ℕ) → length address ≡ k → two ≡ put_mid next (next + k - next) one address
    → two ≡ put_at next address one
copy_is_put next k address one two len is =
    let place : next + (next + k - next) ≡ next + length address = omega (arith, len) in
    is ∙ ap (λ (xs : List ℕ). take next one ++ (address ++ xs)) (drop-drop (next + k - next) next one ∙ ap (λ (p : ℕ). drop p one) place)

-- the part that is copied over is as long as it was cut
pub part_length : (next : ℕ) (one : List ℕ) → next + 6 ≤ length one → length (mid_of next (next + 6 - next) one) ≡ 6
part_length next one room =
    length-take-le (next + 6 - next) (drop next one) (omega (arith, length-drop next one)) ∙ omega arith

-- and all is as long as before
pub kept_length : (next : ℕ) (address one : List ℕ) → length address ≡ 6 → next + 6 ≤ length one
    → length (put_mid next (next + 6 - next) one address) ≡ length one
kept_length next address one six room =
    let behind : List ℕ = drop (next + 6 - next) (drop next one) in
    let front = length-take-le next one (omega arith) in
    omega (arith, six, front, length-append (take next one) (address ++ behind), length-append address behind, length-drop (next + 6 - next) (drop next one), length-drop next one)

-- one address more is put
pub put_more : (at i : ℕ) (addresses : List (List ℕ)) (address bytes one two : List ℕ) → i < length addresses → address ≡ get_or addresses i []
    → length address ≡ 6 → at + 6 * i ≤ length bytes → length (joined (take i addresses)) ≡ 6 * i
    → one ≡ put_at at (joined (take i addresses)) bytes → two ≡ put_mid (at + 6 * i) (at + 6 * i + 6 - (at + 6 * i)) one address
    → two ≡ put_at at (joined (take (i + 1) addresses)) bytes
put_more at i addresses address bytes one two within is six room long is_one is_two =
    put_both at (at + 6 * i) (joined (take i addresses)) address bytes one two is_one
    (copy_is_put (at + 6 * i) 6 address one two six is_two) (ap (λ (n : ℕ). at + n) (sym long)) room
    ∙ ap (λ (xs : List ℕ). put_at at xs bytes) (sym (joined_more addresses i address within is))
