-- A list of cookies by its places.
use Rattle.std.proofs.Common.{◌≡◌, ℕ, zero, suc, ◌+◌, ◌*◌, ◌^◌, ◌<◌, ◌≤◌, List, [], ◌∷◌, ◌++◌, length, get_or, take, drop, refl, sym, ap, ◌∙◌, arith}
use Rattle.std.proofs.lemmas.List.{append_assoc, drop_at, length-append, length-take-le, same_lists}
use Rattle.std.specs.List.{AllByRecursion}
use Rattle.byteorder.specs.Endian.{big_bytes, big_number}
use Rattle.byteorder.specs.Numbers.{big_number-reads_back, length-bytes_high_first}
use Rattle.vio_bytes.specs.Place.{number_at, put_at}
use Rattle.map_table.specs.Cookies.{IsCookie, cookie_at, cookie_bytes, cookies_at, cookies_bytes}
use Rattle.map_table.specs.declared.cookie.Cookie.{Cookie}

pub length-cookies_at : (at count : ℕ) (bytes : List ℕ) → length (cookies_at at count bytes) ≡ count
length-cookies_at at zero bytes = refl
length-cookies_at at (suc count) bytes = ap suc (length-cookies_at (at + 16) count bytes)

pub get_or-cookies_at : (at count : ℕ) (bytes : List ℕ) (k : ℕ) (d : Cookie) → k < count
    → get_or (cookies_at at count bytes) k d ≡ cookie_at (at + 16 * k) bytes
get_or-cookies_at at zero bytes k d below = absurd (omega arith)
get_or-cookies_at at (suc count) bytes zero d below =
    let same : at ≡ at + 16 * 0 = omega arith in ap (λ (p : ℕ). cookie_at p bytes) same
get_or-cookies_at at (suc count) bytes (suc k) d below =
    let same : at + 16 + 16 * k ≡ at + 16 * suc k = omega arith in
    get_or-cookies_at (at + 16) count bytes k d (omega arith) ∙ ap (λ (p : ℕ). cookie_at p bytes) same

-- cookies that are right at each place are those that stand there
pub cookies_by_place : (cookies : List Cookie) (at count : ℕ) (bytes : List ℕ) → length cookies ≡ count
    → ((k : ℕ) (d : Cookie) → k < count → get_or cookies k d ≡ cookie_at (at + 16 * k) bytes)
    → cookies ≡ cookies_at at count bytes
cookies_by_place cookies at count bytes len each =
    same_lists cookies (cookies_at at count bytes) (omega (arith, length-cookies_at at count bytes))
    (λ k d below. let inside : k < count = omega arith in each k d inside ∙ sym (get_or-cookies_at at count bytes k d inside))

-- a number that stands after a front
number_behind : (front rest : List ℕ) (at width value : ℕ) → length front ≡ at → value < 256 ^ width
    → number_at width at (front ++ (big_bytes width value ++ rest)) ≡ value
number_behind front rest at width value long fits =
    ap (big_number width) (drop_at front (big_bytes width value ++ rest) at long) ∙ big_number-reads_back width value rest fits

-- the bytes of a cookie read back as the cookie
cookie_at-bytes : (cookie : Cookie) (front rest : List ℕ) → IsCookie cookie
    → cookie_at (length front) (front ++ (cookie_bytes cookie ++ rest)) ≡ cookie
cookie_at-bytes cookie front rest fits =
    let address : List ℕ = big_bytes 8 cookie.address in
    let size : List ℕ = big_bytes 8 cookie.size in
    let next : List ℕ = front ++ address in
    let long : length next ≡ length front + 8 = length-append front address ∙ ap (λ (m : ℕ). length front + m) (length-bytes_high_first 8 cookie.address) in
    let bytes : List ℕ = front ++ (cookie_bytes cookie ++ rest) in
    let first : bytes ≡ front ++ (address ++ (size ++ rest)) = ap (λ (xs : List ℕ). front ++ xs) (append_assoc address size rest) in
    let second : bytes ≡ next ++ (size ++ rest) = first ∙ sym (append_assoc front address (size ++ rest)) in
    let a : number_at 8 (length front) bytes ≡ cookie.address = ap (number_at 8 (length front)) first ∙ number_behind front (size ++ rest) (length front) 8 cookie.address refl fits.address in
    let s : number_at 8 (length front + 8) bytes ≡ cookie.size = ap (number_at 8 (length front + 8)) second ∙ number_behind next rest (length front + 8) 8 cookie.size long fits.size in
    let one : cookie_at (length front) bytes ≡ record { address = cookie.address; size = number_at 8 (length front + 8) bytes } = ap (λ (n : ℕ). record { address = n; size = number_at 8 (length front + 8) bytes }) a in
    one ∙ ap (λ (n : ℕ). record { address = cookie.address; size = n }) s

-- the bytes of cookies read back as the cookies
pub cookies_at-bytes : (cookies : List Cookie) (front rest : List ℕ) → AllByRecursion IsCookie cookies
    → cookies_at (length front) (length cookies) (front ++ (cookies_bytes cookies ++ rest)) ≡ cookies
cookies_at-bytes [] front rest each = refl
cookies_at-bytes (cookie ∷ cookies) front rest each =
    let bytes : List ℕ = front ++ (cookies_bytes (cookie ∷ cookies) ++ rest) in
    let next : List ℕ = front ++ cookie_bytes cookie in
    let long : length next ≡ length front + 16 = length-append front (cookie_bytes cookie) in
    let first : bytes ≡ front ++ (cookie_bytes cookie ++ (cookies_bytes cookies ++ rest)) = ap (λ (xs : List ℕ). front ++ xs) (append_assoc (cookie_bytes cookie) (cookies_bytes cookies) rest) in
    let second : bytes ≡ next ++ (cookies_bytes cookies ++ rest) = first ∙ sym (append_assoc front (cookie_bytes cookie) (cookies_bytes cookies ++ rest)) in
    let head : cookie_at (length front) bytes ≡ cookie = ap (cookie_at (length front)) first ∙ cookie_at-bytes cookie front (cookies_bytes cookies ++ rest) each.0 in
    let tail : cookies_at (length front + 16) (length cookies) bytes ≡ cookies =
    ap (λ (p : ℕ). cookies_at p (length cookies) bytes) (sym long) ∙ ap (cookies_at (length next) (length cookies)) second ∙ cookies_at-bytes cookies next rest each.1 in
    ap (λ (c : Cookie). c ∷ cookies_at (length front + 16) (length cookies) bytes) head ∙ ap (λ (cs : List Cookie). cookie ∷ cs) tail

-- cookies that were put read back
pub cookies_at-put : (at : ℕ) (cookies : List Cookie) (bytes new : List ℕ) → AllByRecursion IsCookie cookies → at ≤ length bytes
    → new ≡ put_at at (cookies_bytes cookies) bytes → cookies_at at (length cookies) new ≡ cookies
cookies_at-put at cookies bytes new each room is =
    let front : List ℕ = take at bytes in
    let rest : List ℕ = drop (at + length (cookies_bytes cookies)) bytes in
    let long : length front ≡ at = length-take-le at bytes room in
    ap (λ (xs : List ℕ). cookies_at at (length cookies) xs) is
    ∙ ap (λ (p : ℕ). cookies_at p (length cookies) (front ++ (cookies_bytes cookies ++ rest))) (sym long)
    ∙ cookies_at-bytes cookies front rest each
