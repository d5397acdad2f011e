-- One piece of bytes put after another.
use Rattle.std.proofs.Common.{◌≡◌, ℕ, ◌+◌, ◌*◌, ◌<◌, ◌≤◌, List, [], ◌∷◌, ◌++◌, length, get_or, take, drop, refl, sym, ap, ◌∙◌, arith}
use Rattle.std.proofs.lemmas.List.{append_assoc, append-nil, drop-drop, drop_all, drop_at, length-append, length-take-le, take_at, take_more}
use Rattle.std.proofs.lemmas.List.Concat.{flat_map-append}
use Rattle.vio_bytes.specs.Place.{put_at}
use Rattle.map_table.specs.Cookies.{cookie_bytes, cookies_bytes}
use Rattle.map_table.specs.declared.cookie.Cookie.{Cookie}

-- a piece and the one after it are one piece
pub put_both : (at next : ℕ) (a b bytes one two : List ℕ) → one ≡ put_at at a bytes → two ≡ put_at next b one
    → next ≡ at + length a → next ≤ length bytes → two ≡ put_at at (a ++ b) bytes
put_both at next a b bytes one two is_one is_two place room =
    let front : List ℕ = take at bytes ++ a in
    let long : length front ≡ next = length-append (take at bytes) a ∙ ap (λ (m : ℕ). m + length a) (length-take-le at bytes (omega arith)) ∙ sym place in
    let whole : one ≡ front ++ drop next bytes = is_one ∙ ap (λ (p : ℕ). take at bytes ++ (a ++ drop p bytes)) (sym place) ∙ sym (append_assoc (take at bytes) a (drop next bytes)) in
    let head : take next one ≡ front = ap (take next) whole ∙ take_at front (drop next bytes) next long in
    let behind : drop (next + length b) one ≡ drop (next + length b) bytes =
    sym (drop-drop (length b) next one) ∙ ap (λ (xs : List ℕ). drop (length b) xs) (ap (drop next) whole ∙ drop_at front (drop next bytes) next long) ∙ drop-drop (length b) next bytes in
    let end : next + length b ≡ at + length (a ++ b) = omega (arith, length-append a b) in
    is_two
    ∙ ap (λ (xs : List ℕ). xs ++ (b ++ drop (next + length b) one)) head
    ∙ ap (λ (xs : List ℕ). front ++ (b ++ xs)) (behind ∙ ap (λ (p : ℕ). drop p bytes) end)
    ∙ append_assoc (take at bytes) a (b ++ drop (at + length (a ++ b)) bytes)
    ∙ ap (λ (xs : List ℕ). take at bytes ++ xs) (sym (append_assoc a b (drop (at + length (a ++ b)) bytes)))

-- a piece that is put after what was written to the front
pub put_behind : (at : ℕ) (front piece bytes new : List ℕ) → length front ≡ at
    → new ≡ put_at at piece (front ++ drop at bytes)
    → new ≡ front ++ (piece ++ drop (at + length piece) bytes)
put_behind at front piece bytes new long is =
    let head : take at (front ++ drop at bytes) ≡ front = take_at front (drop at bytes) at long in
    let behind : drop (at + length piece) (front ++ drop at bytes) ≡ drop (at + length piece) bytes =
    sym (drop-drop (length piece) at (front ++ drop at bytes))
    ∙ ap (λ (xs : List ℕ). drop (length piece) xs) (drop_at front (drop at bytes) at long)
    ∙ drop-drop (length piece) at bytes in
    is
    ∙ ap (λ (xs : List ℕ). xs ++ (piece ++ drop (at + length piece) (front ++ drop at bytes))) head
    ∙ ap (λ (xs : List ℕ). front ++ (piece ++ xs)) behind

-- the same where nothing is left after the piece
pub put_last : (at : ℕ) (front piece bytes new : List ℕ) → length front ≡ at → length bytes ≡ at + length piece
    → new ≡ put_at at piece (front ++ drop at bytes) → new ≡ front ++ piece
put_last at front piece bytes new long room is =
    let rest : drop (at + length piece) bytes ≡ [] = drop_all (at + length piece) bytes (omega arith) in
    put_behind at front piece bytes new long is
    ∙ ap (λ (xs : List ℕ). front ++ (piece ++ xs)) rest
    ∙ ap (λ (xs : List ℕ). front ++ xs) (append-nil piece)

-- cookies have 16 bytes each
pub length-cookies_bytes : (cookies : List Cookie) → length (cookies_bytes cookies) ≡ 16 * length cookies
length-cookies_bytes [] = refl
length-cookies_bytes (cookie ∷ cookies) = let rest = length-cookies_bytes cookies in omega (arith, rest)

-- one cookie more
pub put_more : (at i : ℕ) (cookies : List Cookie) (d : Cookie) (bytes one two : List ℕ) → i < length cookies
    → at + 16 * length cookies ≤ length bytes
    → one ≡ put_at at (cookies_bytes (take i cookies)) bytes → two ≡ put_at (at + 16 * i) (cookie_bytes (get_or cookies i d)) one
    → two ≡ put_at at (cookies_bytes (take (i + 1) cookies)) bytes
put_more at i cookies d bytes one two within room is_one is_two =
    let cookie : Cookie = get_or cookies i d in
    let more : cookies_bytes (take (i + 1) cookies) ≡ cookies_bytes (take i cookies) ++ cookie_bytes cookie =
    ap cookies_bytes (take_more cookies i d within)
    ∙ flat_map-append cookie_bytes (take i cookies) (cookie ∷ [])
    ∙ ap (λ (xs : List ℕ). cookies_bytes (take i cookies) ++ xs) (append-nil (cookie_bytes cookie)) in
    let place : at + 16 * i ≡ at + length (cookies_bytes (take i cookies)) =
    omega (arith, length-cookies_bytes (take i cookies), length-take-le i cookies (omega arith)) in
    put_both at (at + 16 * i) (cookies_bytes (take i cookies)) (cookie_bytes cookie) bytes one two is_one is_two place (omega arith)
    ∙ ap (λ (piece : List ℕ). put_at at piece bytes) (sym more)
