-- What was put reads back, and nothing else changes.
use Rattle.std.proofs.Common.{◌≡◌, ℕ, ◌+◌, ◌-◌, ◌^◌, ◌<◌, ◌≤◌, List, [], ◌++◌, length, get_or, slice_index, take, drop, sym, ap, ◌∙◌, arith, inl, inr}
use Rattle.std.proofs.lemmas.List.{append-nil, append_assoc, get_or-drop, drop-drop, drop-take, drop_all, drop_at, length-append, length-drop, length-take-le, take-append-le, take-take, take_rest}
use borrow.Rule.Slice.PartMut.{put_mid}
use Rattle.byteorder.specs.Endian.{big_bytes, big_number}
use Rattle.byteorder.specs.Numbers.{big_from-take, big_number-reads_back, length-bytes_high_first}
use Rattle.vio_bytes.specs.Place.{IsOutside, number_at, put_at}

-- a write to the front of what begins at a place is a write at that place
pub put_front : (at n : ℕ) (bytes piece new : List ℕ) → n ≡ length piece → at + n ≤ length bytes
    → new ≡ piece ++ drop n (take (length bytes - at) (drop at bytes))
    → put_mid at (length bytes - at) bytes new ≡ put_at at piece bytes
put_front at n bytes piece new len room is =
    let past : drop (length bytes - at) (drop at bytes) ≡ [] = drop_all (length bytes - at) (drop at bytes) (omega (arith, length-drop at bytes)) in
    let rest : drop n (take (length bytes - at) (drop at bytes)) ≡ drop (at + length piece) bytes =
    ap (λ (xs : List ℕ). drop n xs) (take_rest bytes at) ∙ drop-drop n at bytes ∙ ap (λ (m : ℕ). drop (at + m) bytes) len in
    ap (λ (xs : List ℕ). take at bytes ++ (new ++ xs)) past
    ∙ ap (λ (xs : List ℕ). take at bytes ++ xs) (append-nil new ∙ is ∙ ap (λ (xs : List ℕ). piece ++ xs) rest)

-- the length stays
pub length-put_at : (at : ℕ) (piece bytes : List ℕ) → at + length piece ≤ length bytes
    → length (put_at at piece bytes) ≡ length bytes
length-put_at at piece bytes room =
    let front = length-take-le at bytes (omega arith) in
    let tail = length-drop (at + length piece) bytes in
    omega (arith, front, tail, length-append (take at bytes) (piece ++ drop (at + length piece) bytes), length-append piece (drop (at + length piece) bytes))

-- after the piece the bytes are the old ones
pub drop-put_at : (at p : ℕ) (piece bytes : List ℕ) → at + length piece ≤ p → at + length piece ≤ length bytes
    → drop p (put_at at piece bytes) ≡ drop p bytes
drop-put_at at p piece bytes behind room =
    let n : ℕ = at + length piece in
    let long : length (take at bytes ++ piece) ≡ n = length-append (take at bytes) piece ∙ ap (λ (m : ℕ). m + length piece) (length-take-le at bytes (omega arith)) in
    let whole : put_at at piece bytes ≡ (take at bytes ++ piece) ++ drop n bytes = sym (append_assoc (take at bytes) piece (drop n bytes)) in
    let from_n : drop n (put_at at piece bytes) ≡ drop n bytes = ap (λ (xs : List ℕ). drop n xs) whole ∙ drop_at (take at bytes ++ piece) (drop n bytes) n long in
    let split : p ≡ n + (p - n) = omega arith in
    ap (λ (m : ℕ). drop m (put_at at piece bytes)) split
    ∙ sym (drop-drop (p - n) n (put_at at piece bytes))
    ∙ ap (λ (xs : List ℕ). drop (p - n) xs) from_n
    ∙ drop-drop (p - n) n bytes
    ∙ ap (λ (m : ℕ). drop m bytes) (sym split)

-- before the piece the bytes are the old ones
pub take-put_at : (at m : ℕ) (piece bytes : List ℕ) → m ≤ at → at ≤ length bytes
    → take m (put_at at piece bytes) ≡ take m bytes
take-put_at at m piece bytes before room =
    take-append-le m (take at bytes) (piece ++ drop (at + length piece) bytes) (omega (arith, length-take-le at bytes room))
    ∙ take-take m at bytes before

-- the number that was put
pub number_at-put_at : (width at value : ℕ) (bytes : List ℕ) → at + width ≤ length bytes → value < 256 ^ width
    → number_at width at (put_at at (big_bytes width value) bytes) ≡ value
number_at-put_at width at value bytes room fits =
    let rest : List ℕ = drop (at + length (big_bytes width value)) bytes in
    ap (λ (xs : List ℕ). big_number width xs) (drop_at (take at bytes) (big_bytes width value ++ rest) at (length-take-le at bytes (omega arith)))
    ∙ big_number-reads_back width value rest fits

-- a number is that of the bytes that it takes
number_at-take : (w p : ℕ) (xs ys : List ℕ) → take (p + w) xs ≡ take (p + w) ys → number_at w p xs ≡ number_at w p ys
number_at-take w p xs ys same =
    let same_part : take w (drop p xs) ≡ take w (drop p ys) = sym (drop-take p w xs) ∙ ap (λ (zs : List ℕ). drop p zs) same ∙ drop-take p w ys in
    sym (big_from-take 0 w w (drop p xs) (omega arith)) ∙ ap (λ (zs : List ℕ). big_number w zs) same_part ∙ big_from-take 0 w w (drop p ys) (omega arith)

-- a number outside of the one that was put
pub number_at-put_at_outside : (width at value w p : ℕ) (bytes : List ℕ) → at + width ≤ length bytes → IsOutside p w at width
    → number_at w p (put_at at (big_bytes width value) bytes) ≡ number_at w p bytes
number_at-put_at_outside width at value w p bytes room (inl before) =
    number_at-take w p (put_at at (big_bytes width value) bytes) bytes (take-put_at at (p + w) (big_bytes width value) bytes before (omega arith))
number_at-put_at_outside width at value w p bytes room (inr behind) =
    let long = length-bytes_high_first width value in
    ap (λ (xs : List ℕ). big_number w xs) (drop-put_at at p (big_bytes width value) bytes (omega (arith, long)) (omega (arith, long)))

-- a byte outside of the number that was put
pub slice_index-put_at_outside : (width at value k : ℕ) (bytes : List ℕ) → at + width ≤ length bytes → IsOutside k 1 at width
    → slice_index (put_at at (big_bytes width value) bytes) k ≡ slice_index bytes k
slice_index-put_at_outside width at value k bytes room outside =
    let put : List ℕ = put_at at (big_bytes width value) bytes in
    let same : number_at 1 k put ≡ number_at 1 k bytes = number_at-put_at_outside width at value 1 k bytes room outside in
    let from_put : get_or (drop k put) 0 0 ≡ get_or put (k + 0) 0 = get_or-drop k put 0 0 in
    let from_old : get_or (drop k bytes) 0 0 ≡ get_or bytes (k + 0) 0 = get_or-drop k bytes 0 0 in
    let here : k + 0 ≡ k = omega arith in
    let first : get_or (drop k put) 0 0 ≡ get_or (drop k bytes) 0 0 = omega (arith, same) in
    sym (from_put ∙ ap (λ (i : ℕ). get_or put i 0) here) ∙ first ∙ from_old ∙ ap (λ (i : ℕ). get_or bytes i 0) here
