-- Ranges, in parts, and what a write leaves of them.
use Rattle.std.proofs.Common.{◌≡◌, ℕ, ◌+◌, ◌-◌, ◌<◌, ◌≤◌, List, [], ◌++◌, length, get_or, take, drop, sym, ap, ◌∙◌, arith, inl, inr}
use Rattle.std.proofs.lemmas.List.{append_assoc, drop-drop, drop-take, drop_at, get_or-take, get_or-drop, length-append, length-drop, length-take-le, take-append-drop, take-take, take_all, take_at}
use Rattle.std.proofs.Math.Seq.{take-add}
use Rattle.vio_bytes.specs.Place.{IsOutside, put_at}
use Rattle.vio_bytes.specs.Range.{range_at}
use Rattle.vio_bytes.proofs.Putting.{drop-put_at, take-put_at}

pub length-range_at : (at n : ℕ) (bytes : List ℕ) → at + n ≤ length bytes → length (range_at at n bytes) ≡ n
length-range_at at n bytes within = length-take-le n (drop at bytes) (omega (arith, length-drop at bytes))

-- a byte of a range
pub get_or-range_at : (at n k d : ℕ) (bytes : List ℕ) → k < n → get_or (range_at at n bytes) k d ≡ get_or bytes (at + k) d
get_or-range_at at n k d bytes below = get_or-take n (drop at bytes) k d below ∙ get_or-drop at bytes k d

-- two ranges one after the other
pub range_at-add : (at m n : ℕ) (bytes : List ℕ) → range_at at (m + n) bytes ≡ range_at at m bytes ++ range_at (at + m) n bytes
range_at-add at m n bytes =
    take-add m n (drop at bytes) ∙ ap (λ (xs : List ℕ). take m (drop at bytes) ++ take n xs) (drop-drop m at bytes)

-- a part of a part
pub range_at-range_at : (i k at n : ℕ) (bytes : List ℕ) → i + k ≤ n → range_at i k (range_at at n bytes) ≡ range_at (at + i) k bytes
range_at-range_at i k at n bytes within =
    sym (drop-take i k (range_at at n bytes))
    ∙ ap (λ (xs : List ℕ). drop i xs) (take-take (i + k) n (drop at bytes) within)
    ∙ drop-take i k (drop at bytes)
    ∙ ap (λ (xs : List ℕ). take k xs) (drop-drop i at bytes)

-- all of the bytes
pub range_at_whole : (n : ℕ) (bytes : List ℕ) → length bytes ≡ n → range_at 0 n bytes ≡ bytes
range_at_whole n bytes long = take_all n bytes (omega arith)

-- a range of the front of the bytes
pub range_at-take : (p w n : ℕ) (bytes : List ℕ) → p + w ≤ n → range_at p w (take n bytes) ≡ range_at p w bytes
range_at-take p w n bytes within =
    sym (drop-take p w (take n bytes)) ∙ ap (λ (xs : List ℕ). drop p xs) (take-take (p + w) n bytes within) ∙ drop-take p w bytes

range_of_front : (p w n : ℕ) (xs ys : List ℕ) → p + w ≤ n → take n xs ≡ take n ys → range_at p w xs ≡ range_at p w ys
range_of_front p w n xs ys within same =
    sym (range_at-take p w n xs within) ∙ ap (λ (zs : List ℕ). range_at p w zs) same ∙ range_at-take p w n ys within

-- what lies outside of a write stays
pub range_at-put_at_outside : (p w at : ℕ) (piece bytes : List ℕ) → at + length piece ≤ length bytes → IsOutside p w at (length piece)
    → range_at p w (put_at at piece bytes) ≡ range_at p w bytes
range_at-put_at_outside p w at piece bytes room (inl before) =
    range_of_front p w (p + w) (put_at at piece bytes) bytes (omega arith) (take-put_at at (p + w) piece bytes before (omega arith))
range_at-put_at_outside p w at piece bytes room (inr behind) = ap (λ (xs : List ℕ). take w xs) (drop-put_at at p piece bytes behind room)

-- what was written reads back
pub range_at-put_at_same : (at n : ℕ) (piece bytes : List ℕ) → length piece ≡ n → at ≤ length bytes
    → range_at at n (put_at at piece bytes) ≡ piece
range_at-put_at_same at n piece bytes long room =
    ap (λ (xs : List ℕ). take n xs) (drop_at (take at bytes) (piece ++ drop (at + length piece) bytes) at (length-take-le at bytes room))
    ∙ take_at piece (drop (at + length piece) bytes) n long

-- a part of what was written
pub range_at-put_at_inside : (i k at : ℕ) (piece bytes : List ℕ) → i + k ≤ length piece → at ≤ length bytes
    → range_at (at + i) k (put_at at piece bytes) ≡ range_at i k piece
range_at-put_at_inside i k at piece bytes within room =
    let n : ℕ = length piece in
    sym (range_at-range_at i k at n (put_at at piece bytes) within)
    ∙ ap (λ (xs : List ℕ). range_at i k xs) (range_at-put_at_same at n piece bytes (let long : length piece ≡ n = omega arith in long) room)

-- a write inside of a range is a write to the range
pub range_at-put_at_part : (i at n : ℕ) (piece bytes : List ℕ) → i + length piece ≤ n → at + n ≤ length bytes
    → range_at at n (put_at (at + i) piece bytes) ≡ put_at i piece (range_at at n bytes)
range_at-put_at_part i at n piece bytes within room =
    let k : ℕ = length piece in
    let rest : ℕ = n - (i + k) in
    let new : List ℕ = put_at (at + i) piece bytes in
    let whole : n ≡ i + (k + rest) = omega arith in
    let place : at + i + k ≡ at + (i + k) = omega arith in
    let front : range_at at i new ≡ take i (range_at at n bytes) =
    range_at-put_at_outside at i (at + i) piece bytes (omega arith) (inl (omega arith)) ∙ sym (take-take i n (drop at bytes) (omega arith)) in
    let middle : range_at (at + i) k new ≡ piece = range_at-put_at_same (at + i) k piece bytes (let long : length piece ≡ k = omega arith in long) (omega arith) in
    let behind : range_at (at + i + k) rest new ≡ drop (i + k) (range_at at n bytes) =
    range_at-put_at_outside (at + i + k) rest (at + i) piece bytes (omega arith) (inr (omega arith))
    ∙ ap (λ (p : ℕ). range_at p rest bytes) place
    ∙ ap (λ (xs : List ℕ). take rest xs) (sym (drop-drop (i + k) at bytes))
    ∙ sym (drop-take (i + k) rest (drop at bytes))
    ∙ ap (λ (m : ℕ). drop (i + k) (take m (drop at bytes))) (let sum : i + k + rest ≡ n = omega arith in sum) in
    ap (λ (m : ℕ). range_at at m new) whole
    ∙ range_at-add at i (k + rest) new
    ∙ ap (λ (xs : List ℕ). range_at at i new ++ xs) (range_at-add (at + i) k rest new)
    ∙ ap (λ (xs : List ℕ). xs ++ (range_at (at + i) k new ++ range_at (at + i + k) rest new)) front
    ∙ ap (λ (xs : List ℕ). take i (range_at at n bytes) ++ (xs ++ range_at (at + i + k) rest new)) middle
    ∙ ap (λ (xs : List ℕ). take i (range_at at n bytes) ++ (piece ++ xs)) behind

-- writing what stands there changes nothing
pub put_at-range_at : (at n : ℕ) (bytes : List ℕ) → at + n ≤ length bytes → put_at at (range_at at n bytes) bytes ≡ bytes
put_at-range_at at n bytes within =
    let long : length (range_at at n bytes) ≡ n = length-range_at at n bytes within in
    ap (λ (m : ℕ). take at bytes ++ (range_at at n bytes ++ drop (at + m) bytes)) long
    ∙ ap (λ (xs : List ℕ). take at bytes ++ (range_at at n bytes ++ xs)) (sym (drop-drop n at bytes))
    ∙ ap (λ (xs : List ℕ). take at bytes ++ xs) (take-append-drop n (drop at bytes))
    ∙ take-append-drop at bytes

-- writing no bytes changes nothing
pub put_at_nothing : (at : ℕ) (bytes : List ℕ) → put_at at [] bytes ≡ bytes
put_at_nothing at bytes =
    let place : at + 0 ≡ at = omega arith in
    ap (λ (p : ℕ). take at bytes ++ drop p bytes) place ∙ take-append-drop at bytes

-- one write over another at the same place
pub put_at-put_at_same : (at : ℕ) (old piece bytes : List ℕ) → length old ≡ length piece → at + length piece ≤ length bytes
    → put_at at piece (put_at at old bytes) ≡ put_at at piece bytes
put_at-put_at_same at old piece bytes long room =
    ap (λ (xs : List ℕ). xs ++ (piece ++ drop (at + length piece) (put_at at old bytes))) (take-put_at at at old bytes (omega arith) (omega arith))
    ∙ ap (λ (xs : List ℕ). take at bytes ++ (piece ++ xs)) (drop-put_at at (at + length piece) old bytes (omega arith) (omega arith))

-- two writes one after the other are one
pub put_at-put_at_next : (at next : ℕ) (a b bytes : List ℕ) → next ≡ at + length a → next + length b ≤ length bytes
    → put_at next b (put_at at a bytes) ≡ put_at at (a ++ b) bytes
put_at-put_at_next at next a b bytes place room =
    let front : List ℕ = take at bytes ++ a in
    let long : length front ≡ next = length-append (take at bytes) a ∙ ap (λ (m : ℕ). m + length a) (length-take-le at bytes (omega arith)) ∙ sym place in
    let one : put_at at a bytes ≡ front ++ drop next bytes =
    ap (λ (p : ℕ). take at bytes ++ (a ++ drop p bytes)) (sym place) ∙ sym (append_assoc (take at bytes) a (drop next bytes)) in
    let head : take next (put_at at a bytes) ≡ front = ap (λ (xs : List ℕ). take next xs) one ∙ take_at front (drop next bytes) next long in
    let end : next + length b ≡ at + length (a ++ b) = omega (arith, length-append a b) in
    let behind : drop (next + length b) (put_at at a bytes) ≡ drop (at + length (a ++ b)) bytes =
    drop-put_at at (next + length b) a bytes (omega arith) (omega arith) ∙ ap (λ (p : ℕ). drop p bytes) end in
    ap (λ (xs : List ℕ). xs ++ (b ++ drop (next + length b) (put_at at a bytes))) head
    ∙ ap (λ (xs : List ℕ). front ++ (b ++ xs)) behind
    ∙ append_assoc (take at bytes) a (b ++ drop (at + length (a ++ b)) bytes)
    ∙ ap (λ (xs : List ℕ). take at bytes ++ xs) (sym (append_assoc a b (drop (at + length (a ++ b)) bytes)))
