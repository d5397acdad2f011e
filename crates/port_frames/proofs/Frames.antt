-- A frame's buffer in three writes.
use Rattle.std.proofs.Common.{◌≡◌, ℕ, ◌+◌, ◌-◌, ◌≤◌, List, ◌++◌, length, replicate, take, drop, refl, sym, ◌∙◌, ap, arith, length-append}
use Rattle.std.proofs.lemmas.List.{drop-take, length-replicate, take-replicate, take-take}
use Rattle.vio_bytes.proofs.Ranges.{put_at-put_at_next}
use Rattle.vio_bytes.specs.Place.{put_at}
use Rattle.vnet_msg.specs.Frames.{frame_buffer, frame_in, moved_size}

pub buffer_written : (place : ℕ) (frame memory first next last : List ℕ) → length frame ≤ 1514 → place + 1520 ≤ length memory
    → first ≡ put_at place (replicate 6 0) memory → next ≡ put_at (place + 6) frame first
    → last ≡ put_at (place + (6 + length frame)) (replicate (moved_size (length frame) - (6 + length frame)) 0) next
    → last ≡ put_at place (frame_buffer frame) memory
buffer_written place frame memory first next last most room first_is next_is last_is =
    let behind : ℕ = moved_size (length frame) - (6 + length frame) in
    let long : length {A = ℕ} (replicate behind 0) ≡ behind = length-replicate behind 0 in
    let size : moved_size (length frame) ≤ 1520 = omega (arith, most) in
    let end : place + (6 + length frame) ≡ place + length (replicate {A = ℕ} 6 0 ++ frame) = ap (λ (n : ℕ). place + n) (sym (length-append (replicate {A = ℕ} 6 0) frame)) in
    let one : put_at (place + 6) frame (put_at place (replicate 6 0) memory) ≡ put_at place (replicate 6 0 ++ frame) memory =
    put_at-put_at_next place (place + 6) (replicate 6 0) frame memory refl (omega (arith, most, room)) in
    let two : put_at (place + (6 + length frame)) (replicate behind 0) (put_at place (replicate 6 0 ++ frame) memory) ≡ put_at place ((replicate 6 0 ++ frame) ++ replicate behind 0) memory =
    put_at-put_at_next place (place + (6 + length frame)) (replicate 6 0 ++ frame) (replicate behind 0) memory end (omega (arith, most, room, long, size)) in
    last_is
    ∙ ap (put_at (place + (6 + length frame)) (replicate behind 0)) (next_is ∙ ap (put_at (place + 6) frame) first_is ∙ one)
    ∙ two

-- so many of eight zeros
pub fewer_zeros : (n m : ℕ) → n ≤ 8 → n ≡ m → take {A = ℕ} n (replicate 8 0) ≡ replicate m 0
fewer_zeros n m few is = take-replicate n 8 0 few ∙ ap (λ (k : ℕ). replicate {A = ℕ} k 0) is

-- a frame lies in the front of what was copied
pub frame_in_front : (size n : ℕ) (moved front : List ℕ) → 6 + size ≤ n → take n moved ≡ front → frame_in size moved ≡ frame_in size front
frame_in_front size n moved front within is =
    let back : n ≡ 6 + (n - 6) = omega (arith, within) in
    let less : size ≤ n - 6 = omega (arith, within) in
    sym (ap (λ (xs : List ℕ). take size (drop 6 xs)) (sym is)
    ∙ ap (λ (m : ℕ). take size (drop 6 (take m moved))) back
    ∙ ap (take size) (drop-take 6 (n - 6) moved)
    ∙ take-take size (n - 6) (drop 6 moved) less)
