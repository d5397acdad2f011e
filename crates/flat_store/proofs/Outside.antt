-- A write of a range leaves the bytes outside it.
use Rattle.std.proofs.Common.{◌≡◌, ℕ, ◌+◌, ◌≤◌, List, ◌++◌, length, take, drop, Some, ◌∙◌, sym, ap, arith, append_assoc, length-append}
use Rattle.std.proofs.lemmas.List.{take_at, drop_at, length-take-le, length-drop}
use Rattle.vio_bytes.specs.Place.{put_at}
use Rattle.vio_io.specs.Stores.{KeepsOutside}

pub keeps_outside : (old new bytes : List ℕ) (at : ℕ) → at + length bytes ≤ length old → new ≡ put_at at bytes old → KeepsOutside (Some old) (Some new) at (length bytes)
keeps_outside old new bytes at within is =
    let front : length (take at old) ≡ at = length-take-le at old (omega arith) in
    let behind = drop (at + length bytes) old in
    let split : new ≡ take at old ++ (bytes ++ behind) = is in
    let joined : new ≡ (take at old ++ bytes) ++ behind = is ∙ sym (append_assoc (take at old) bytes behind) in
    let long : length (take at old ++ bytes) ≡ at + length bytes = length-append (take at old) bytes ∙ ap (λ (n : ℕ). n + length bytes) front in (
      ap length joined ∙ omega (arith, length-append (take at old ++ bytes) behind, long, length-drop (at + length bytes) old),
      ap (λ (l : List ℕ). take at l) split ∙ take_at (take at old) (bytes ++ behind) at front,
      ap (λ (l : List ℕ). drop (at + length bytes) l) joined ∙ drop_at (take at old ++ bytes) behind (at + length bytes) long,
    )
