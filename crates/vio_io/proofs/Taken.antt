-- What a read takes from the front of a list.
use Rattle.std.proofs.Common.{◌≡◌, ℕ, ◌+◌, ◌-◌, ◌<◌, ◌≤◌, List, [], ◌++◌, min, length, take, drop, sym, ◌∙◌, ap, arith}
use Rattle.std.proofs.lemmas.List.{take-append-drop, take_at, length-take-le, drop-drop, take_all, drop_all, length-drop}

-- the n bytes from the place `at` on, copied to the front of a buffer, and what is left
pub takes_front : (items copied tail : List ℕ) (at n : ℕ) → n ≤ length (drop at items) → copied ≡ take n (drop at items)
    → drop at items ≡ take n (copied ++ tail) ++ drop (at + n) items
takes_front items copied tail at n le is =
    let long : length copied ≡ n = ap length is ∙ length-take-le n (drop at items) le in
    sym (take-append-drop n (drop at items))
    ∙ ap (λ (l : List ℕ). l ++ drop n (drop at items)) (sym is ∙ sym (take_at copied tail n long))
    ∙ ap (λ (l : List ℕ). take n (copied ++ tail) ++ l) (drop-drop n at items)

-- the slice from the place `at` on, as a list
pub slice_from : (items : List ℕ) (at : ℕ) → take (length items - at) (drop at items) ≡ drop at items
slice_from items at = take_all (length items - at) (drop at items) (omega (arith, length-drop at items))

-- nothing was taken only where nothing is left
pub none_left : (items : List ℕ) (at n most : ℕ) → 0 < most → n ≡ min most (length (drop at items)) → n ≡ 0 → drop (at + n) items ≡ []
none_left items at n most some is zero = drop_all (at + n) items (omega (arith, length-drop at items))
