-- The part of a piece that is left.
use Rattle.std.proofs.Common.{◌≡◌, ℕ, ◌+◌, ◌-◌, ◌≤◌, List, take, drop, sym, ◌∙◌, ap, arith}
use Rattle.std.proofs.lemmas.List.{drop-take, drop-drop}

-- the part from `start` on, without its first n bytes
pub range_skip : (bytes : List ℕ) (start end n : ℕ) → n ≤ end - start → take (end - (start + n)) (drop (start + n) bytes) ≡ drop n (take (end - start) (drop start bytes))
range_skip bytes start end n le =
    let long : end - start ≡ n + (end - (start + n)) = omega arith in
    ap (λ (l : List ℕ). take (end - (start + n)) l) (sym (drop-drop n start bytes))
    ∙ sym (drop-take n (end - (start + n)) (drop start bytes))
    ∙ ap (λ (m : ℕ). drop n (take m (drop start bytes))) (sym long)
