-- The front of a room in which so many places are taken.
use Rattle.std.proofs.Common.{◌≡◌, ℕ, ◌≤◌, List, length, take, slice_get, None, ap, sym, ◌∙◌, arith}
use Rattle.std.proofs.lemmas.List.{length-take-le}
use Rattle.std.proofs.lemmas.Option.{slice_get_past}

pub none_past : {X : Type 0} (room taken : List X) (count k : ℕ) → take count room ≡ taken → count ≤ length room → count ≤ k → None ≡ slice_get taken k
none_past {X = X} room taken count k is fits past =
    let long : length taken ≡ count = sym (ap (λ (l : List X). length l) is) ∙ length-take-le count room fits in
    sym (slice_get_past taken k (omega (arith, long, past)))
