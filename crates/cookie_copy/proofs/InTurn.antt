-- The addresses of cookies that follow one another are a range.
use Rattle.std.proofs.Common.{◌≡◌, ℕ, ◌+◌, List, [], ◌∷◌, ◌++◌, refl, sym, ap, ◌∙◌}
use Rattle.std.specs.List.{range_with_len}
use Rattle.map_table.specs.declared.cookie.Cookie.{Cookie}
use Rattle.cookie_copy.specs.Faults.{held}
use Rattle.cookie_copy.specs.Following.{FollowOn}
use Rattle.cookie_copy.specs.Moved.{spots}
use Rattle.cookie_copy.proofs.Walking.{range-add}

pub spots_follow : (a : ℕ) (cookies : List Cookie) → FollowOn a cookies → spots cookies ≡ range_with_len a (held cookies)
unfolding spots
spots_follow a [] follow = refl
spots_follow a (cookie ∷ cookies) follow =
    ap (λ (p : ℕ). range_with_len p cookie.size ++ spots cookies) follow.0
    ∙ ap (λ (xs : List ℕ). range_with_len a cookie.size ++ xs) (spots_follow (a + cookie.size) cookies follow.1)
    ∙ sym (range-add a cookie.size (held cookies))
