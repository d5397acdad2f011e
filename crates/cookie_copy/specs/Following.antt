-- Cookies whose bytes follow one another in memory.
use Rattle.std.specs.Prelude.{◌≡◌, ℕ, ◌+◌, List, [], ◌∷◌}
use Rattle.map_table.specs.declared.cookie.Cookie.{Cookie}

-- the first cookie begins at the address, and each other where the one before it ends
abbrev pub FollowOn : ℕ → List Cookie → Type 0
FollowOn address [] = Unit {0}
FollowOn address (cookie ∷ cookies) = (cookie.address ≡ address) × FollowOn (address + cookie.size) cookies
