-- The address by which a frame goes to every port.
use Rattle.std.specs.Prelude.{ℕ, List, [], ◌∷◌}

abbrev pub broadcast : List ℕ
broadcast = 255 ∷ 255 ∷ 255 ∷ 255 ∷ 255 ∷ 255 ∷ []
