-- What lists of groups are: sets of addresses, in the order in which they came.
use Rattle.std.specs.Prelude.{◌≡◌, ◌⊎◌, ℕ, ◌<◌, false, List, [], ◌∷◌, length, take, ⊤}
use Rattle.lane_models.specs.Groups.{is_in, with_groups, without_groups}

-- each address stands in it once
abbrev pub Once : List (List ℕ) → Type 0
Once [] = ⊤
Once (address ∷ addresses) = (is_in addresses address ≡ false) × Once addresses

-- a message of groups is refused that names more than seven, whose set is none, or by which there would be more than seven
abbrev pub IsRefused : (set count : ℕ) (seven groups : List (List ℕ)) → Type 0
IsRefused set count seven groups = (7 < count) ⊎ ((1 < set) ⊎ ((set ≡ 1) × (7 < length (with_groups groups (take count seven)))))

-- else the list comes of it: with those that it names, or without them
abbrev pub ComesOf : (set count : ℕ) (seven groups behind : List (List ℕ)) → Type 0
ComesOf set count seven groups behind =
    ((set ≡ 1) × (behind ≡ with_groups groups (take count seven))) ⊎ ((set ≡ 0) × (behind ≡ without_groups groups (take count seven)))
