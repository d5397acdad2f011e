-- The groups of a guest: its own list, what it says of it, and what the switch's end makes of that.
use Rattle.std.specs.Prelude.{ℕ, zero, suc, ◌==◌, not, nat_eq, nat_le, Bool, if◌then◌else◌, List, [], ◌∷◌, ◌++◌, length, replicate, take, Option, Some, None}
use Rattle.std.specs.List.{filter, list_any}
use Rattle.std.specs.Cmp.Lexicographic.{pointwise}
use Rattle.vio_handshake.specs.Messages.{info}
use Rattle.vio_tag.specs.declared.message.Message.{Message}
use Rattle.vio_tag.specs.declared.message.MsgBody.TheVariants.{Mcast}

-- an address, 6 bytes, is in a list
abbrev pub is_in : List (List ℕ) → List ℕ → Bool
is_in groups address = list_any (pointwise nat_eq address) groups

-- THE MESSAGE with the whole list: set 1, how many addresses there are, and room for seven
abbrev pub seven : ℕ → List (List ℕ) → List (List ℕ)
seven zero groups = []
seven (suc n) [] = replicate 6 0 ∷ seven n []
seven (suc n) (address ∷ groups) = address ∷ seven n groups

abbrev pub membership : ℕ → List (List ℕ) → Message
membership sid groups = info sid (Mcast 1 (length groups) (seven 7 groups))

-- WHAT COMES OF ONE: the list with the addresses that it lacks, or without those that are named
abbrev pub with_groups : List (List ℕ) → List (List ℕ) → List (List ℕ)
with_groups groups [] = groups
with_groups groups (address ∷ addresses) = with_groups (if is_in groups address then groups else groups ++ address ∷ []) addresses

abbrev pub without_groups : List (List ℕ) → List (List ℕ) → List (List ℕ)
without_groups groups addresses = filter (λ address. not (is_in addresses address)) groups

-- it has at most seven
abbrev pub at_most_seven : List (List ℕ) → Option (List (List ℕ))
at_most_seven groups = if nat_le (length groups) 7 then Some groups else None

-- the list after a message that names at most seven addresses; none where it is refused
abbrev pub set_groups : ℕ → List (List ℕ) → List (List ℕ) → Option (List (List ℕ))
set_groups set addresses groups =
    if set == 1 then at_most_seven (with_groups groups addresses)
    else if set == 0 then Some (without_groups groups addresses)
    else None

abbrev pub groups_after : ℕ → ℕ → List (List ℕ) → List (List ℕ) → Option (List (List ℕ))
groups_after set count addresses groups = if nat_le count 7 then set_groups set (take count addresses) groups else None
