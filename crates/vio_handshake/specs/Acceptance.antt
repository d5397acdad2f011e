-- Which registration of a ring an end accepts.
use Rattle.std.specs.Prelude.{ℕ, ◌+◌, ◌*◌, ◌%◌, Bool, true, ◌&&◌, nat_le, ◌==◌, bit_and, List, [], ◌∷◌, take}
use Rattle.map_table.specs.declared.cookie.Cookie.{Cookie}
use Rattle.vio_handshake.specs.declared.session.Offer.{Offer}

-- the bytes that cookies name together
abbrev pub sizes : List Cookie → ℕ
sizes [] = 0
sizes (cookie ∷ cookies) = cookie.size + sizes cookies

-- it begins at a multiple of 8 bytes, and is so many
abbrev pub is_aligned : Cookie → Bool
is_aligned cookie = cookie.address % 8 == 0 && cookie.size % 8 == 0

abbrev pub are_aligned : List Cookie → Bool
are_aligned [] = true
are_aligned (cookie ∷ cookies) = is_aligned cookie && are_aligned cookies

-- aligned cookies that hold a ring of so many bytes together
unfoldable pub hold_ring : List Cookie → ℕ → Bool
hold_ring cookies bytes = are_aligned cookies && nat_le bytes (sizes cookies)

-- a ring as expected, which the peer sends from, in 1 to 14 cookies that hold it
unfoldable pub accepts_ring : Offer → ℕ → ℕ → ℕ → ℕ → List Cookie → Bool
accepts_ring offer slots slot_size options count cookies =
    slots == offer.peer_slots && slot_size == offer.slot_size && bit_and options 1 == 1
    && nat_le 1 count && nat_le count 14 && hold_ring (take count cookies) (slots * slot_size)
