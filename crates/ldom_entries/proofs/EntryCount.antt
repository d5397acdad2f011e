-- How many entries there are.
use Rattle.std.proofs.Common.{◌≡◌, suc, List, [], ◌∷◌, length, refl, ap}
use Rattle.ldom_entries.specs.Beside.{Lists, rest_of}
use Rattle.ldom_entries.specs.Decoded.{entries_of, share}
use Rattle.ldom_entries.specs.declared.header.Header.{Header}

-- as many entries as headers
pub entries_count : (headers : List Header) (l : Lists) → length (entries_of headers l) ≡ length headers
entries_count [] l = refl
entries_count (h ∷ headers) l = ap suc (entries_count headers (rest_of (share h) l))
