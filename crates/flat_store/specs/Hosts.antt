-- What the hosts give under a name.
use Rattle.std.specs.Prelude.{ℕ, List, Option, Some, None, replicate, codes, if◌then◌else◌}
use Rattle.std.specs.Str.{bytes_eq}

-- zeros under the name `-`, and one image of these bytes under its name
abbrev pub one_image : List ℕ → List ℕ → List ℕ → ℕ → Option (List ℕ)
one_image image bytes name least = if bytes_eq name (codes "-") then Some (replicate least 0) else (if bytes_eq name image then Some bytes else None)

-- zeros under the name `-`, and nothing told of others
abbrev pub zeros_alone : List ℕ → ℕ → Option (List ℕ)
zeros_alone name least = if bytes_eq name (codes "-") then Some (replicate least 0) else None
