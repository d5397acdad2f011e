-- Text that is gathered before it is written to a sink. `old` and `new` are the sink's bytes, where it tells them.
use Rattle.std.specs.Prelude.{◌≡◌, ◌<◌, ℕ, length, List, ◌++◌, Option}
use Rattle.std.specs.Io.KnownBytes.{Appends}

-- the most bytes that are gathered
abbrev pub most_gathered : ℕ
most_gathered = 65536

-- of a text, a front was written, and the rest is still gathered
pub record Gathers (old new : Option (List ℕ)) (gathered text : List ℕ) : Type 0 where
  pub front : List ℕ
  pub whole : text ≡ front ++ gathered
  pub written : Appends old new front

-- of a text, some front was written, and not the whole
pub record WroteFront (old new : Option (List ℕ)) (text : List ℕ) : Type 0 where
  pub front : List ℕ
  pub rest : List ℕ
  pub more : 0 < length rest
  pub whole : text ≡ front ++ rest
  pub written : Appends old new front
