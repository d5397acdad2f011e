-- Bytes that decide where a line ends.
use Rattle.std.specs.Prelude.{◌≡◌, ◌≢◌, ℕ, ◌<◌, ◌≤◌, List, [], ◌∷◌, ◌++◌, length, ⊤}
use Rattle.script_words.specs.Limits.{most_line_bytes, most_lines}

-- no byte is c
abbrev pub HasNo : ℕ → List ℕ → Type 0
HasNo c [] = ⊤
HasNo c (b ∷ bs) = (b ≢ c) × HasNo c bs

-- no byte is a line feed
abbrev pub HasNoFeed : List ℕ → Type 0
HasNoFeed bytes = HasNo 10 bytes

-- The bytes that are held after so many lines decide nothing: no line is whole in them, and no limit is met.
pub record DecidesNothing (count : ℕ) (held : List ℕ) : Type 0 where
  pub no_feed : HasNoFeed held
  pub short : length held ≤ most_line_bytes
  pub none : count ≡ most_lines → held ≡ []

-- more than 3,100 bytes come before any line feed
pub record IsTooLong (bytes : List ℕ) : Type 0 where
  pub front : List ℕ
  pub behind : List ℕ
  pub is : bytes ≡ front ++ behind
  pub no_feed : HasNoFeed front
  pub long : most_line_bytes < length front
