-- The lines of a script: the pieces between line feeds. A last piece that is empty is no line.
use Rattle.std.specs.Prelude.{◌≡◌, ℕ, ◌<◌, ◌≤◌, ◌⊎◌, ◌==◌, if◌then◌else◌, List, [], ◌∷◌, ◌++◌, length, Option, Some, None, ⊤}
use Rattle.script_words.specs.Limits.{most_line_bytes, most_lines}

-- the lines with this byte in front of the first
abbrev pub with_front : ℕ → List (List ℕ) → List (List ℕ)
with_front b [] = (b ∷ []) ∷ []
with_front b (line ∷ lines) = (b ∷ line) ∷ lines

abbrev pub script_lines : List ℕ → List (List ℕ)
script_lines [] = []
script_lines (b ∷ bs) = if b == 10 then [] ∷ script_lines bs else with_front b (script_lines bs)

-- these lines, each with its line feed
abbrev pub fed : List (List ℕ) → List ℕ
fed [] = []
fed (line ∷ lines) = line ++ 10 ∷ fed lines

-- the bytes are these lines, each with its line feed, and then what is left; where nothing is, the last may lack its own
abbrev pub AreBytesOf : List (List ℕ) → List ℕ → List ℕ → Type 0
AreBytesOf texts left bytes = (bytes ≡ fed texts ++ left) ⊎ ((bytes ++ 10 ∷ [] ≡ fed texts) × (left ≡ []))

-- known bytes begin with these lines, and what is left are the bytes after them
abbrev pub TakesLines : Option (List ℕ) → Option (List ℕ) → List (List ℕ) → Type 0
TakesLines None left texts = ⊤
TakesLines (Some bytes) None texts = ⊥
TakesLines (Some bytes) (Some left) texts = (script_lines bytes ≡ texts ++ script_lines left) × AreBytesOf texts left bytes

-- known bytes begin with this line
abbrev pub TakesLine : Option (List ℕ) → Option (List ℕ) → List ℕ → Type 0
TakesLine bytes left line = TakesLines bytes left (line ∷ [])

-- no line is longer than a line may be
abbrev pub AreShort : List (List ℕ) → Type 0
AreShort [] = Unit {0}
AreShort (line ∷ lines) = (length line ≤ most_line_bytes) × AreShort lines

-- these lines were taken from the front of what was to come, and none of them is past a limit
pub record LinesTaken (start left : Option (List ℕ)) (texts : List (List ℕ)) : Type 0 where
  pub taken : TakesLines start left texts
  pub short : AreShort texts
  pub few : length texts ≤ most_lines

-- the first line has more bytes than this
pub record BeginsWithLonger (most : ℕ) (bytes : List ℕ) : Type 0 where
  pub line : List ℕ
  pub others : List (List ℕ)
  pub is : script_lines bytes ≡ line ∷ others
  pub long : most < length line
