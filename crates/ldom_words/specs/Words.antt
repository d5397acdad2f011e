-- The words of a command line.
use Rattle.std.specs.Prelude.{◌≡◌, ℕ, ◌<◌, decimal, ◌==◌, ◌&&◌, Bool, true, false, not, List, [], ◌∷◌, codes, IsTrue}
use Rattle.std.specs.List.{list_all}
use Rattle.std.specs.Str.{bytes_eq}

-- a word that isn't empty and, but for `-` alone, doesn't begin with `-`
abbrev pub is_plain_word : List ℕ → Bool
is_plain_word [] = false
is_plain_word (only ∷ []) = true
is_plain_word (first ∷ second ∷ rest) = not (first == 45)

abbrev pub begins_with_help : List (List ℕ) → Bool
begins_with_help [] = false
begins_with_help (first ∷ rest) = bytes_eq first (codes "help")

-- all words are such, and the first isn't `help`
abbrev pub all_plain : List (List ℕ) → Bool
all_plain words = not (begins_with_help words) && list_all is_plain_word words

-- the words `run IMAGE`
pub record AsksRun (words : List (List ℕ)) (image : List ℕ) : Type 0 where
  pub are : words ≡ codes "run" ∷ image ∷ []
  pub plain : IsTrue (is_plain_word image)

-- the words `trace IMAGE`
pub record AsksTrace (words : List (List ℕ)) (image : List ℕ) : Type 0 where
  pub are : words ≡ codes "trace" ∷ image ∷ []
  pub plain : IsTrue (is_plain_word image)

-- so many samples there are: their numbers are below this
abbrev pub sample_count : ℕ
sample_count = 2147483648

-- the words `sample N`
pub record AsksSample (words : List (List ℕ)) (number : ℕ) : Type 0 where
  pub are : words ≡ codes "sample" ∷ decimal number ∷ []
  pub below : number < sample_count

-- the word `dump`
abbrev pub AsksDump : List (List ℕ) → Type 0
AsksDump words = words ≡ codes "dump" ∷ []
