-- The words of a line, and what a single word spells.
use Rattle.std.specs.Prelude.{◌≡◌, ℕ, ◌-◌, ◌+◌, ◌*◌, ◌/◌, ◌%◌, ◌^◌, ◌<◌, ◌≤◌, ◌==◌, ◌&&◌, ◌||◌, nat_le, nat_lt, Bool, true, false, IsTrue, List, [], ◌∷◌, ◌++◌, length, take, drop, replicate, cond, decimal, Ok, ⊤}
use Rattle.std.specs.Char.{is_ascii_lowercase, is_ascii_digit}
use Rattle.std.specs.Int.{is_power_of_two}
use Rattle.std.specs.List.{slice_split, list_all}
use Rattle.std.specs.Str.{bytes_eq}
use Rattle.std.specs.Str.Parse.{digits_value}
use Rattle.hex.specs.Hex.{decode_of, encode_lower}
use Rattle.vdisk_msg.specs.declared.request.Fill.{Fill}
use Rattle.script_words.specs.declared.spelled.Name.{Name}
use Rattle.script_words.specs.declared.spelled.Piece.{Piece}
use Rattle.script_words.specs.declared.numbers.Bounds.{Bounds}
use Rattle.script_words.specs.declared.numbers.Bounds.TheVariants.{Any, Between, PowerBetween}
use Rattle.script_words.specs.Limits.{most_of_a_fill, most_of_a_piece}

-- the parts between spaces: each space ends a word, so that two together have an empty one between them
abbrev pub words : List ℕ → List (List ℕ)
words text = slice_split (λ b. b == 32) text

-- a byte from the space to the tilde
abbrev pub is_printable : ℕ → Bool
is_printable b = nat_le 32 b && nat_le b 126

-- a decimal number without leading zeros, below 2^64
abbrev pub SpellsNumber : List ℕ → ℕ → Type 0
SpellsNumber word n = (word ≡ decimal n) × (n < 2 ^ 64)

-- whether a word is one: the text of the number that its digits write
abbrev pub number_of : List ℕ → ℕ
number_of word = digits_value 10 word

abbrev pub is_number : List ℕ → Bool
is_number word = bytes_eq word (decimal (number_of word)) && nat_lt (number_of word) (2 ^ 64)

-- a number within its bounds, and whether it is
abbrev pub IsWithin : Bounds → ℕ → Type 0
IsWithin Any n = ⊤
IsWithin (Between least most) n = (least ≤ n) × (n ≤ most)
IsWithin (PowerBetween least most) n = (least ≤ n) × (n ≤ most) × IsTrue (is_power_of_two n)

abbrev pub is_within : Bounds → ℕ → Bool
is_within Any n = true
is_within (Between least most) n = nat_le least n && nat_le n most
is_within (PowerBetween least most) n = nat_le least n && (nat_le n most && is_power_of_two n)

-- a letter a to z or a digit
abbrev pub is_name_byte : ℕ → Bool
is_name_byte b = is_ascii_lowercase b || is_ascii_digit b

-- a letter a to z, and letters or digits after it
abbrev pub IsNameWord : List ℕ → Type 0
IsNameWord [] = ⊥
IsNameWord (b ∷ bs) = IsTrue (is_ascii_lowercase b) × IsTrue (list_all is_name_byte bs)

-- a name: its bytes, at most eight, and zeros after them
pub record SpellsName (word : List ℕ) (name : Name) : Type 0 where
  pub letters : IsNameWord word
  pub most : length word ≤ 8
  pub len : name.len ≡ length word
  pub bytes : name.bytes ≡ word ++ replicate (8 - length word) 0

-- a name that some word spells
pub record IsName (name : Name) : Type 0 where
  pub word : List ℕ
  pub spelled : SpellsName word name

-- whether a word spells a name, and the name that it then spells
abbrev pub begins_name : List ℕ → Bool
begins_name [] = false
begins_name (b ∷ bs) = is_ascii_lowercase b && list_all is_name_byte bs

abbrev pub is_name : List ℕ → Bool
is_name word = begins_name word && nat_le (length word) 8

abbrev pub name_of : List ℕ → Name
name_of word = record { len = length word; bytes = word ++ replicate (8 - length word) 0 }

-- WORDS IN HEXADECIMAL: one reads as its bytes, and is their lower-case text. A word of exactly so many bytes, as that of
-- a packet or of an address:
pub record SpellsExactly (size : ℕ) (word bytes : List ℕ) : Type 0 where
  pub long : length bytes ≡ size
  pub reads : decode_of word ≡ Ok bytes
  pub lower : word ≡ encode_lower bytes

-- and one of 1 to so many bytes, which stand in front of zeros: the word of a write, or a frame
pub record SpellsFront (size : ℕ) (word : List ℕ) (len : ℕ) (bytes : List ℕ) : Type 0 where
  pub some : 1 ≤ len
  pub most : len ≤ size
  pub room : length bytes ≡ size
  pub zeros : drop len bytes ≡ replicate (size - len) 0
  pub reads : decode_of word ≡ Ok (take len bytes)
  pub lower : word ≡ encode_lower (take len bytes)

abbrev pub SpellsFill : List ℕ → Fill → Type 0
SpellsFill word fill = SpellsFront most_of_a_fill word fill.len fill.bytes

abbrev pub SpellsPiece : List ℕ → Piece → Type 0
SpellsPiece word piece = SpellsFront most_of_a_piece word piece.len piece.bytes

-- whether a word is one: lower-case digits, two for each byte
abbrev pub is_lower_digit : ℕ → Bool
is_lower_digit b = is_ascii_digit b || (nat_le 97 b && nat_le b 102)

abbrev pub is_exactly : ℕ → List ℕ → Bool
is_exactly size word = list_all is_lower_digit word && ((length word % 2 == 0) && (length word / 2 == size))

abbrev pub is_front : ℕ → List ℕ → Bool
is_front size word = list_all is_lower_digit word && ((length word % 2 == 0) && (nat_le 1 (length word / 2) && nat_le (length word / 2) size))

-- the bytes of lower-case digits, two by two, and a room that begins with bytes
abbrev pub digit_of : ℕ → ℕ
digit_of b = cond (nat_lt b 58) (b - 48) (b - 87)

abbrev pub bytes_of : List ℕ → List ℕ
bytes_of [] = []
bytes_of (high ∷ []) = []
bytes_of (high ∷ low ∷ rest) = (16 * digit_of high + digit_of low) ∷ bytes_of rest

abbrev pub in_room : ℕ → List ℕ → List ℕ
in_room size bytes = bytes ++ replicate (size - length bytes) 0
