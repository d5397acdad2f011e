-- The words of values: of a name, and of bytes that stand in front of zeros.
use Rattle.std.specs.Prelude.{ℕ, List, take}
use Rattle.hex.specs.Hex.{encode_lower}
use Rattle.script_words.specs.declared.spelled.Name.{Name}

abbrev pub name_text : Name → List ℕ
name_text name = take name.len name.bytes

-- bytes in hexadecimal: the first of them
abbrev pub front_text : ℕ → List ℕ → List ℕ
front_text len bytes = encode_lower (take len bytes)
