-- A script that a dump takes whole.
use Rattle.std.specs.Prelude.{ℕ, ◌≤◌, List, [], ◌∷◌, length, ⊤}
use Rattle.domain_script.specs.ScriptLines.{script_lines}
use Rattle.ldom_dump.specs.Decoded.{SpellsBytes}
use Rattle.domain_script.specs.Limits.{most_lines}

-- 128 lower-case hexadecimal digits
pub record IsDigits (line : List ℕ) : Type 0 where
  pub bytes : List ℕ
  pub spells : SpellsBytes line bytes

abbrev pub AreDigits : List (List ℕ) → Type 0
AreDigits [] = ⊤
AreDigits (line ∷ lines) = IsDigits line × AreDigits lines

-- each line is digits, and there are no more lines than there may be
pub record IsWholeDump (bytes : List ℕ) : Type 0 where
  pub digits : AreDigits (script_lines bytes)
  pub few : length (script_lines bytes) ≤ most_lines
