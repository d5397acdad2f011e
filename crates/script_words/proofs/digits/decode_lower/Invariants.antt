use Rattle.std.proofs.Common.{◌≡◌, ℕ, ◌*◌, ◌<◌, List, true, length, take, slice_index, Bool}
use Rattle.hex.specs.Hex.{IsBytes, encode_lower}
use Rattle.script_words.proofs.digits.decode_lower.Given as goal

pub record IsRead (text out : List ℕ) (i : ℕ) (good : Bool) : Type 0 where
  pub lower : good ≡ true → take (2 * i) text ≡ encode_lower (take i out)
  pub small : (k : ℕ) → k < i → slice_index out k < 256
  pub all : (bytes : List ℕ) → length bytes ≡ length out → IsBytes bytes → text ≡ encode_lower bytes → good ≡ true

abbrev pub invariant-bytes : goal.invariant-bytes
invariant-bytes l = IsRead l.text l.out l.i l.good
