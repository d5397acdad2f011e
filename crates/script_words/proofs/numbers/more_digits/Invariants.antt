use Rattle.std.proofs.Common.{◌≡◌, ◌+◌, ◌^◌, ◌<◌, ◌≤◌, ◌∷◌, take}
use Rattle.std.specs.Fmt.{decimal}
use Rattle.script_words.proofs.numbers.more_digits.Given as goal

abbrev pub invariant-loop-byte : goal.invariant-loop-byte
invariant-loop-byte l = record {
  text : (48 + l.first) ∷ take l.byte-index l.rest ≡ decimal l.n;
  some : 1 ≤ l.n;
  small : l.n < 2 ^ 64;
}
