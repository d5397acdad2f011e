use Rattle.std.proofs.Common.{◌≡◌, ◌+◌, ◌≤◌, take, count_by}
use Rattle.std.specs.Prelude.{◌==◌}
use Rattle.script_words.proofs.words.count_words.Given as goal

abbrev pub invariant-loop-byte : goal.invariant-loop-byte
invariant-loop-byte l = record {
  counted : l.count ≡ count_by (λ b. b == 32) (take l.byte-index l.text) + 1;
  few : l.count ≤ l.byte-index + 1;
}
