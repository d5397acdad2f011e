use Rattle.std.proofs.Common.{◌≡◌, ◌+◌, ◌*◌, ◌<◌, ℕ, List, length, get_or}
use Rattle.vio_tag.specs.Spelling.{bytes_at}
use Rattle.vio_tag.proofs.decoding.addresses.Given as goal

abbrev pub invariant-loop-i : goal.invariant-loop-i
invariant-loop-i l = record {
  long : length l.addresses ≡ 7;
  read : (k : ℕ) (d : List ℕ) → k < l.i → get_or l.addresses k d ≡ bytes_at 6 (10 + 6 * k) l.bytes;
}
