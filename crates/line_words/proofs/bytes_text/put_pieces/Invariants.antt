use Rattle.std.proofs.Common.{◌≡◌, ◌++◌, ℕ, List, length}
use Rattle.hex.specs.Hex.{encode_lower}
use Rattle.gathered_text.specs.Gathered.{Gathers}
use Rattle.line_words.proofs.bytes_text.put_pieces.Given as goal

abbrev pub invariant-loop-piece : goal.invariant-loop-piece
invariant-loop-piece g l = record {
  so_far : List ℕ;
  whole : encode_lower l.bytes ≡ so_far ++ encode_lower l.rest;
  gathers : Gathers (g.K.Sink.written l.initial.out) (g.K.Sink.written l.out) l.text (l.initial.text ++ so_far);
  unfailed : g.K.Sink.faults l.out ≡ g.K.Sink.faults l.initial.out;
}

abbrev pub decreases-loop-piece : goal.decreases-loop-piece
decreases-loop-piece g l = length l.rest
