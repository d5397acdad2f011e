use Rattle.std.proofs.Common.{◌≡◌, ◌<◌, ◌++◌, ℕ, List, length}
use Rattle.kept_requests.specs.BlockWord.{blocks_text}
use Rattle.gathered_text.specs.Gathered.{Gathers}
use Rattle.line_words.proofs.block_words.put_plain.Given as goal

abbrev pub invariant-loop-block : goal.invariant-loop-block
invariant-loop-block g l = record {
  so_far : List ℕ;
  whole : blocks_text l.bytes ≡ so_far ++ blocks_text l.rest;
  gathers : Gathers (g.K.Sink.written l.initial.out) (g.K.Sink.written l.out) l.text (l.initial.text ++ so_far);
  room : length l.text < 65536;
  unfailed : g.K.Sink.faults l.out ≡ g.K.Sink.faults l.initial.out;
}

abbrev pub decreases-loop-block : goal.decreases-loop-block
decreases-loop-block g l = length l.rest
