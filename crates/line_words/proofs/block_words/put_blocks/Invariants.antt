use Rattle.std.proofs.Common.{◌≡◌, ◌<◌, ◌++◌, ℕ, List, length, drop}
use Rattle.kept_requests.specs.BlockWord.{blocks_text}
use Rattle.gathered_text.specs.Gathered.{Gathers}
use Rattle.kept_requests.specs.Packed.{AreKept, unpacked}
use Rattle.line_words.proofs.block_words.put_blocks.Given as goal

abbrev pub invariant-loop-n : goal.invariant-loop-n
invariant-loop-n g l = record {
  are : AreKept (drop l.n-index l.lengths) l.kept;
  so_far : List ℕ;
  whole : blocks_text l.bytes.items ≡ so_far ++ blocks_text (unpacked (drop l.n-index l.lengths) l.kept);
  gathers : Gathers (g.K.Sink.written l.initial.out) (g.K.Sink.written l.out) l.text (l.initial.text ++ so_far);
  room : length l.text < 65536;
  unfailed : g.K.Sink.faults l.out ≡ g.K.Sink.faults l.initial.out;
}
