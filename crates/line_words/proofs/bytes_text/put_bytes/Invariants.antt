use Rattle.std.proofs.Common.{◌≡◌, ◌++◌, ℕ, List, drop}
use Rattle.hex.specs.Hex.{encode_lower}
use Rattle.gathered_text.specs.Gathered.{Gathers}
use Rattle.kept_requests.specs.Packed.{AreKept, unpacked}
use Rattle.line_words.proofs.bytes_text.put_bytes.Given as goal

abbrev pub invariant-loop-size : goal.invariant-loop-size
invariant-loop-size g l = record {
  are : AreKept (drop l.size-index l.lengths) l.kept;
  so_far : List ℕ;
  whole : encode_lower l.bytes.items ≡ so_far ++ encode_lower (unpacked (drop l.size-index l.lengths) l.kept);
  gathers : Gathers (g.K.Sink.written l.initial.out) (g.K.Sink.written l.out) l.text (l.initial.text ++ so_far);
  unfailed : g.K.Sink.faults l.out ≡ g.K.Sink.faults l.initial.out;
}
