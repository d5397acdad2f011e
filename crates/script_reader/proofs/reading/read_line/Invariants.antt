use Rattle.std.proofs.Common.{◌≡◌, ◌-◌, ◌≤◌, ◌++◌, length, vec_capacity}
use Rattle.std.specs.Io.KnownBytes.{Keeps, prepend_known}
use Rattle.domain_script.specs.Pieces.{HasNoFeed}
use Rattle.script_reader.proofs.reading.read_line.Given as goal

abbrev pub invariant-loop-piece : goal.invariant-loop-piece
invariant-loop-piece g l = record {
  told : Keeps (prepend_known (l.fn.line.items ++ l.fn.piece) (g.S.Source.left l.fn.source)) (prepend_known (l.line.items ++ l.piece) (g.S.Source.left l.source));
  short : length l.line.items ≤ 3100;
  no_feed : HasNoFeed l.line.items;
  room : 3100 ≤ vec_capacity l.line;
  unfailed : g.S.Source.faults l.source ≡ g.S.Source.faults l.fn.source;
  unended : g.S.Source.ends l.source ≡ g.S.Source.ends l.fn.source;
}

abbrev pub decreases-loop-piece : goal.decreases-loop-piece
decreases-loop-piece g l = 3101 - length l.line.items
