use Rattle.std.proofs.Common.{arith, take, ◌∙◌, length-append, length-drop}
use Rattle.std.proofs.lemmas.List.{length-take-le}
use Rattle.std.proofs.Math.Nat.{mod_self}
use Rattle.disk_requests.proofs.Repetition.{laid_first, laid_twice, whole_twice}
use Rattle.disk_requests.proofs.filling.lay_words.Goals as goal

pub loop-at-init : goal.loop-at-init
loop-at-init c = record {
  some = omega arith;
  within = omega arith;
  long = grind (arith, length-append, length-drop, c.copy_from_slice.ensures.len, length-take-le c.args.fill.now.len c.args.fill.now.bytes (omega arith), c.told-words);
  whole = mod_self c.args.fill.now.len;
  laid = laid_first c.args.fill.now c.copy_from_slice.new.self _ (omega arith) c.copy_from_slice.ensures.after (omega (arith, c.copy_from_slice.ensures.len, length-take-le c.args.fill.now.len c.args.fill.now.bytes (omega arith)));
}

pub loop-at-preserved : goal.loop-at-preserved
loop-at-preserved c = record {
  some = omega arith;
  within = omega arith;
  long = c.lay_again.array_long;
  whole = whole_twice c.loop-at.at c.args.fill.now.len c.loop-at.invariant.whole;
  laid = c.lay_again.ensures ∙ laid_twice c.args.fill.now c.loop-at.at (take c.loop-at.at c.loop-at.words) c.loop-at.invariant.laid c.loop-at.invariant.whole;
}
