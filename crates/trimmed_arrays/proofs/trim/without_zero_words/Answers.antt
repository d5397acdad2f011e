use Rattle.std.proofs.Common.{length, sym, ap, ◌∙◌, arith}
use Rattle.trimmed_arrays.specs.Trimmed.{padded}
use Rattle.trimmed_arrays.proofs.Zeros.{end_left_out}
use Rattle.trimmed_arrays.proofs.trim.without_zero_words.Goals as goal

pub loop-before-preserved : goal.loop-before-preserved
loop-before-preserved c = record {
  same =
      ap (padded (length c.args.array.now)) c.in-Some.ensures.cases.0
      ∙ end_left_out _ 8 c.loop-before.front.now _ (omega (arith, c.in-Some.ensures.cases.2))
      (sym c.in-Some.ensures.cases.1 ∙ c.are_zeros.ensures c.if-not-are_zeros.false) c.loop-before.invariant.within c.loop-before.invariant.same;
  within = omega (arith, c.in-Some.ensures.cases.2, c.loop-before.invariant.within);
}
