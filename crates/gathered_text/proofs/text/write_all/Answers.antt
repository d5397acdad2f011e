use Rattle.std.proofs.Common.{◌∙◌, ◌-◌, length, drop, arith}
use Rattle.std.proofs.lemmas.List.{take_rest, length-take, length-drop}
use Rattle.gathered_text.proofs.GatheredText.{on_err, appends_piece, wrote_front_kept}
use Rattle.gathered_text.proofs.text.write_all.Goals as goal

pub returns-in_err-at-clause-front : goal.returns-in_err-at-clause-front
returns-in_err-at-clause-front g c =
    on_err c.from_residual.result _ (wrote_front_kept _ _ _ c.args.bytes.now c.loop-at.at c.loop-at-test.true c.loop-at.invariant.written c.in_err-at.ensures.told)

pub loop-at-preserved : goal.loop-at-preserved
loop-at-preserved g c =
    record {
      within = omega (arith, c.in_ok-at.ensures.within, length-take (length c.args.bytes.now - c.loop-at.at) (drop c.loop-at.at c.args.bytes.now), length-drop c.loop-at.at c.args.bytes.now);
      written = appends_piece _ _ _ c.args.bytes.now _ c.loop-at.at c.in_ok-at.field-0 (take_rest c.args.bytes.now c.loop-at.at) c.loop-at.invariant.written c.in_ok-at.ensures.told;
      unfailed = c.in_ok-at.ensures.faults.unfailed (λ is. cc) ∙ c.loop-at.invariant.unfailed;
    }
