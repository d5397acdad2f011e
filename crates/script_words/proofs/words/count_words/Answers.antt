use Rattle.std.proofs.Common.{ℕ, ◌+◌, List, count_by, sym, ap, ◌∙◌, arith}
use Rattle.std.specs.Prelude.{◌==◌}
use Rattle.std.proofs.lemmas.List.{take_all}
use Rattle.std.proofs.lemmas.List.Splits.{length-slice_split}
use Rattle.script_words.proofs.words.count_words.Goals as goal

pub returns : goal.returns
returns c =
    c.loop-byte.invariant.counted
    ∙ ap (λ (l : List ℕ). count_by (λ b. b == 32) l + 1) (take_all c.loop-byte.byte-index c.args.text.now (omega arith))
    ∙ sym (length-slice_split (λ b. b == 32) c.args.text.now)
