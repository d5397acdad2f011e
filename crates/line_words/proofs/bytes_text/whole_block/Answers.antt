use Rattle.std.proofs.Common.{◌≡◌, ℕ, ◌%◌, List, [], ◌∷◌, ◌++◌, get_or, sym, ap, ◌∙◌, arith}
use Rattle.std.proofs.lemmas.List.{length-set, take_all, take_more_set}
use Rattle.kept_requests.specs.BlockWord.{cycle}
use Rattle.kept_requests.specs.Packed.{block_of}
use Rattle.kept_requests.proofs.PackedBlocks.{cycle_more}
use Rattle.line_words.proofs.bytes_text.whole_block.Goals as goal

pub loop-k-preserved : goal.loop-k-preserved
loop-k-preserved c =
    let i = c.loop-k.invariant in
    let byte : ℕ = get_or c.args.bytes.now (c.loop-k.k % c.args.n) 0 in (
      length-set c.loop-k.block c.loop-k.k byte ∙ i.0,
      take_more_set c.loop-k.block c.loop-k.k byte (omega (arith, i.0, c.loop-k-test.true))
          ∙ ap (λ (l : List ℕ). l ++ byte ∷ []) i.1
          ∙ sym (cycle_more c.args.n c.loop-k.k c.args.bytes.now),
    )

pub returns : goal.returns
unfolding block_of
returns c =
    let i = c.loop-k.invariant in
    let end : c.loop-k.k ≡ 512 = omega arith in
    sym (take_all c.loop-k.k c.loop-k.block (omega (arith, i.0, end)))
    ∙ i.1 ∙ ap (λ (m : ℕ). cycle c.args.n m c.args.bytes.now) end
