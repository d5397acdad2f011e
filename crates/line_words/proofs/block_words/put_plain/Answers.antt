use Rattle.std.proofs.Common.{◌∙◌, ℕ, ◌++◌, List, take, codes, sym, subst}
use Rattle.hex.specs.Hex.{encode_lower}
use Rattle.kept_requests.specs.BlockWord.{word_text, blocks_text}
use Rattle.gathered_text.specs.Gathered.{Gathers}
use Rattle.kept_requests.proofs.BlockWords.{blocks_text_more, blocks_text_end}
use Rattle.gathered_text.proofs.GatheredText.{on_err, gathers_behind, wrote_front_behind}
use Rattle.line_words.proofs.block_words.put_plain.Goals as goal

pub returns-in_err-put_word-clause-front : goal.returns-in_err-put_word-clause-front
returns-in_err-put_word-clause-front g c =
    let i = c.loop-block.invariant in
    on_err c.from_residual.result _ (wrote_front_behind _ _ _ c.loop-block.text c.args.text.now i.so_far (blocks_text c.loop-block.rest.now) (blocks_text c.args.bytes.now) i.whole i.gathers c.in_err-put_word.ensures.front)

pub loop-block-preserved : goal.loop-block-preserved
loop-block-preserved g c =
    let i = c.loop-block.invariant in
    let cut = c.in-Some.ensures.cases in
    let word : List ℕ = word_text c.in-Some.block.now in
    let told : Gathers (g.K.Sink.written c.loop-block.out) (g.K.Sink.written c.put_word.new.out) c.put_word.new.text (c.loop-block.text ++ word) =
    subst (λ (n : ℕ). Gathers (g.K.Sink.written c.loop-block.out) (g.K.Sink.written c.put_word.new.out) c.put_word.new.text (c.loop-block.text ++ (codes " *" ++ encode_lower (take n c.in-Some.block.now))))
    c.shortest_word.ensures.least c.in_ok-put_word.ensures.told in
    record {
      so_far = i.so_far ++ word;
      whole = blocks_text_more i.so_far (blocks_text c.args.bytes.now) c.loop-block.rest.now c.in-Some.block.now c.in-Some.behind.now i.whole cut.0 cut.1 cut.2;
      gathers = gathers_behind _ _ _ c.loop-block.text c.put_word.new.text c.args.text.now i.so_far word i.gathers told;
      room = c.in_ok-put_word.ensures.room;
      unfailed = c.in_ok-put_word.ensures.faults.unfailed (λ is. cc) ∙ i.unfailed;
    }

pub returns-clause-told : goal.returns-clause-told
returns-clause-told g c =
    let i = c.loop-block.invariant in
    let short = c.in_default.ensures.cases in
    subst (λ (l : List ℕ). Gathers (g.K.Sink.written c.args.out.now) (g.K.Sink.written c.loop-block.out) c.loop-block.text (c.args.text.now ++ l))
    (sym (blocks_text_end i.so_far (blocks_text c.args.bytes.now) c.loop-block.rest.now i.whole short)) i.gathers
