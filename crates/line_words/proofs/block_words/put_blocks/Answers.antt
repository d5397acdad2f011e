use Rattle.std.proofs.Common.{◌≡◌, ℕ, List, ◌++◌, append_assoc, ◌+◌, take, drop, get_or, codes, sym, subst, ap, ◌∙◌}
use Rattle.hex.specs.Hex.{encode_lower}
use Rattle.kept_requests.specs.BlockWord.{blocks_text}
use Rattle.gathered_text.specs.Gathered.{Gathers, WroteFront}
use Rattle.kept_requests.specs.Packed.{AreKept, unpacked}
use Rattle.gathered_text.proofs.GatheredText.{on_err, on_ok_then, on_err_then, gathers_behind, wrote_front_behind, wrote_front_then}
use Rattle.kept_requests.proofs.PackedBlocks.{NextWord, next_word, next_text, no_word}
use Rattle.line_words.proofs.block_words.put_blocks.Goals as goal

pub returns-in_err-put_word-clause-front : goal.returns-in_err-put_word-clause-front
returns-in_err-put_word-clause-front g c =
    let i = c.loop-n.invariant in
    on_err c.from_residual.result _ (wrote_front_behind _ _ _ c.loop-n.text c.args.text.now i.so_far (blocks_text (unpacked (drop c.loop-n.n-index c.words.result.0.now) c.loop-n.kept.now)) (blocks_text c.args.bytes.now.items) i.whole i.gathers c.in_err-put_word.ensures.front)

pub loop-n-preserved : goal.loop-n-preserved
loop-n-preserved g c =
    let i = c.loop-n.invariant in
    let lengths : List ℕ = c.words.result.0.now in
    let kept : List ℕ = c.loop-n.kept.now in
    let at : ℕ = c.loop-n.n-index in
    let n : ℕ = get_or lengths at 0 in
    let next : NextWord lengths kept at n = next_word lengths kept at c.loop-n-test.true i.are in
    let front : c.split_at.result.0.now ≡ take n kept =
    subst (λ (m : ℕ). c.split_at.result.0.now ≡ take m kept) c.from.ensures c.split_at.ensures.front in
    let back : c.split_at.result.1.now ≡ drop n kept =
    subst (λ (m : ℕ). c.split_at.result.1.now ≡ drop m kept) c.from.ensures c.split_at.ensures.back in
    let word : List ℕ = codes " *" ++ encode_lower (take n kept) in
    record {
      are = subst (AreKept (drop (at + 1) lengths)) (sym back) next.others;
      so_far = i.so_far ++ word;
      whole =
          next_text lengths kept i.so_far (blocks_text c.args.bytes.now.items) at n next i.whole
          ∙ ap (λ (l : List ℕ). i.so_far ++ word ++ blocks_text (unpacked (drop (at + 1) lengths) l)) (sym back);
      gathers = gathers_behind _ _ _ c.loop-n.text c.put_word.new.text c.args.text.now i.so_far word i.gathers
          (subst (λ (l : List ℕ). Gathers (g.K.Sink.written c.loop-n.out) (g.K.Sink.written c.put_word.new.out) c.put_word.new.text (c.loop-n.text ++ (codes " *" ++ encode_lower l))) front c.in_ok-put_word.ensures.told);
      room = c.in_ok-put_word.ensures.room;
      unfailed = c.in_ok-put_word.ensures.faults.unfailed (λ is. cc) ∙ i.unfailed;
    }

pub returns-clause-told : goal.returns-clause-told
returns-clause-told g c =
    let i = c.loop-n.invariant in
    let whole : i.so_far ++ blocks_text c.loop-n.kept.now ≡ blocks_text c.args.bytes.now.items =
    sym (i.whole ∙ ap (λ (l : List ℕ). i.so_far ++ blocks_text l) (no_word c.words.result.0.now c.loop-n.kept.now c.loop-n.n-index c.loop-n-test.false)) in
    on_ok_then c.put_plain.result
    (λ told. subst (λ (l : List ℕ). Gathers (g.K.Sink.written c.args.out.now) (g.K.Sink.written c.put_plain.new.out) c.put_plain.new.text (c.args.text.now ++ l)) whole
    (gathers_behind _ _ _ c.loop-n.text c.put_plain.new.text c.args.text.now i.so_far (blocks_text c.loop-n.kept.now) i.gathers told))
    c.put_plain.ensures.told

pub returns-clause-front : goal.returns-clause-front
returns-clause-front g c =
    let i = c.loop-n.invariant in
    let whole : (c.args.text.now ++ i.so_far) ++ blocks_text c.loop-n.kept.now ≡ c.args.text.now ++ blocks_text c.args.bytes.now.items =
    append_assoc c.args.text.now i.so_far (blocks_text c.loop-n.kept.now)
    ∙ ap (λ (l : List ℕ). c.args.text.now ++ l)
    (sym (i.whole ∙ ap (λ (l : List ℕ). i.so_far ++ blocks_text l) (no_word c.words.result.0.now c.loop-n.kept.now c.loop-n.n-index c.loop-n-test.false))) in
    on_err_then c.put_plain.result
    (λ front. subst (λ (l : List ℕ). WroteFront (g.K.Sink.written c.args.out.now) (g.K.Sink.written c.put_plain.new.out) l) whole
    (wrote_front_then _ _ _ c.loop-n.text (c.args.text.now ++ i.so_far) (blocks_text c.loop-n.kept.now) i.gathers front))
    c.put_plain.ensures.front
