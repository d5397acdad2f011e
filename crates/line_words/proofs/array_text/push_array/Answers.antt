use Rattle.std.proofs.Common.{◌≡◌, ℕ, ◌-◌, List, ◌++◌, length, take, drop, replicate, ap, ◌∙◌}
use Rattle.std.proofs.lemmas.List.{drop-replicate}
use Rattle.hex.specs.Hex.{encode_lower}
use Rattle.line_words.proofs.PaddedArrays.{take_padded}
use Rattle.line_words.proofs.array_text.push_array.Goals as goal

pub returns-clause-text : goal.returns-clause-text
returns-clause-text c =
    let whole : List ℕ = c.args.array.now in
    let front : List ℕ = c.front-front.result.now in
    let padded : List ℕ = front ++ replicate (255 - length front) 0 in
    let bytes : c.copy_from_slice.new.self ++ drop (length front) (replicate 255 0) ≡ padded =
    ap (λ (l : List ℕ). l ++ drop (length front) (replicate 255 0)) c.copy_from_slice.ensures.after
    ∙ ap (λ (l : List ℕ). front ++ l) (drop-replicate (length front) 255 0) in
    c.push_hex.ensures.text
    ∙ ap (λ (l : List ℕ). c.args.text.now ++ encode_lower (take c.len-len.result l)) bytes
    ∙ ap (λ (n : ℕ). c.args.text.now ++ encode_lower (take n padded)) c.len-len.ensures.len
    ∙ ap (λ (l : List ℕ). c.args.text.now ++ encode_lower l)
    (take_padded front whole (length whole) 255 c.front-front.ensures.within c.len-len.ensures.small c.front-front.ensures.front)
