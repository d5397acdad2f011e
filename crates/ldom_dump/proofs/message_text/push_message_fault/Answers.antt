use Rattle.std.proofs.Common.{◌≡◌, ℕ, List, ◌++◌, ap, ◌∙◌}
use Rattle.std.specs.Prelude.{codes}
use Rattle.vio_tag.specs.CauseText.{tag_word}
use Rattle.gathered_text.proofs.GatheredText.{pushed_behind}
use Rattle.ldom_dump.proofs.message_text.push_message_fault.Goals as goal

pub returns-clause-text : goal.returns-clause-text
returns-clause-text c =
    let old : List ℕ = c.args.text.now in
    let head : List ℕ = codes "message fault " in
    let word : List ℕ = tag_word c.args.fault in
    let to_word : c.push-2.new.self ≡ old ++ (head ++ word) =
    pushed_behind old head word c.push.new.self c.push-2.new.self c.push.ensures.text
    (c.push-2.ensures.text ∙ ap (λ (l : List ℕ). c.push.new.self ++ l) (c.as_bytes.ensures.value ∙ c.tag_word.ensures.word)) in
    pushed_behind old (head ++ word) (codes "\n") c.push-2.new.self c.push-3.new.self to_word c.push-3.ensures.text
