use Rattle.std.proofs.Common.{◌≡◌, ap, ◌∙◌}
use Rattle.std.specs.Prelude.{◌++◌, codes, decimal, List, ℕ}
use Rattle.ldom_report.specs.Report.{cause_text, counts_text, resets_text}
use Rattle.ldom_report.specs.Status.{status_number}
use Rattle.gathered_text.proofs.GatheredText.{pushed_behind}
use Rattle.ldom_report.proofs.end_line.push_end_line.Goals as goal

pub returns : goal.returns
returns c =
    let text : List ℕ = c.args.text.now in
    let lines : List ℕ = codes "end lines=" ++ decimal c.args.lines in
    let counts : List ℕ = counts_text c.args.journal.now.entries in
    let resets : List ℕ = resets_text c.args.journal.now.entries in
    let word : List ℕ = codes " status=" in
    let status : List ℕ = decimal (status_number c.args.status.now) in
    let cause : List ℕ = cause_text c.args.status.now in
    let to_lines : c.push_number.new.self ≡ text ++ lines =
    pushed_behind text (codes "end lines=") (decimal c.args.lines) c.push.new.self c.push_number.new.self c.push.ensures.text
    (c.push_number.ensures.text ∙ ap (λ (n : ℕ). c.push.new.self ++ decimal n) c.from.ensures) in
    let to_counts : c.push_counts.new.text ≡ text ++ (lines ++ counts) = pushed_behind text lines counts _ _ to_lines c.push_counts.ensures.text in
    let to_resets : c.push_resets.new.text ≡ text ++ (lines ++ counts ++ resets) = pushed_behind text (lines ++ counts) resets _ _ to_counts c.push_resets.ensures.text in
    let to_word : c.push-2.new.self ≡ text ++ (lines ++ counts ++ resets ++ word) =
    pushed_behind text (lines ++ counts ++ resets) word c.push_resets.new.text c.push-2.new.self to_resets c.push-2.ensures.text in
    let to_status : c.push_number-2.new.self ≡ text ++ (lines ++ counts ++ resets ++ word ++ status) =
    pushed_behind text (lines ++ counts ++ resets ++ word) status c.push-2.new.self c.push_number-2.new.self to_word
    (c.push_number-2.ensures.text ∙ ap (λ (n : ℕ). c.push-2.new.self ++ decimal n) (c.from-2.ensures ∙ c.number.ensures)) in
    let to_cause : c.push_cause.new.text ≡ text ++ (lines ++ counts ++ resets ++ word ++ status ++ cause) =
    pushed_behind text (lines ++ counts ++ resets ++ word ++ status) cause _ _ to_status c.push_cause.ensures.text in
    pushed_behind text (lines ++ counts ++ resets ++ word ++ status ++ cause) (codes "\n") _ _ to_cause c.push-3.ensures.text
