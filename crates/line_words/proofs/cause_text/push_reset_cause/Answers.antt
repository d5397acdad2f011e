use Rattle.std.proofs.Common.{ℕ, List, ◌++◌, append_assoc, codes, decimal, sym, ap, ◌∙◌}
use Rattle.vio_tag.specs.declared.cause.Cause.{Cause}
use Rattle.vio_tag.specs.CauseText.{cause_text, numbers}
use Rattle.line_words.proofs.cause_text.push_reset_cause.Goals as goal

pub returns-in-Mode-clause-text : goal.returns-in-Mode-clause-text
returns-in-Mode-clause-text c =
    let text : List ℕ = c.args.text.now in
    c.push_one.ensures.text
    ∙ ap (λ (n : ℕ). text ++ codes "mode found=" ++ decimal n) c.from-in-Mode.ensures
    ∙ append_assoc text (codes "mode found=") (decimal c.in-Mode.found)
    ∙ ap (λ (x : Cause). text ++ cause_text x) (sym c.in-Mode.is)

pub returns-in-Ident-clause-text : goal.returns-in-Ident-clause-text
returns-in-Ident-clause-text c =
    c.push_unlike-in-Ident.ensures.text ∙ ap (λ (x : Cause). c.args.text.now ++ cause_text x) (sym c.in-Ident.is)

pub returns-in-NotReady-clause-text : goal.returns-in-NotReady-clause-text
returns-in-NotReady-clause-text c =
    let text : List ℕ = c.args.text.now in
    c.push_numbers.ensures.text
    ∙ ap (λ (n : ℕ). text ++ numbers (codes "notready slot=") n (codes " state=") c.from-in-NotReady-2.result) c.from-in-NotReady.ensures
    ∙ ap (λ (n : ℕ). text ++ numbers (codes "notready slot=") c.in-NotReady.slot (codes " state=") n) c.from-in-NotReady-2.ensures
    ∙ ap (λ (x : Cause). text ++ cause_text x) (sym c.in-NotReady.is)

pub returns-in-Frame-clause-text : goal.returns-in-Frame-clause-text
returns-in-Frame-clause-text c =
    let text : List ℕ = c.args.text.now in
    c.push_numbers-in-Frame.ensures.text
    ∙ ap (λ (n : ℕ). text ++ numbers (codes "frame size=") n (codes " cookies=") c.from-in-Frame-2.result) c.from-in-Frame.ensures
    ∙ ap (λ (n : ℕ). text ++ numbers (codes "frame size=") c.in-Frame.size (codes " cookies=") n) c.from-in-Frame-2.ensures
    ∙ ap (λ (x : Cause). text ++ cause_text x) (sym c.in-Frame.is)
