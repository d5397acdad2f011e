-- The line that ends a report, by the counts of the plain run.
use Rattle.std.proofs.Common.{◌≡◌, ℕ, ◌+◌, ◌-◌, List, [], ◌++◌, length, refl, ◌∙◌, ap, arith, append_assoc}
use Rattle.std.specs.Prelude.{codes, decimal}
use Rattle.std.proofs.lemmas.List.{append-nil}
use Rattle.ldom_report.specs.Report.{accepted_count, done_count, end_line, frame_count, reset_count}
use Rattle.ldom_entries.specs.declared.entry.Entry.{Entry}
use Rattle.ldom_report.specs.declared.status.Status.TheVariants as status
use Rattle.script_laws.proofs.PlainGrows.{zero_text}
use Rattle.script_laws.specs.PlainRun.{Plain, plain_end}

regroup : (x a b c d e f : List ℕ) → x ++ (a ++ b ++ c ++ d ++ e ++ f) ≡ x ++ a ++ b ++ c ++ d ++ e ++ f
regroup x a b c d e f = simp append_assoc

close : (x r a b c d : List ℕ) → r ++ a ++ b ++ c ≡ d → x ++ r ++ a ++ b ++ [] ++ c ≡ x ++ d
close x r a b c d is = grind (arith, append-nil, append_assoc)

abbrev front : ℕ → List ℕ
front lines = codes "end lines=" ++ decimal lines

abbrev counts : ℕ → ℕ → ℕ → List ℕ
counts accepted done pending =
    codes " accepted=" ++ decimal accepted ++ codes " done=" ++ decimal done ++ codes " pending=" ++ decimal pending

abbrev resets : List ℕ → List ℕ → List ℕ
resets number frames = codes " resets=" ++ number ++ codes " frames=" ++ frames

-- at status 0, by its numbers
abbrev ended : ℕ → ℕ → ℕ → ℕ → ℕ → ℕ → List ℕ
ended lines accepted done pending n frames =
    front lines ++ counts accepted done pending ++ resets (decimal n) (decimal frames) ++ codes " status=" ++ decimal 0
    ++ [] ++ codes "\n"

-- by the counts of the plain run
pub ends_agree : (journal : List Entry) (p : Plain) (lines : ℕ) → done_count journal ≡ p.completed
    → accepted_count journal ≡ p.completed + length p.waiting → reset_count journal ≡ 0 → frame_count journal ≡ 0
    → end_line lines journal status.Done ≡ plain_end lines p
ends_agree journal p lines completed accepted none no_frame =
    let done = done_count journal in
    let pending = accepted_count journal - done in
    let again = reset_count journal in
    let frames = frame_count journal in
    let all = p.completed + length p.waiting in
    let waiting : accepted_count journal - done_count journal ≡ length p.waiting = omega (arith, accepted, completed) in
    let before : List ℕ = front lines ++ counts all p.completed (length p.waiting) in
    ap (λ (n : ℕ). ended lines n done pending again frames) accepted
    ∙ ap (λ (n : ℕ). ended lines all n pending again frames) completed
    ∙ ap (λ (n : ℕ). ended lines all p.completed n again frames) waiting
    ∙ ap (λ (n : ℕ). ended lines all p.completed (length p.waiting) n frames) none
    ∙ ap (λ (n : ℕ). ended lines all p.completed (length p.waiting) 0 n) no_frame
    ∙ ap (λ (l : List ℕ). before ++ resets l l ++ codes " status=" ++ l ++ [] ++ codes "\n") zero_text
    ∙ close before (codes " resets=0 frames=0") (codes " status=") (codes "0") (codes "\n")
    (codes " resets=0 frames=0 status=0\n") refl
    ∙ ap (λ (l : List ℕ). l ++ codes " resets=0 frames=0 status=0\n")
    (regroup (front lines) (codes " accepted=") (decimal all) (codes " done=") (decimal p.completed)
    (codes " pending=") (decimal (length p.waiting)))
