-- Laws over events one after another: a law is a condition on one event, in the log of those before it.
use Rattle.std.specs.Prelude.{◌≡◌, List, [], ◌∷◌, ◌++◌, refl, ⊤}
use Rattle.std.proofs.Common.{subst}
use Rattle.runs.specs.Run.{Run}

-- the log after events
abbrev pub log_of : {L E : Type 0} → (L → E → L) → L → List E → L
log_of after l [] = l
log_of after l (e ∷ es) = log_of after (after l e) es

-- each event may stand after those before it
abbrev pub Lawful : {L E : Type 0} → (L → E → Type 0) → (L → E → L) → L → List E → Type 0
Lawful May after l [] = ⊤
Lawful May after l (e ∷ es) = May l e × Lawful May after (after l e) es

-- What one step keeps, a run keeps: its events are lawful, and the log that they make agrees with the state that they lead to.
pub run_lawful : {S L E : Type 0} (Step : S → E → S → Type 0) (May : L → E → Type 0) (after : L → E → L) (Agrees : S → L → Type 0)
    → ((s : S) (l : L) (e : E) (t : S) → Agrees s l → Step s e t → May l e × Agrees t (after l e))
    → (s t : S) (l : L) (es : List E) → Agrees s l → Run Step s es t → Lawful May after l es × Agrees t (log_of after l es)
run_lawful {S} {L} {E} Step May after Agrees step s t l [] agrees run = (tt, subst (λ (x : S). Agrees x l) run agrees)
run_lawful {S} {L} {E} Step May after Agrees step s t l (e ∷ es) agrees run =
    let first = step s l e run.0 agrees run.1 in
    let rest = run_lawful Step May after Agrees step run.0 t (after l e) es first.1 run.2 in
    ((first.0, rest.0), rest.1)

-- the log after two lists of events
pub log_append : {L E : Type 0} (after : L → E → L) (l : L) (before behind : List E) → log_of after l (before ++ behind) ≡ log_of after (log_of after l before) behind
log_append after l [] behind = refl
log_append after l (e ∷ before) behind = log_append after (after l e) before behind

-- a front of lawful events is lawful, and what follows is lawful in its log
pub lawful_split : {L E : Type 0} (May : L → E → Type 0) (after : L → E → L) (l : L) (before behind : List E)
    → Lawful May after l (before ++ behind) → Lawful May after l before × Lawful May after (log_of after l before) behind
lawful_split May after l [] behind lawful = (tt, lawful)
lawful_split May after l (e ∷ before) behind lawful =
    let rest = lawful_split May after (after l e) before behind lawful.1 in
    ((lawful.0, rest.0), rest.1)
