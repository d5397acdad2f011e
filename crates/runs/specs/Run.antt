-- A run of a step relation: events one after another lead from one state to another.
use Rattle.std.specs.Prelude.{◌≡◌, List, [], ◌∷◌, ◌++◌, refl}
use Rattle.std.proofs.Common.{sym, subst}

abbrev pub Run : {S E : Type 0} → (S → E → S → Type 0) → S → List E → S → Type 0
Run Step s [] t = s ≡ t
Run {S} Step s (e ∷ es) t = (m : S) × Step s e m × Run Step m es t

-- two runs, one after the other
pub run_append : {S E : Type 0} (Step : S → E → S → Type 0) (s m t : S) (before after : List E) → Run Step s before m → Run Step m after t → Run Step s (before ++ after) t
run_append {S} {E} Step s m t [] after first second = subst (λ (x : S). Run Step x after t) (sym first) second
run_append {S} {E} Step s m t (e ∷ before) after first second = (first.0, first.1, run_append Step first.0 m t before after first.2 second)

-- one more event
pub run_push : {S E : Type 0} (Step : S → E → S → Type 0) (s m t : S) (before : List E) (e : E) → Run Step s before m → Step m e t → Run Step s (before ++ e ∷ []) t
run_push {S} {E} Step s m t before e first step = run_append Step s m t before (e ∷ []) first (t, step, refl)

-- a run comes past a state after any front of its events
pub run_split : {S E : Type 0} (Step : S → E → S → Type 0) (s t : S) (before after : List E) → Run Step s (before ++ after) t → (m : S) × Run Step s before m × Run Step m after t
run_split {S} {E} Step s t [] after run = (s, refl, run)
run_split {S} {E} Step s t (e ∷ before) after run =
    let rest = run_split Step run.0 t before after run.2 in
    (rest.0, (run.0, run.1, rest.1), rest.2)

-- what each step keeps holds after a run
pub run_keeps : {S E : Type 0} (Step : S → E → S → Type 0) (P : S → Type 0) → ((s : S) (e : E) (t : S) → Step s e t → P s → P t) → (s t : S) (es : List E) → Run Step s es t → P s → P t
run_keeps {S} {E} Step P keeps s t [] run holds = subst P run holds
run_keeps {S} {E} Step P keeps s t (e ∷ es) run holds = run_keeps Step P keeps run.0 t es run.2 (keeps s e run.0 run.1 holds)
