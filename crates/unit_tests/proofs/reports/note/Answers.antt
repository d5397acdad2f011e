use Rattle.std.proofs.Common.{◌≡◌, All, List, [], ◌∷◌, ◌++◌, subst, sym, ap, ◌∙◌}
use Rattle.std.proofs.lemmas.List.Elements.{All-append, All-cons, All-nil}
use Rattle.ldom_report.specs.HasWords.{HasWords}
use Rattle.unit_tests.proofs.reports.note.Goals as goal

abbrev put_last : {A : Type 0} → A → List A → List A
put_last entry entries = entries ++ entry ∷ []

one_more : {A : Type 0} (P : A → Type 0) (old new : List A) (entry : A) → All P old → P entry → new ≡ put_last entry old → All P new
one_more P old new entry words has is =
    subst (All P) (sym is) (All-append P old (entry ∷ []) words (All-cons P entry [] has (All-nil P)))

pub returns : goal.returns
returns c = λ all one.
    one_more (HasWords all) _ _ _ (c.requires.words all one) (c.requires.fits all one)
    (c.push.ensures.entries ∙ ap (put_last c.args.entry) c.reserve.ensures.entries)
