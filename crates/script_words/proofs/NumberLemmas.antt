-- A word spells at most one number; and what the steps of reading a number say of the word.
use Rattle.std.proofs.Common.{◌≡◌, ℕ, Bool, true, false, List, Some, None, Result, Ok, Err, MatchResult, Bor, sym, ap, ◌∙◌, subst}
use Rattle.std.proofs.lemmas.Fmt.{decimal_injective, parse-decimal, IsAscii-decimal}
use Rattle.std.proofs.lemmas.Slice.Eq.{bytes_eq-Decides}
use Rattle.std.proofs.lemmas.Str.{IsUtf8-from_ascii}
use Rattle.std.specs.Fmt.{decimal}
use Rattle.std.specs.Result.{result_ok}
use Rattle.std.specs.Str.{IsUtf8, IsValidUpTo, valid_up_to, bytes_eq}
use Rattle.std.specs.declared.str.Utf8Error.{Utf8Error}
use Rattle.std.specs.Str.Parse.{ParsesUnsigned}
use Rattle.script_words.specs.Words.{SpellsNumber}

-- a word spells at most one number
pub one_number : (word : List ℕ) (m n : ℕ) → SpellsNumber word m → SpellsNumber word n → m ≡ n
one_number word m n first second = decimal_injective m n first.1 second.1 (sym first.0 ∙ second.0)

-- what `from_utf8` answers of a word
abbrev pub TextOf : List ℕ → Result (Bor (List ℕ)) Utf8Error → Type 0
TextOf word r = MatchResult r (λ s. (s.now ≡ word) × IsUtf8 word) (λ e. (IsUtf8 word → ⊥) × IsValidUpTo word (valid_up_to e))

-- bytes that are no text are no number
pub no_text : (word : List ℕ) (r : Result (Bor (List ℕ)) Utf8Error) → TextOf word r → None ≡ result_ok r → (n : ℕ) → SpellsNumber word n → ⊥
no_text word (Ok s) cases none n spells = let both : None ≡ Some s = none in cc
no_text word (Err e) cases none n spells =
    cases.0 (subst (λ (w : List ℕ). IsUtf8 w) (sym spells.0) (IsUtf8-from_ascii (decimal n) (IsAscii-decimal n spells.1)))

-- the text is the word
pub text_is : (word : List ℕ) (r : Result (Bor (List ℕ)) Utf8Error) (s : Bor (List ℕ)) → TextOf word r → Some s ≡ result_ok r → s.now ≡ word
text_is word (Ok t) s cases is =
    let both : Some s ≡ Some t = is in
    let same : s ≡ t = cc in ap (λ (x : Bor (List ℕ)). x.now) same ∙ cases.0
text_is word (Err e) s cases is = let both : Some s ≡ None = is in cc

-- a text that parse refuses is no number
pub no_number : {E : Type 0} (word text : List ℕ) (r : Result ℕ E) → text ≡ word → ParsesUnsigned 64 10 text r → None ≡ result_ok r → (n : ℕ) → SpellsNumber word n → ⊥
no_number word text r same parses none n spells =
    let gives : r ≡ Ok n = parse-decimal 64 n text r spells.1 spells.1 (same ∙ spells.0) parses in
    let both : None ≡ Some n = none ∙ ap (λ x. result_ok x) gives in cc

-- a text that isn't the number's own is no number
pub other_text : {E : Type 0} (word text written : List ℕ) (r : Result ℕ E) (m : ℕ) (equal : Bool) → text ≡ word → ParsesUnsigned 64 10 text r → Some m ≡ result_ok r
    → written ≡ decimal m → equal ≡ bytes_eq written word → equal ≡ false → (n : ℕ) → SpellsNumber word n → ⊥
other_text word text written r m equal same parses some writes is other n spells =
    let gives : r ≡ Ok n = parse-decimal 64 n text r spells.1 spells.1 (same ∙ spells.0) parses in
    let number : Some m ≡ Some n = some ∙ ap (λ x. result_ok x) gives in
    let equals : m ≡ n = cc in
    let as_written : written ≡ word = writes ∙ ap (λ (k : ℕ). decimal k) equals ∙ sym spells.0 in
    let both : true ≡ false = sym ((bytes_eq-Decides written word).1 as_written) ∙ sym is ∙ other in cc
