-- What the words ask for, decided before `clap` and after it.
use Rattle.std.proofs.Common.{◌≡◌, ◌∙◌, refl, ℕ, ◌<◌, ◌≤◌, eqb, Bool, true, false, List, [], ◌∷◌, length, map, codes, decimal, Option, Some, None, sym, ap, subst, arith, ⊎_elim}
use Rattle.std.specs.Prelude.{◌&&◌, nat_lt, not, if◌then◌else◌, option_map}
use Rattle.std.specs.List.{list_all}
use Rattle.std.specs.Str.{bytes_eq}
use Rattle.std.specs.Str.Parse.{AllDigits}
use Rattle.std.proofs.lemmas.Bool.{and_from, and_parts, lt-ltb, ltb-true}
use Rattle.std.proofs.lemmas.Bool.Decides.{eqb_tells}
use Rattle.std.proofs.lemmas.Fmt.{decimal_is_IsNumeral}
use Rattle.std.proofs.lemmas.List.Folds.{list_all-map}
use Rattle.std.proofs.lemmas.Slice.Eq.{bytes_eq-Decides}
use Rattle.std.proofs.lemmas.Str.Parse.{digit_from_value}
use Rattle.clap.specs.Words.{subcommand_of, takes}
use Rattle.script_words.specs.Words.{SpellsNumber, is_number, number_of}
use Rattle.script_words.proofs.WordTests.{is_number_from, number_is, number_spelled}
use Rattle.ldom_words.specs.Asking.{DumpOf, RunOver, SampleOf, TraceOver, Wanted, program_app, sample_number, wanted, wanted_in, wanted_with}
use Rattle.ldom_words.specs.Words.{AsksRun, AsksSample, AsksTrace, is_plain_word, sample_count}
use Rattle.ldom_words.proofs.Accepting.{OfWord, Runs, Samples, Traces, asks_for, name_of, reads_dump, reads_word, takes_dump, takes_word}

-- before a plain word the command decides
with_plain : (command word : List ℕ) → is_plain_word word ≡ true
    → wanted (command ∷ word ∷ []) ≡ wanted_with command word
with_plain command word plain = ap (λ (b : Bool). if b then wanted_with command word else None) plain

with_others : (command word : List ℕ) → bytes_eq command (codes "run") ≡ false
    → bytes_eq command (codes "trace") ≡ false → bytes_eq command (codes "sample") ≡ false → wanted_with command word ≡ None
with_others command word is also too =
    ap (λ (b : Bool). if b then Some (RunOver word) else (if bytes_eq command (codes "trace") then Some (TraceOver word) else (if bytes_eq command (codes "sample") then option_map SampleOf (sample_number word) else None))) is
    ∙ ap (λ (b : Bool). if b then Some (TraceOver word) else (if bytes_eq command (codes "sample") then option_map SampleOf (sample_number word) else None)) also
    ∙ ap (λ (b : Bool). if b then option_map SampleOf (sample_number word) else None) too

-- THE NUMBER of a sample is what its word spells
pub sample_spelled : (word : List ℕ) (n : ℕ) → SpellsNumber word n → n < sample_count → sample_number word ≡ Some n
sample_spelled word n spells below =
    let value : number_of word ≡ n = number_is word n spells in
    ap (λ (b : Bool). if b then Some (number_of word) else None)
    (and_from _ _ (is_number_from word n spells) (lt-ltb (number_of word) sample_count (omega (arith, value, below))))
    ∙ ap (λ (m : ℕ). Some m) value

pub sample_below : (word : List ℕ) (b : Bool) → (is_number word && nat_lt (number_of word) sample_count) ≡ b → (n : ℕ)
    → Some n ≡ (if b then Some (number_of word) else None) → (word ≡ decimal n) × (n < sample_count)
sample_below word false tests n is = absurd (cc is)
sample_below word true tests n is =
    let parts = and_parts _ _ tests in
    let value : n ≡ number_of word = cc is in
    let below : number_of word < sample_count = ltb-true (number_of word) sample_count parts.1 in
    ((number_spelled word parts.0).0 ∙ ap (λ (m : ℕ). decimal m) (sym value), omega (arith, below, value))

-- and what is no such number asks for none
pub sample_too_large : (word : List ℕ) (n : ℕ) → SpellsNumber word n → sample_count ≤ n → sample_number word ≡ None
sample_too_large word n spells large = no_sample (is_number word && nat_lt (number_of word) sample_count) refl
  where
    no_sample : (b : Bool) → (is_number word && nat_lt (number_of word) sample_count) ≡ b → (if b then Some (number_of word) else None) ≡ None
    no_sample true tests = absurd (omega (arith, large, number_is word n spells, ltb-true (number_of word) sample_count (and_parts _ _ tests).1))
    no_sample false tests = refl

-- a number's word is plain
digit_no_dash : (b : ℕ) → 48 ≤ b → eqb b 45 ≡ false
digit_no_dash b low = ⊎_elim (λ is. absurd (omega (arith, low, is.1))) (λ is. is.0) (eqb_tells b 45)

digits_plain : (word : List ℕ) → 0 < length word → AllDigits 10 word → is_plain_word word ≡ true
digits_plain [] some digits = absurd (omega (arith, some))
digits_plain (d ∷ []) some digits = refl
digits_plain (d ∷ e ∷ rest) some digits = ap (λ (b : Bool). not b) (digit_no_dash d (digit_from_value d digits.0).0)

number_plain : (n : ℕ) → n < sample_count → is_plain_word (decimal n) ≡ true
number_plain n below =
    let numeral = (decimal_is_IsNumeral n (omega (arith, below))).0 in digits_plain (decimal n) numeral.0 numeral.1

-- what holds of words that ask for nothing, of a command with its word and of `dump` holds of all
by_words : (P : List (List ℕ) → Type 0) → ((words : List (List ℕ)) → wanted words ≡ None → P words)
    → ((command : OfWord) (word : List ℕ) → is_plain_word word ≡ true → P (name_of command ∷ word ∷ []))
    → P (codes "dump" ∷ []) → (words : List (List ℕ)) → P words
by_words P nothing asks dump [] = nothing [] refl
by_words P nothing asks dump (command ∷ []) = by_dump (bytes_eq command (codes "dump")) refl
  where
    by_dump : (b : Bool) → bytes_eq command (codes "dump") ≡ b → P (command ∷ [])
    by_dump true is = subst (λ (word : List ℕ). P (word ∷ [])) (sym ((bytes_eq-Decides command (codes "dump")).0 is)) dump
    by_dump false is = nothing (command ∷ []) (ap (λ (b : Bool). if b then Some DumpOf else None) is)
by_words P nothing asks dump (command ∷ word ∷ []) = by_plain (is_plain_word word) refl
  where
    asked : (met : OfWord) → is_plain_word word ≡ true → bytes_eq command (name_of met) ≡ true
        → P (command ∷ word ∷ [])
    asked met plain is =
        subst (λ (w : List ℕ). P (w ∷ word ∷ [])) (sym ((bytes_eq-Decides command (name_of met)).0 is)) (asks met word plain)

    by_name : is_plain_word word ≡ true → (b c d : Bool) → bytes_eq command (codes "run") ≡ b
        → bytes_eq command (codes "trace") ≡ c → bytes_eq command (codes "sample") ≡ d → P (command ∷ word ∷ [])
    by_name plain true c d is also too = asked Runs plain is
    by_name plain false true d is also too = asked Traces plain also
    by_name plain false false true is also too = asked Samples plain too
    by_name plain false false false is also too = nothing (command ∷ word ∷ []) (with_plain command word plain ∙ with_others command word is also too)

    by_plain : (b : Bool) → is_plain_word word ≡ b → P (command ∷ word ∷ [])
    by_plain true plain = by_name plain (bytes_eq command (codes "run")) (bytes_eq command (codes "trace")) (bytes_eq command (codes "sample")) refl refl refl
    by_plain false plain = nothing (command ∷ word ∷ []) (ap (λ (b : Bool). if b then wanted_with command word else None) plain)
by_words P nothing asks dump (command ∷ word ∷ more ∷ words) = nothing (command ∷ word ∷ more ∷ words) refl

word_is : (command : OfWord) (word : List ℕ) → is_plain_word word ≡ true
    → wanted (name_of command ∷ word ∷ []) ≡ asks_for command word
word_is Runs word plain = with_plain (codes "run") word plain
word_is Traces word plain = with_plain (codes "trace") word plain
word_is Samples word plain = with_plain (codes "sample") word plain

-- so what was read and is the same by the definition is what the words ask for
pub as_confirmed : (words : List (List ℕ)) (asked defined result : Option Wanted)
    → asked ≡ wanted_in (subcommand_of program_app words) → defined ≡ wanted words
    → (asked ≡ defined → result ≡ defined) → (defined ≡ None → result ≡ None) → result ≡ wanted words
as_confirmed words asked defined result =
    by_words
    (λ (ws : List (List ℕ)). asked ≡ wanted_in (subcommand_of program_app ws) → defined ≡ wanted ws
    → (asked ≡ defined → result ≡ defined) → (defined ≡ None → result ≡ None) → result ≡ wanted ws)
    (λ ws none read is same off. off (is ∙ none) ∙ sym none)
    (λ command word plain read is same off. same (read ∙ reads_word command word plain ∙ sym (word_is command word plain) ∙ sym is) ∙ is)
    (λ read is same off. same (read ∙ reads_dump ∙ sym is) ∙ is) words

-- and takes such words
pub as_taken : (words : List (List ℕ)) → (takes program_app words ≡ true → ⊥) → wanted words ≡ None
as_taken words =
    by_words (λ (ws : List (List ℕ)). (takes program_app ws ≡ true → ⊥) → wanted ws ≡ None) (λ ws none _. none)
    (λ command word plain off. absurd (off (takes_word command word plain))) (λ off. absurd (off takes_dump)) words

-- the words `run IMAGE` ask for a run, `trace IMAGE` for its trace, and `sample N` for the run of a sample
pub asks_run : (words : List (List ℕ)) (word : List ℕ) → AsksRun words word → wanted words ≡ Some (RunOver word)
asks_run words word asks = ap wanted asks.are ∙ word_is Runs word asks.plain

pub asks_trace : (words : List (List ℕ)) (word : List ℕ) → AsksTrace words word
    → wanted words ≡ Some (TraceOver word)
asks_trace words word asks = ap wanted asks.are ∙ word_is Traces word asks.plain

pub asks_sample : (words : List (List ℕ)) (number : ℕ) → AsksSample words number → wanted words ≡ Some (SampleOf number)
asks_sample words number asks =
    ap wanted asks.are ∙ word_is Samples (decimal number) (number_plain number asks.below)
    ∙ ap (λ (o : Option ℕ). option_map SampleOf o) (sample_spelled (decimal number) number (refl, omega (arith, asks.below)) asks.below)

-- each word is plain, said of what has the words
pub plain_as : {X : Type 0} (text : X → List ℕ) (xs : List X) (plain : Bool)
    → plain ≡ list_all (λ x. is_plain_word (text x)) xs → plain ≡ list_all is_plain_word (map text xs)
plain_as text xs plain is = is ∙ sym (list_all-map is_plain_word text xs)
