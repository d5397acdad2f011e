-- What the words of a command line ask for, as a command.
use Rattle.std.proofs.Common.{◌≡◌, refl, ℕ, Bool, true, false, List, [], ◌∷◌, codes, Option, Some, None, sym, ap, subst, ◌∙◌}
use Rattle.std.specs.Prelude.{◌&&◌, nat_lt, if◌then◌else◌, option_map, ⊤}
use Rattle.std.specs.Str.{bytes_eq}
use Rattle.std.proofs.lemmas.Slice.Eq.{bytes_eq-Decides}
use Rattle.domain_script.specs.Words.{is_number, number_of}
use Rattle.ldom_report.specs.declared.status.Mode.{Mode}
use Rattle.ldom_report.specs.declared.status.Mode.TheVariants as mode
use Rattle.ldom_words.specs.Asking.{DumpOf, RunOver, SampleOf, TraceOver, Wanted, sample_number, wanted}
use Rattle.ldom_words.specs.Words.{AsksDump, AsksRun, AsksSample, AsksTrace, is_plain_word, sample_count}
use Rattle.ldom_words.proofs.Deciding.{asks_run, asks_sample, asks_trace, sample_below}
use Rattle.ldom_replay.specs.Asking.{AsksFor, AsksNoRun}

-- what is wanted, as a fact of the words
abbrev pub IsWanted : List (List ℕ) → Option Wanted → Type 0
IsWanted words None = ⊤
IsWanted words (Some (RunOver image)) = AsksRun words image
IsWanted words (Some (TraceOver image)) = AsksTrace words image
IsWanted words (Some (SampleOf number)) = AsksSample words number
IsWanted words (Some DumpOf) = AsksDump words

pub is_wanted : (words : List (List ℕ)) → IsWanted words (wanted words)
is_wanted [] = tt
is_wanted (command ∷ []) = by_dump (bytes_eq command (codes "dump")) refl
  where
    by_dump : (b : Bool) → bytes_eq command (codes "dump") ≡ b → IsWanted (command ∷ []) (if b then Some DumpOf else None)
    by_dump true is = ap (λ (word : List ℕ). word ∷ []) ((bytes_eq-Decides command (codes "dump")).0 is)
    by_dump false is = tt
is_wanted (command ∷ word ∷ []) = by_plain (is_plain_word word) refl
  where
    named : (name : List ℕ) → bytes_eq command name ≡ true → command ∷ word ∷ [] ≡ name ∷ word ∷ []
    named name is = ap (λ (w : List ℕ). w ∷ word ∷ []) ((bytes_eq-Decides command name).0 is)

    by_number : bytes_eq command (codes "sample") ≡ true → (b : Bool) → (is_number word && nat_lt (number_of word) sample_count) ≡ b
        → IsWanted (command ∷ word ∷ []) (option_map SampleOf (if b then Some (number_of word) else None))
    by_number is true tests =
        let number = sample_below word true tests (number_of word) refl in
        record { are = named (codes "sample") is ∙ ap (λ (w : List ℕ). codes "sample" ∷ w ∷ []) number.0; below = number.1 }
    by_number is false tests = tt

    by_name : (run trace sample : Bool) → bytes_eq command (codes "run") ≡ run → bytes_eq command (codes "trace") ≡ trace
        → bytes_eq command (codes "sample") ≡ sample → is_plain_word word ≡ true
        → IsWanted (command ∷ word ∷ []) (if run then Some (RunOver word) else (if trace then Some (TraceOver word) else (if sample then option_map SampleOf (sample_number word) else None)))
    by_name true trace sample is also too plain = record { are = named (codes "run") is; plain = plain }
    by_name false true sample is also too plain = record { are = named (codes "trace") also; plain = plain }
    by_name false false true is also too plain = by_number too (is_number word && nat_lt (number_of word) sample_count) refl
    by_name false false false is also too plain = tt

    by_plain : (b : Bool) → is_plain_word word ≡ b
        → IsWanted (command ∷ word ∷ []) (if b then (if bytes_eq command (codes "run") then Some (RunOver word) else (if bytes_eq command (codes "trace") then Some (TraceOver word) else (if bytes_eq command (codes "sample") then option_map SampleOf (sample_number word) else None))) else None)
    by_plain true plain = by_name (bytes_eq command (codes "run")) (bytes_eq command (codes "trace")) (bytes_eq command (codes "sample")) refl refl refl plain
    by_plain false plain = tt
is_wanted (command ∷ word ∷ more ∷ words) = tt

-- so where this is wanted
pub wanted_is : (words : List (List ℕ)) (asked : Option Wanted) → asked ≡ wanted words → IsWanted words asked
wanted_is words asked is = subst (IsWanted words) (sym is) (is_wanted words)

pub wants_none : (words : List (List ℕ)) → None ≡ wanted words → AsksNoRun words × (AsksDump words → ⊥)
wants_none words none = ((no_run, λ number asks. cc (none, asks_sample words number asks)), λ dump. cc (none, ap wanted dump))
  where
    no_run : (shown : Mode) (image : List ℕ) → AsksFor shown words image → ⊥
    no_run mode.Run image asks = cc (none, asks_run words image asks)
    no_run mode.Trace image asks = cc (none, asks_trace words image asks)
    no_run mode.EndOnly image asks = asks

-- words that ask for this run ask for no other
pub one_asked : (words : List (List ℕ)) (shown other : Mode) (image name : List ℕ) → AsksFor shown words image → AsksFor other words name → (other ≡ shown) × (name ≡ image)
one_asked words mode.Run mode.Run image name asks also = (refl, cc (asks_run words image asks, asks_run words name also))
one_asked words mode.Run mode.Trace image name asks also = absurd (cc (asks_run words image asks, asks_trace words name also))
one_asked words mode.Trace mode.Run image name asks also = absurd (cc (asks_trace words image asks, asks_run words name also))
one_asked words mode.Trace mode.Trace image name asks also = (refl, cc (asks_trace words image asks, asks_trace words name also))
one_asked words mode.Run mode.EndOnly image name asks also = absurd also
one_asked words mode.Trace mode.EndOnly image name asks also = absurd also
one_asked words mode.EndOnly other image name asks also = absurd asks

-- nor for a sample, and those that ask for a sample ask for no other one, and for no dump
pub no_sample_too : (words : List (List ℕ)) (shown : Mode) (image : List ℕ) (number : ℕ) → AsksFor shown words image → AsksSample words number → ⊥
no_sample_too words mode.Run image number asks also = cc (asks_run words image asks, asks_sample words number also)
no_sample_too words mode.Trace image number asks also = cc (asks_trace words image asks, asks_sample words number also)
no_sample_too words mode.EndOnly image number asks also = absurd asks

pub one_sample : (words : List (List ℕ)) (number other : ℕ) → AsksSample words number → AsksSample words other → other ≡ number
one_sample words number other asks also = cc (asks_sample words number asks, asks_sample words other also)

-- so that what holds of a command's mode and image holds of those that the words ask for
pub as_asked : (P : Mode → List ℕ → Type 0) (words : List (List ℕ)) (shown other : Mode) (image name : List ℕ) → AsksFor shown words image → AsksFor other words name → P shown image → P other name
as_asked P words shown other image name asks also holds =
    let same = one_asked words shown other image name asks also in
    subst (λ (m : Mode). P m name) (sym same.0) (subst (λ (word : List ℕ). P shown word) (sym same.1) holds)
