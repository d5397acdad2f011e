-- `clap` takes the words that the definition accepts, and reads in them what the definition says.
use Rattle.std.proofs.Common.{◌≡◌, refl, Bool, true, false, List, [], ◌∷◌, codes, Option, Some, None, ◌∙◌, ap}
use Rattle.std.specs.Prelude.{◌==◌, ◌&&◌, ◌||◌, not, if◌then◌else◌, option_and_then, option_map}
use Rattle.std.specs.Str.{bytes_eq}
use Rattle.std.specs.List.{list_all}
use Rattle.std.specs.Option.{option_map_or}
use Rattle.clap.specs.Lexer.{long_of, long_of_rest, short_of, short_of_rest, strip_byte}
use Rattle.clap.specs.Simple.{Shape, built, is_simple, names_of, new_shape, subcommand_of}
use Rattle.clap.specs.Takes.{bundle_passes, default_passes, flag_word_passes, is_valid, level_passes, settle_passes, step_passes, takes, word_passes}
use Rattle.clap.specs.Walk.{Held, Rule, Step, Text, Walk, after_step, finished, idle, long_or_other, nothing_held, short_or_plain, trailing, value, walk_from, word_met}
use Rattle.clap.proofs.OnLiterals.{clap_on_literals}
use Rattle.ldom_words.specs.Asking.{DumpOf, RunOver, SampleOf, TraceOver, Wanted, program_app, sample_number, wanted_in}
use Rattle.ldom_words.specs.Words.{is_plain_word}

-- to `clap` the word is none of its flags
record IsValue (word : Text) : Type 0 where
  escape : bytes_eq word (45 ∷ 45 ∷ []) ≡ false
  long : long_of word ≡ None
  short : short_of word ≡ None

-- a plain word is a value
plain_value : (word : Text) → is_plain_word word ≡ true → IsValue word
plain_value [] plain = absurd (cc plain)
plain_value (only ∷ []) plain = record { escape = no_escape (only == 45); long = no_long (only == 45); short = no_short (only == 45) }
  where
    no_escape : (dash : Bool) → (dash && false) ≡ false
    no_escape true = refl
    no_escape false = refl

    no_long : (dash : Bool)
        → option_and_then long_of_rest (option_and_then (strip_byte 45) (if dash then Some [] else None)) ≡ None
    no_long true = refl
    no_long false = refl

    no_short : (dash : Bool) → option_and_then short_of_rest (if dash then Some [] else None) ≡ None
    no_short true = refl
    no_short false = refl
plain_value (first ∷ second ∷ rest) plain =
    record { escape = no_escape (first == 45) _ plain; long = no_long (first == 45) plain; short = no_short (first == 45) plain }
  where
    no_escape : (dash behind : Bool) → not dash ≡ true → (dash && behind) ≡ false
    no_escape true behind other = absurd (cc other)
    no_escape false behind other = refl

    no_long : (dash : Bool) → not dash ≡ true
        → option_and_then long_of_rest (option_and_then (strip_byte 45) (if dash then Some (second ∷ rest) else None)) ≡ None
    no_long true other = absurd (cc other)
    no_long false other = refl

    no_short : (dash : Bool) → not dash ≡ true
        → option_and_then short_of_rest (if dash then Some (second ∷ rest) else None) ≡ None
    no_short true other = absurd (cc other)
    no_short false other = refl

-- the walk hands a value on to the positional
value_met : (rules : List Rule) (word : Text) (h : Held) → IsValue word
    → word_met rules [] false idle 1 word h ≡ (h, value)
value_met rules word h is =
    ap (λ (b : Bool). if b then (h, trailing 1) else long_or_other rules idle word (long_of word) h) is.escape
    ∙ ap (λ o. long_or_other rules idle word o h) is.long
    ∙ ap (λ o. short_or_plain rules idle word o h) is.short

value_passes : (shape : Shape) (word : Text) (h : Held) → IsValue word → word_passes shape [] false idle word h ≡ true
value_passes shape word h is =
    ap (λ (b : Bool). b || flag_word_passes shape.rules shape.args_override_self (long_of word) word h) is.escape
    ∙ ap (λ o. flag_word_passes shape.rules shape.args_override_self o word h) is.long
    ∙ ap (λ o. option_map_or (λ flags. bundle_passes shape.rules shape.args_override_self flags h) o true) is.short

-- the commands with one word
pub data OfWord : Type 0 where
  Runs : OfWord
  Traces : OfWord
  Samples : OfWord

abbrev pub name_of : OfWord → Text
name_of Runs = codes "run"
name_of Traces = codes "trace"
name_of Samples = codes "sample"

abbrev pub asks_for : OfWord → Text → Option Wanted
asks_for Runs word = Some (RunOver word)
asks_for Traces word = Some (TraceOver word)
asks_for Samples word = option_map SampleOf (sample_number word)

-- such a command, as `clap` builds it
abbrev shape_at : OfWord → List Shape → Shape
shape_at Runs (first ∷ rest) = first
shape_at Traces (first ∷ second ∷ rest) = second
shape_at Samples (first ∷ second ∷ third ∷ rest) = third
shape_at _ _ = new_shape []

abbrev shape_of : OfWord → Shape
shape_of command = shape_at command (built program_app).subs

-- the walk past the one word after its name, by what was met
abbrev command_walk : OfWord → Text → Held × Step → Walk
command_walk command word met = after_step (shape_of command).rules word (walk_from nothing_held) met.0 met.1

abbrev command_passes : OfWord → Text → Held × Step → Bool → Bool
command_passes command word met passes =
    ((passes && step_passes (shape_of command) 1 met.0 met.1) && true)
    && (settle_passes (shape_of command).rules (shape_of command).args_override_self (command_walk command word met).held
    && (list_all default_passes (shape_of command).rules && is_valid (shape_of command) (finished (shape_of command).rules (command_walk command word met).held) false))

abbrev command_met : OfWord → Text → Held × Step
command_met command word = word_met (shape_of command).rules [] false idle 1 word nothing_held

abbrev command_word_passes : OfWord → Text → Bool
command_word_passes command word = word_passes (shape_of command) [] false idle word nothing_held

level_is : (command : OfWord) (word : Text)
    → level_passes (shape_of command) [] nothing_held (word ∷ []) false
    ≡ command_passes command word (command_met command word) (command_word_passes command word)
unfolding clap_on_literals
level_is Runs word = refl
level_is Traces word = refl
level_is Samples word = refl

level_taken : (command : OfWord) (word : Text) → command_passes command word (nothing_held, value) true ≡ true
unfolding clap_on_literals
level_taken Runs word = refl
level_taken Traces word = refl
level_taken Samples word = refl

level : (command : OfWord) (word : Text) → IsValue word
    → level_passes (shape_of command) [] nothing_held (word ∷ []) false ≡ true
level command word is =
    level_is command word
    ∙ ap (λ (met : Held × Step). command_passes command word met (command_word_passes command word)) (value_met (shape_of command).rules word nothing_held is)
    ∙ ap (λ (b : Bool). command_passes command word (nothing_held, value) b) (value_passes (shape_of command) word nothing_held is)
    ∙ level_taken command word

-- what is left of the words is the command's
abbrev all_passes : OfWord → Text → Bool → Bool
all_passes command word passes =
    is_simple program_app && (passes && level_passes (built program_app).top (names_of (built program_app)) nothing_held (name_of command ∷ word ∷ []) true)

words_are : (command : OfWord) (word : Text)
    → takes program_app (name_of command ∷ word ∷ [])
    ≡ all_passes command word (level_passes (shape_of command) [] nothing_held (word ∷ []) false)
unfolding clap_on_literals
words_are Runs word = refl
words_are Traces word = refl
words_are Samples word = refl

words_taken : (command : OfWord) (word : Text) → all_passes command word true ≡ true
unfolding clap_on_literals
words_taken Runs word = refl
words_taken Traces word = refl
words_taken Samples word = refl

-- `run IMAGE`, `trace IMAGE` and `sample N` are taken
pub takes_word : (command : OfWord) (word : Text) → is_plain_word word ≡ true
    → takes program_app (name_of command ∷ word ∷ []) ≡ true
takes_word command word plain = words_are command word
    ∙ ap (λ (b : Bool). all_passes command word b) (level command word (plain_value word plain)) ∙ words_taken command word

-- and read as they are meant
abbrev command_reads : OfWord → Text → Held × Step → Option Wanted
command_reads command word met =
    wanted_in (Some ((shape_of command).name, finished (shape_of command).rules (command_walk command word met).held))

reads_are : (command : OfWord) (word : Text)
    → wanted_in (subcommand_of program_app (name_of command ∷ word ∷ [])) ≡ command_reads command word (command_met command word)
unfolding clap_on_literals
reads_are Runs word = refl
reads_are Traces word = refl
reads_are Samples word = refl

reads_value : (command : OfWord) (word : Text)
    → command_reads command word (nothing_held, value) ≡ asks_for command word
unfolding clap_on_literals
reads_value Runs word = refl
reads_value Traces word = refl
reads_value Samples word = refl

pub reads_word : (command : OfWord) (word : Text) → is_plain_word word ≡ true
    → wanted_in (subcommand_of program_app (name_of command ∷ word ∷ [])) ≡ asks_for command word
reads_word command word plain =
    reads_are command word
    ∙ ap (λ (met : Held × Step). command_reads command word met) (value_met (shape_of command).rules word nothing_held (plain_value word plain)) ∙ reads_value command word

pub takes_dump : takes program_app (codes "dump" ∷ []) ≡ true
unfolding clap_on_literals
takes_dump = refl

pub reads_dump : wanted_in (subcommand_of program_app (codes "dump" ∷ [])) ≡ Some DumpOf
unfolding clap_on_literals
reads_dump = refl
