-- What words ask for, as a function of them; and the program's commands, as `clap` sees them.
use Rattle.std.specs.Prelude.{ℕ, ◌&&◌, nat_lt, true, List, [], ◌∷◌, codes, if◌then◌else◌, Option, Some, None, option_and_then, option_map}
use Rattle.std.specs.Str.{bytes_eq}
use Rattle.clap.specs.Words.{App, Row, Rule, Text, first_of, new_app, new_rule, with_rule, with_subcommand}
use Rattle.script_words.specs.Words.{is_number, number_of}
use Rattle.ldom_words.specs.Words.{is_plain_word, sample_count}
use Rattle.ldom_words.specs.declared.words.Asked.{Asked}
use Rattle.ldom_words.specs.declared.words.Asked.TheVariants as asked

-- a run or its trace, over the image of a name, the run of a sample, or a dump
pub data Wanted : Type 0 where
  RunOver : List ℕ → Wanted
  TraceOver : List ℕ → Wanted
  SampleOf : ℕ → Wanted
  DumpOf : Wanted

abbrev pub wanted_of : Asked → Wanted
wanted_of (asked.Run image) = RunOver image.now
wanted_of (asked.Trace image) = TraceOver image.now
wanted_of (asked.Sample number) = SampleOf number
wanted_of asked.Dump = DumpOf

-- the number of a sample that a word spells
abbrev pub sample_number : List ℕ → Option ℕ
sample_number word = if is_number word && nat_lt (number_of word) sample_count then Some (number_of word) else None

-- what a command asks for with one word after it
abbrev pub wanted_with : List ℕ → List ℕ → Option Wanted
wanted_with command word =
    if bytes_eq command (codes "run") then Some (RunOver word)
    else (if bytes_eq command (codes "trace") then Some (TraceOver word)
    else (if bytes_eq command (codes "sample") then option_map SampleOf (sample_number word) else None))

-- what these words ask for
abbrev pub wanted : List (List ℕ) → Option Wanted
wanted [] = None
wanted (command ∷ []) = if bytes_eq command (codes "dump") then Some DumpOf else None
wanted (command ∷ word ∷ []) = if is_plain_word word then wanted_with command word else None
wanted (command ∷ word ∷ more ∷ words) = None

-- the commands `run`, `trace` and `sample`, each with its word, and `dump`
abbrev pub word_rule : Rule
word_rule = record (new_rule (codes "word")) { required = true }

abbrev pub word_app : Text → App
word_app name = with_rule (new_app name) word_rule

abbrev pub unnamed_app : App
unnamed_app = record { top = record (new_app (codes "ldom")).top { no_binary_name = true }; subs = [] }

abbrev pub with_word_app : App → Text → App
with_word_app app name = with_subcommand app (word_app name).top

abbrev pub program_app : App
program_app =
    with_subcommand (with_word_app (with_word_app (with_word_app unnamed_app (codes "run")) (codes "trace")) (codes "sample"))
    (new_app (codes "dump")).top

-- what a command that was met asks for, by its name and its arguments
abbrev pub wanted_by : Text → List Row → Option Wanted
wanted_by name rows =
    if bytes_eq name (codes "dump") then Some DumpOf
    else option_and_then (wanted_with name) (first_of (codes "word") rows)

abbrev pub wanted_in : Option (Text × List Row) → Option Wanted
wanted_in None = None
wanted_in (Some met) = wanted_by met.0 met.1
