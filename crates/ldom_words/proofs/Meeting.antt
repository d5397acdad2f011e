-- The command that was met, by its name and its arguments.
use Rattle.std.proofs.Common.{◌≡◌, ◌∙◌, Bool, false, List, codes, Option, Some, None, sym, ap}
use Rattle.std.specs.Prelude.{Box, option_and_then, option_map, if◌then◌else◌}
use Rattle.std.specs.Box.{box_value}
use Rattle.std.specs.Str.{bytes_eq}
use Rattle.clap.specs.Words.{Row, Text, first_of, subcommand_name_of, subcommand_rows_of}
use Rattle.clap.specs.Simple.{subcommand_rows}
use Rattle.clap.specs.declared.parser.matches.ArgMatches.{ArgMatches}
use Rattle.clap.specs.declared.parser.matches.ArgMatches.TheViews.{out-ArgMatches, out-SubCommand}
use Rattle.clap.specs.declared.parser.matches.SubCommand.{SubCommand}
use Rattle.ldom_words.specs.Asking.{DumpOf, wanted_in, wanted_with}

met_both : {Z : Type 0} (met : Option (Box SubCommand Z)) (name : Text) (rows : List Row)
    → option_map (λ b. (out-SubCommand (box_value b)).name.now) met ≡ Some name
    → option_map (λ (p : Text × List Row). p.1) (subcommand_rows met) ≡ Some rows
    → subcommand_rows met ≡ Some (name, rows)
met_both None name rows named has = absurd (cc named)
met_both (Some b) name rows named has = cc (named, has)

-- a command that was met has its name and its arguments
met_as : (matches : ArgMatches) (name : Text) (rows : List Row) → subcommand_name_of matches ≡ Some name
    → option_map (λ (p : Text × List Row). p.1) (subcommand_rows_of matches) ≡ Some rows
    → subcommand_rows_of matches ≡ Some (name, rows)
met_as matches name rows named has = met_both (out-ArgMatches matches).subcommand name rows named has

-- unless it is `dump`, it is asked for with its word
pub word_wanted : (matches : ArgMatches) (name : Text) (rows : List Row) (word : Option Text)
    → subcommand_name_of matches ≡ Some name
    → option_map (λ (p : Text × List Row). p.1) (subcommand_rows_of matches) ≡ Some rows
    → bytes_eq name (codes "dump") ≡ false
    → word ≡ first_of (codes "word") rows
    → option_and_then (wanted_with name) word ≡ wanted_in (subcommand_rows_of matches)
word_wanted matches name rows word first second tests is =
    ap (λ (w : Option Text). option_and_then (wanted_with name) w) is
    ∙ sym (ap wanted_in (met_as matches name rows first second)
    ∙ ap (λ (b : Bool). if b then Some DumpOf else option_and_then (wanted_with name) (first_of (codes "word") rows)) tests)
