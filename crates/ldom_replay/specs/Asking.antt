-- The words that ask for a run, by what its report shows.
use Rattle.std.specs.Prelude.{ℕ, List, Option, Some, None}
use Rattle.ldom_report.specs.declared.status.Mode.{Mode}
use Rattle.ldom_report.specs.declared.status.Mode.TheVariants as mode
use Rattle.ldom_words.specs.Words.{AsksDump, AsksRun, AsksSample, AsksTrace}
use Rattle.ldom_replay.specs.declared.command.Command.{Command}
use Rattle.ldom_replay.specs.declared.command.Command.TheVariants.{Script, Sample, Dump}

-- a script is run over the image of this name; no words ask for the end line alone
abbrev pub AsksFor : Mode → List (List ℕ) → List ℕ → Type 0
AsksFor mode.Run words image = AsksRun words image
AsksFor mode.Trace words image = AsksTrace words image
AsksFor mode.EndOnly words image = ⊥

-- they ask for no script of the source, and also for no sample
abbrev pub AsksNoScript : List (List ℕ) → Type 0
AsksNoScript words = (shown : Mode) (image : List ℕ) → AsksFor shown words image → ⊥

abbrev pub AsksNoRun : List (List ℕ) → Type 0
AsksNoRun words = AsksNoScript words × ((number : ℕ) → AsksSample words number → ⊥)

-- what the words ask for
abbrev pub IsCommand : List (List ℕ) → Option Command → Type 0
IsCommand words (Some (Script shown image)) = AsksFor shown words image.now
IsCommand words (Some (Sample number)) = AsksSample words number
IsCommand words (Some Dump) = AsksDump words
IsCommand words None = AsksNoRun words × (AsksDump words → ⊥)
