-- A reader of lines, and what each of its answers says.
use Rattle.std.specs.Prelude.{◌≡◌, ◌≢◌, ℕ, ◌+◌, ◌<◌, ◌≤◌, Bool, true, false, List, [], ◌∷◌, ◌++◌, length, Option, Some, None, IfSome, Result, Ok, Err, ⊤}
use Rattle.std.specs.Io.KnownBytes.{Keeps, IsAtEnd, prepend_known}
use Rattle.vio_io.specs.Causes.{next_count}
use Rattle.script_reader.specs.declared.lines.LinesFault.{LinesFault}
use Rattle.script_reader.specs.declared.lines.LinesFault.TheVariants.{Source, Long, Many}
use Rattle.script_reader.specs.declared.lines.LinesStop.{LinesStop}
use Rattle.script_reader.specs.declared.lines.LinesStop.TheVariants.{Going, Ended, TooLong, TooMany}
use Rattle.domain_script.specs.Pieces.{DecidesNothing}
use Rattle.domain_script.specs.ScriptLines.{TakesLine, BeginsWithLonger, fed}
use Rattle.domain_script.specs.Limits.{most_line_bytes, most_lines}

-- the most bytes that one read asks for
abbrev pub most_of_a_read : ℕ
most_of_a_read = 4096

pub record LinesState : Type 0 where
  -- bytes taken from the source and not yet given in a line
  pub held : List ℕ
  -- the line that the last call gave
  pub line : List ℕ
  -- how many lines were given
  pub number : ℕ
  -- whether a further call can give a line, and else why not
  pub stop : LinesStop

-- at any time no more is held than the beginning of a line and what one read gave, and after the last line that there
-- may be no more than that
pub record HoldsFew (lines : LinesState) : Type 0 where
  pub all : length lines.held ≤ most_line_bytes + most_of_a_read
  pub last : lines.number ≡ most_lines → length lines.held ≤ most_of_a_read

-- the bytes that are still to come, where the source tells those that it has left
abbrev pub to_come : LinesState → Option (List ℕ) → Option (List ℕ)
to_come lines left = prepend_known lines.held left

-- known bytes begin with this line and its line feed
abbrev pub HasFeed : Option (List ℕ) → Option (List ℕ) → List ℕ → Type 0
HasFeed None left line = ⊤
HasFeed (Some bytes) None line = ⊥
HasFeed (Some bytes) (Some left) line = bytes ≡ line ++ 10 ∷ left

-- known bytes are these lines, each with its line feed, and then what is left
abbrev pub AllFed : Option (List ℕ) → Option (List ℕ) → List (List ℕ) → Type 0
AllFed None left texts = ⊤
AllFed (Some bytes) None texts = ⊥
AllFed (Some bytes) (Some left) texts = bytes ≡ fed texts ++ left

-- How the line that was given ended. A reader that goes on gave its line feed with it. One that ended gave all that there
-- was, without a line feed, and the source has nothing left.
abbrev pub LineEnds : LinesStop → Option (List ℕ) → Option (List ℕ) → List ℕ → Type 0
LineEnds Going rest left line = HasFeed rest left line
LineEnds Ended rest left line = IfSome rest (λ bytes. bytes ≡ line) × IsAtEnd left
LineEnds TooLong rest left line = ⊥
LineEnds TooMany rest left line = ⊥

-- the next line was given
pub record GivesLine (rest left : Option (List ℕ)) (before after : LinesState) : Type 0 where
  pub told : TakesLine rest left after.line
  pub short : length after.line ≤ most_line_bytes
  pub count : after.number ≡ before.number + 1
  pub few : after.number ≤ most_lines
  pub ends : LineEnds after.stop rest left after.line
  -- behind a line less is held than one read gives
  pub held : length after.held < most_of_a_read

-- no line was given, and all that was taken is kept
pub record GivesNone (rest left : Option (List ℕ)) (before after : LinesState) (why : LinesStop) : Type 0 where
  pub told : Keeps rest left
  pub line : after.line ≡ []
  pub count : after.number ≡ before.number
  pub stop : after.stop ≡ why

-- An answer of a reader that goes on: `rest` is to come before the call, `left` after it. Where the source failed, no
-- line is whole in what is held, and no limit is met.
abbrev pub ReaderAnswers : Option (List ℕ) → Option (List ℕ) → LinesState → Result Bool LinesFault → LinesState → Type 0
ReaderAnswers rest left before (Ok true) after = GivesLine rest left before after
ReaderAnswers rest left before (Ok false) after = GivesNone rest left before after Ended × IsAtEnd rest
ReaderAnswers rest left before (Err Source) after = GivesNone rest left before after Going × DecidesNothing before.number after.held
ReaderAnswers rest left before (Err Long) after = GivesNone rest left before after TooLong × (before.number < most_lines) × IfSome rest (BeginsWithLonger most_line_bytes)
ReaderAnswers rest left before (Err Many) after = GivesNone rest left before after TooMany × (before.number ≡ most_lines) × IfSome rest (λ bytes. bytes ≢ [])

-- an answer of a reader: where it stopped before, the same again; behind a last line that is the end
abbrev pub AdvancesFrom : LinesStop → Option (List ℕ) → Option (List ℕ) → LinesState → Result Bool LinesFault → LinesState → Type 0
AdvancesFrom Going rest left before result after = ReaderAnswers rest left before result after
AdvancesFrom Ended rest left before result after = (result ≡ Ok false) × (after ≡ record before { line = [] })
AdvancesFrom TooLong rest left before result after = (result ≡ Err Long) × (after ≡ before)
AdvancesFrom TooMany rest left before result after = (result ≡ Err Many) × (after ≡ before)

abbrev pub Advances : Option (List ℕ) → Option (List ℕ) → LinesState → Result Bool LinesFault → LinesState → Type 0
Advances rest left before result after = AdvancesFrom before.stop rest left before result after

-- the reader ended in this call
abbrev pub EndsNow : LinesStop → LinesStop → Type 0
EndsNow before after = (before ≢ Ended) × (after ≡ Ended)

-- how often a source said that it is at its end, which had said so that often when this reader was made
abbrev pub ends_after : LinesStop → ℕ → ℕ
ends_after Ended base = next_count base
ends_after Going base = base
ends_after TooLong base = base
ends_after TooMany base = base

-- Where the source had said so as often as the reader knew, it has now: so at most once, and never to a reader that goes on.
abbrev pub KeepsEnds : LinesStop → LinesStop → ℕ → ℕ → Type 0
KeepsEnds old new before now = (base : ℕ) → before ≡ ends_after old base → now ≡ ends_after new base

-- A further line may be asked for: the reader goes on, or it ended and nothing is to come.
abbrev pub GoesFrom : LinesStop → Option (List ℕ) → Type 0
GoesFrom Going rest = ⊤
GoesFrom Ended rest = IsAtEnd rest
GoesFrom TooLong rest = ⊥
GoesFrom TooMany rest = ⊥

abbrev pub GoesOn : LinesState → Option (List ℕ) → Type 0
GoesOn lines left = GoesFrom lines.stop (to_come lines left)
