-- What moves between a source, the piece that was read last and the line that is being read.
use Rattle.std.specs.Prelude.{◌≡◌, ℕ, ◌+◌, ◌<◌, ◌≤◌, Bool, true, false, List, [], ◌∷◌, ◌++◌, length, Option, IfSome, Result, Ok, Err}
use Rattle.std.specs.Io.KnownBytes.{Keeps, IsAtEnd, prepend_known}
use Rattle.domain_script.specs.Limits.{most_line_bytes}
use Rattle.domain_script.specs.Pieces.{HasNoFeed, IsTooLong}
use Rattle.domain_script.specs.ScriptLines.{TakesLine, BeginsWithLonger}
use Rattle.script_reader.specs.declared.lines.LinesFault.{LinesFault}
use Rattle.script_reader.specs.declared.lines.LinesFault.TheVariants.{Source, Long, Many}
use Rattle.script_reader.specs.LinesState.{HasFeed}

-- bytes were added to a line, which has at most 3,100 of them
abbrev pub Extends : List ℕ → List ℕ → Result (Unit {0}) LinesFault → List ℕ → Type 0
Extends old more (Ok _) new = (new ≡ old ++ more) × (length new ≤ most_line_bytes)
Extends old more (Err Long) new = (new ≡ old) × (most_line_bytes < length old + length more)
Extends old more (Err Source) new = ⊥
Extends old more (Err Many) new = ⊥

-- the bytes before the first line feed of a piece were moved after a line, or all where it has none
abbrev pub MovesPart : List ℕ → List ℕ → Result Bool LinesFault → List ℕ → List ℕ → Type 0
MovesPart piece line (Ok true) piece_after line_after = (line ++ piece ≡ line_after ++ 10 ∷ piece_after) × HasNoFeed line_after × (length line_after ≤ most_line_bytes)
MovesPart piece line (Ok false) piece_after line_after = (line_after ≡ line ++ piece) × (piece_after ≡ []) × HasNoFeed line_after × (length line_after ≤ most_line_bytes)
MovesPart piece line (Err Long) piece_after line_after = (piece_after ≡ piece) × (line_after ≡ line) × IsTooLong (line ++ piece)
MovesPart piece line (Err Source) piece_after line_after = ⊥
MovesPart piece line (Err Many) piece_after line_after = ⊥

-- A line was read, or all that there was: `rest` is to come before the call; after it a line, a piece, and what the source
-- has left.
abbrev pub ReadsLine : Option (List ℕ) → Result Bool LinesFault → List ℕ → List ℕ → Option (List ℕ) → Type 0
ReadsLine rest (Ok true) line piece left = TakesLine rest (prepend_known piece left) line × HasFeed rest (prepend_known piece left) line
ReadsLine rest (Ok false) line piece left = Keeps rest (prepend_known (line ++ piece) left) × (piece ≡ []) × IsAtEnd left
ReadsLine rest (Err Source) line piece left = Keeps rest (prepend_known (line ++ piece) left) × HasNoFeed (line ++ piece) × (length (line ++ piece) ≤ most_line_bytes)
ReadsLine rest (Err Long) line piece left = Keeps rest (prepend_known (line ++ piece) left) × IfSome rest (BeginsWithLonger most_line_bytes)
ReadsLine rest (Err Many) line piece left = ⊥
