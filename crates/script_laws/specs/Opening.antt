-- The lines of a script before the first that is neither blank nor a declaration.
use Rattle.std.specs.Prelude.{◌≡◌, ℕ, true, List, [], ◌∷◌, ◌++◌, Option, Some, None}
use Rattle.domain_script.specs.declared.event.Event.{Event}
use Rattle.domain_script.specs.NamesState.{NamesState}
use Rattle.ldom_report.specs.declared.status.Status.{Status}
use Rattle.ldom_report.specs.declared.status.Status.TheVariants as status
use Rattle.script_laws.specs.Attached.{AreOpening}
use Rattle.script_laws.specs.Reading.{HoldsLess}
use Rattle.script_laws.specs.Replayed.{Stopped}
use Rattle.script_laws.specs.Script.{ReadSoFar}
use Rattle.script_reader.specs.declared.lines.LinesStop.TheVariants.{Going}
use Rattle.script_reader.specs.LinesState.{AllFed, LinesState, to_come}

-- After blank lines and declarations came this event; so the reader stands, and the source has `now` left. Where the
-- reader goes on, each line had its line feed.
pub record Opens (start : Option (List ℕ)) (reader : LinesState) (now : Option (List ℕ)) (event : Event)
    (names : NamesState) : Type 0 where
  pub opening : List Event
  pub are : AreOpening opening
  pub read : ReadSoFar start (to_come reader now) (opening ++ event ∷ []) names reader.number
  pub feeds : reader.stop ≡ Going → AllFed start (to_come reader now) read.texts
  pub other : AreOpening (event ∷ []) → ⊥
  -- it ends the declarations
  pub ended : names.ended ≡ true
  pub held : HoldsLess reader.held

-- after such lines no further one was taken up
pub record OpensAndStops (start now : Option (List ℕ)) (why : Status) (names : NamesState) (lines : ℕ) : Type 0 where
  pub opening : List Event
  pub are : AreOpening opening
  pub stopped : Stopped start now why opening names 0 lines

-- after such lines came this event, or the end; so the reader stands, and the source has `now` left
abbrev pub OpensOrStops : Option (List ℕ) → LinesState → Option (List ℕ) → Option Event → NamesState → Type 0
OpensOrStops start reader now None names = OpensAndStops start now status.Done names reader.number
OpensOrStops start reader now (Some event) names = Opens start reader now event names
