-- What a reader's answer says to whoever takes up its lines.
use Rattle.std.proofs.Common.{◌≡◌, ◌≢◌, ℕ, List, Option, Bool, Result, Ok, Err, false, refl, sym, ap, ◌∙◌, subst}
use Rattle.script_reader.specs.declared.lines.LinesFault.{LinesFault}
use Rattle.script_reader.specs.declared.lines.LinesFault.TheVariants.{Source, Long, Many}
use Rattle.script_reader.specs.declared.lines.LinesStop.{LinesStop}
use Rattle.script_reader.specs.declared.lines.LinesStop.TheVariants.{Going, Ended, TooLong, TooMany}
use Rattle.vio_io.specs.Causes.{next_count}
use Rattle.vio_io.specs.Ends.{SaysEnd}
use Rattle.script_reader.specs.LinesState.{AdvancesFrom, EndsNow, GoesFrom, KeepsEnds, LineEnds, LinesState, ReaderAnswers, ends_after}
use Rattle.ldom_report.specs.Stops.{ReaderStandsAt, StopsReading, stop_of}
use Rattle.ldom_report.specs.declared.stop.Stop.TheVariants.{End}

-- a reader that gave a line may be asked further
pub goes_behind : (stop : LinesStop) (rest left : Option (List ℕ)) (line : List ℕ) → LineEnds stop rest left line → GoesFrom stop left
goes_behind Going rest left line ends = tt
goes_behind Ended rest left line ends = ends.1
goes_behind TooLong rest left line ends = absurd ends
goes_behind TooMany rest left line ends = absurd ends

-- a fault of the reader is why no line is taken up
pub stops_at : (fault : LinesFault) (rest left : Option (List ℕ)) (before after : LinesState) → ReaderAnswers rest left before (Err fault) after
    → StopsReading (stop_of fault) rest left after.held before.number
stops_at Source rest left before after reads = (reads.1, reads.0.told)
stops_at Long rest left before after reads = ((reads.1, reads.2), reads.0.told)
stops_at Many rest left before after reads = ((reads.1, reads.2), reads.0.told)

-- and so is the end
pub stops_at_end : (rest left : Option (List ℕ)) (before after : LinesState) → ReaderAnswers rest left before (Ok false) after → StopsReading End rest left after.held before.number
stops_at_end rest left before after reads = (reads.1, reads.0.told)

-- neither counts a line
pub same_number : (fault : LinesFault) (rest left : Option (List ℕ)) (before after : LinesState) → ReaderAnswers rest left before (Err fault) after → after.number ≡ before.number
same_number Source rest left before after reads = reads.0.count
same_number Long rest left before after reads = reads.0.count
same_number Many rest left before after reads = reads.0.count

-- a reader that may be asked, and that answers anything but the end, goes on
pub going_before : (stop : LinesStop) (rest left : Option (List ℕ)) (before after : LinesState) (result : Result Bool LinesFault)
    → GoesFrom stop rest → AdvancesFrom stop rest left before result after → result ≢ Ok false → stop ≡ Going
going_before Going rest left before after result goes advances other = refl
going_before Ended rest left before after result goes advances other = absurd (other advances.0)
going_before TooLong rest left before after result goes advances other = absurd goes
going_before TooMany rest left before after result goes advances other = absurd goes

-- one that stopped stays as it stopped
pub stays_stopped : (stop : LinesStop) (rest left : Option (List ℕ)) (before after : LinesState) (result : Result Bool LinesFault)
    → before.stop ≡ stop → AdvancesFrom stop rest left before result after → stop ≢ Going → after.stop ≡ stop
stays_stopped Going rest left before after result is advances stopped = absurd (stopped refl)
stays_stopped Ended rest left before after result is advances stopped = ap (λ (s : LinesState). s.stop) advances.1 ∙ is
stays_stopped TooLong rest left before after result is advances stopped = ap (λ (s : LinesState). s.stop) advances.1 ∙ is
stays_stopped TooMany rest left before after result is advances stopped = ap (λ (s : LinesState). s.stop) advances.1 ∙ is

-- so the source says at most once that it is at its end
pub keeps_ends : (old new : LinesStop) (before now : ℕ) → (old ≢ Going → new ≡ old) → SaysEnd (EndsNow old new) before now → KeepsEnds old new before now
keeps_ends Going Ended before now stays says base is = says.once ((λ e. cc e), refl) ∙ ap next_count is
keeps_ends Going Going before now stays says base is = says.else_not (λ ends. cc ends.1) ∙ is
keeps_ends Going TooLong before now stays says base is = says.else_not (λ ends. cc ends.1) ∙ is
keeps_ends Going TooMany before now stays says base is = says.else_not (λ ends. cc ends.1) ∙ is
keeps_ends Ended new before now stays says base is =
    subst (λ (s : LinesStop). now ≡ ends_after s base) (sym (stays (λ e. cc e))) (says.else_not (λ ends. ends.0 refl) ∙ is)
keeps_ends TooLong new before now stays says base is =
    let same : new ≡ TooLong = stays (λ e. cc e) in subst (λ (s : LinesStop). now ≡ ends_after s base) (sym same) (says.else_not (λ ends. cc (sym same ∙ ends.1)) ∙ is)
keeps_ends TooMany new before now stays says base is =
    let same : new ≡ TooMany = stays (λ e. cc e) in subst (λ (s : LinesStop). now ≡ ends_after s base) (sym same) (says.else_not (λ ends. cc (sym same ∙ ends.1)) ∙ is)

-- a reader that gave a fault didn't end
pub stands_at : (fault : LinesFault) (rest left : Option (List ℕ)) (before after : LinesState) → ReaderAnswers rest left before (Err fault) after → ReaderStandsAt (stop_of fault) after.stop
stands_at Source rest left before after reads = λ ended. cc (reads.0.stop, ended)
stands_at Long rest left before after reads = λ ended. cc (reads.0.stop, ended)
stands_at Many rest left before after reads = λ ended. cc (reads.0.stop, ended)
