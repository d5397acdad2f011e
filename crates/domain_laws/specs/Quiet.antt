-- A quiet script over a world of one disk and no port, and what it comes to.
use Rattle.std.specs.Prelude.{◌≡◌, ℕ, List, [], ◌∷◌, map, flat_map, ⊤}
use Rattle.runs.specs.Run.{Run}
use Rattle.disk_law.specs.ListState.{ImageState}
use Rattle.lane_models.specs.LaneState.{Shape}
use Rattle.world_laws.specs.Plain.{untouched}
use Rattle.world_laws.specs.Quiet.{IsPlain}
use Rattle.world_laws.specs.Settle.{SettleEntry}
use Rattle.world_laws.specs.Shown.{shown}
use Rattle.domain_laws.specs.Domain.{DomainState, fresh_domain}
use Rattle.domain_laws.specs.Lines.{Asked, Line, LineStep, Nothing, Settles}
use Rattle.domain_laws.specs.PlainLines.{plain_journal, plain_run}

-- A LINE IS QUIET where it asks the one disk, settles, or does nothing
abbrev pub IsQuiet : Line → Type 0
IsQuiet Nothing = ⊤
IsQuiet (Asked k request) = k ≡ 0
IsQuiet Settles = ⊤
IsQuiet _ = ⊥

abbrev pub AreQuiet : List Line → Type 0
AreQuiet [] = ⊤
AreQuiet (line ∷ lines) = IsQuiet line × AreQuiet lines

-- the lines of a script, and what their parts show
abbrev pub lines_of : List (Line × List SettleEntry) → List Line
lines_of lines = map (λ (l : Line × List SettleEntry). l.0) lines

abbrev pub shown_of : List (Line × List SettleEntry) → List SettleEntry
shown_of lines = flat_map (λ (l : Line × List SettleEntry). shown l.1) lines

-- QUIET LINES led from a fresh world of this one disk to this one, and the image never failed
pub record RunsQuietly (shape : Shape) (image : ImageState) (lines : List (Line × List SettleEntry)) (w : DomainState) : Type 0 where
  pub quiet : AreQuiet (lines_of lines)
  pub run : Run LineStep (fresh_domain (shape ∷ []) image []) lines w
  pub well : w.first.image.faults ≡ 0

-- IT RUNS PLAINLY: the lines show what they show of the plain list, and end in its world
pub record RunsPlainly (shape : Shape) (first : List ℕ) (lines : List (Line × List SettleEntry)) (w : DomainState) : Type 0 where
  pub shows : shown_of lines ≡ plain_journal shape (untouched first) (lines_of lines)
  pub ends : IsPlain (plain_run shape (untouched first) (lines_of lines)) w.first
  pub no_port : w.second ≡ []
