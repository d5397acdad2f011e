-- What each line does to a plain list of requests, and what is shown of that.
use Rattle.std.specs.Prelude.{List, [], ◌∷◌, ◌++◌}
use Rattle.lane_models.specs.LaneState.{Shape}
use Rattle.vdisk_msg.specs.Requests.{defect}
use Rattle.world_laws.specs.Plain.{Plain, answer, asked, complete_all, completions, is_full}
use Rattle.world_laws.specs.Settle.{SettleEntry, Settled}
use Rattle.domain_laws.specs.Lines.{Asked, Line, Settles}

-- WHAT A LINE DOES, and what it shows
abbrev pub plain_line : Shape → Plain → Line → Plain
plain_line shape p (Asked k request) = asked p request (defect shape.blocks request) (is_full shape p)
plain_line shape p Settles = complete_all p p.waiting
plain_line shape p _ = p

abbrev pub plain_shows : Shape → Plain → Line → List SettleEntry
plain_shows shape p (Asked k request) = answer request (defect shape.blocks request) (is_full shape p)
plain_shows shape p Settles = completions p p.waiting ++ Settled ∷ []
plain_shows shape p _ = []

-- and so lines one after another
abbrev pub plain_run : Shape → Plain → List Line → Plain
plain_run shape p [] = p
plain_run shape p (line ∷ lines) = plain_run shape (plain_line shape p line) lines

abbrev pub plain_journal : Shape → Plain → List Line → List SettleEntry
plain_journal shape p [] = []
plain_journal shape p (line ∷ lines) = plain_shows shape p line ++ plain_journal shape (plain_line shape p line) lines
