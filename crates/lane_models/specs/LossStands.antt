-- Whether a packet was lost since the queues were last emptied, by the events alone.
use Rattle.std.specs.Prelude.{◌≡◌, ℕ, List, [], ◌∷◌, ◌++◌, ⊤}
use Rattle.runs.specs.Lawful.{Lawful, log_of}
use Rattle.ldc_queue.specs.declared.end.End.{End}
use Rattle.lane_models.specs.WireAt.{IsUp}
use Rattle.lane_models.specs.WireEvent.{Joined, Lost, Reset}
use Rattle.lane_models.specs.CoreLog.{CoreLog, after, nothing_yet}
use Rattle.lane_models.specs.LaneCore.{Closes, CoreEvent, OnChannel}

-- both queues are emptied where an end that was up begins anew, and where one is closed
abbrev pub Empties : CoreLog → CoreEvent → Type 0
Empties l (OnChannel (Joined e lost)) = IsUp e l.wire.wire
Empties l (OnChannel (Reset e cause packet lost)) = IsUp e l.wire.wire
Empties l (Closes e) = ⊤
Empties l _ = ⊥

abbrev pub EmptiesNone : CoreLog → CoreEvent → Type 0
EmptiesNone l event = Empties l event → ⊥

-- A LOSS STANDS among events, behind the last of them that emptied the queues
pub record LossAmong (l : CoreLog) (events : List CoreEvent) : Type 0 where
  pub before : List CoreEvent
  pub e : End
  pub packet : List ℕ
  pub behind : List CoreEvent
  pub events_are : events ≡ before ++ OnChannel (Lost e packet) ∷ behind
  pub kept : Lawful EmptiesNone after (log_of after l (before ++ OnChannel (Lost e packet) ∷ [])) behind

abbrev pub LossStands : ℕ → List CoreEvent → Type 0
LossStands entries events = LossAmong (nothing_yet entries) events
