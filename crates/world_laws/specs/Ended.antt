-- What a settle leaves: lanes that are finished, and ends that are still.
use Rattle.std.specs.Prelude.{◌≡◌, ◌⊎◌, ℕ, ◌+◌, Bool, true, false, List, [], ◌∷◌, ⊤}
use Rattle.runs.specs.Lawful.{log_of}
use Rattle.runs.specs.Run.{Run}
use Rattle.lane_kinds.specs.Lanes.{EachAt}
use Rattle.lane_laws.specs.DiskLog.{after, nothing_yet}
use Rattle.lane_models.specs.ClientState.{is_finished}
use Rattle.lane_models.specs.DiskEvent.{DiskEvent}
use Rattle.lane_models.specs.LaneState.{IsShape, LaneState, Shape, fresh}
use Rattle.lane_models.specs.LaneStep.{LaneStep}
use Rattle.lane_laws.specs.CalmEnds.{AreStill, HaveFinished}
use Rattle.world_laws.specs.Moves.{ticks_in}
use Rattle.world_laws.specs.Rounds.{LaneRound}
use Rattle.world_laws.specs.Settle.{SettleEntry}
use Rattle.world_laws.specs.Sums.{IsUnforged}

-- After a settle that ends settled a lane that runs is finished, or had its tick; where nobody forged it, it is finished, and where moreover
-- no packet was lost since the queues were last emptied, both sessions are open and nothing waits.
pub record EndsFinished (t : LaneState) (had : Bool) : Type 0 where
  pub ticked : t.stopped ≡ false → (is_finished t.client ≡ true) ⊎ (had ≡ true)
  pub finished : IsUnforged t → t.stopped ≡ false → is_finished t.client ≡ true
  pub whole : IsUnforged t → t.stopped ≡ false → t.wire.lossy ≡ false → HaveFinished t

-- and so each lane, from this number on, with its tick in the part
pub record EndsIn (k : ℕ) (part : List SettleEntry) (t : LaneState) : Type 0 where
  pub ticked : t.stopped ≡ false → (is_finished t.client ≡ true) ⊎ (ticks_in k part ≡ 1)
  pub finished : IsUnforged t → t.stopped ≡ false → is_finished t.client ≡ true
  pub whole : IsUnforged t → t.stopped ≡ false → t.wire.lossy ≡ false → HaveFinished t

abbrev pub LanesEnd : ℕ → List SettleEntry → List LaneState → Type 0
LanesEnd j part behind = EachAt (λ k t. EndsIn k part t) j behind

-- Both ends of a lane are still after its two steps, but for a stopped server's: in the log of whatever run led to it.
abbrev pub IsStillBehind : LaneState → LaneRound → LaneState → Type 0
IsStillBehind s r t =
    (shape : Shape) (events : List DiskEvent) → IsShape shape → Run LaneStep (fresh shape) events s
    → AreStill t (log_of after (log_of after (nothing_yet shape) events) r)

abbrev pub AllStill : List LaneState → List LaneRound → List LaneState → Type 0
AllStill [] [] [] = ⊤
AllStill (s ∷ lanes) (r ∷ rounds) (t ∷ behind) = IsStillBehind s r t × AllStill lanes rounds behind
AllStill _ _ _ = ⊥
