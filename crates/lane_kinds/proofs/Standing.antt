-- What stands of the lanes and their marks stays through the rounds of a settle.
use Rattle.std.proofs.Common.{List, arith}
use Rattle.runs.specs.Run.{Run, run_keeps}
use Rattle.lane_kinds.specs.Laws.{KeepsStanding}
use Rattle.lane_kinds.specs.Rounds.{Rounds}
use Rattle.lane_kinds.specs.Settles.{EndsWith, GoesOn, SettleRound, Settles, Settling}

module _ {W M R E : Type 0} (K : Rounds W M R E) (Stands : W → M → Type 0) (laws : KeepsStanding K Stands) where
  pub goes_on : (w : Settling W M) (round : SettleRound R E) (v : Settling W M) → GoesOn K w round v → Stands w.lanes w.marks → Stands v.lanes v.marks
  goes_on w round v goes given = grind arith

  pub rounds_stand : (w : Settling W M) (rounds : List (SettleRound R E)) (v : Settling W M) → Run (GoesOn K) w rounds v → Stands w.lanes w.marks → Stands v.lanes v.marks
  rounds_stand w rounds v run at = run_keeps (GoesOn K) (λ (x : Settling W M). Stands x.lanes x.marks) goes_on w v rounds run at

  -- and so before the last round
  pub ends_with : (start : W) (part : List E) (behind : W) (at : Settles K start part behind) → Stands start (K.unmarked start) → EndsWith K Stands behind at.now.marks
  ends_with start part behind at stands = grind (arith, rounds_stand)
