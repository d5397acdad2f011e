-- Where the rounds of a settle ran out some lane is named: one that wasn't quiet in the last of them, or one that had
-- its tick after it.
use Rattle.std.proofs.Common.{◌≡◌, ◌≤◌, Bool, List, [], ◌∷◌, length, arith}
use Rattle.runs.specs.Run.{run_split}
use Rattle.lane_kinds.proofs.Standing.{rounds_stand}
use Rattle.lane_kinds.specs.Laws.{KeepsStanding, Names}
use Rattle.lane_kinds.specs.Rounds.{Rounds}
use Rattle.lane_kinds.specs.Settles.{GoesOn, RunsOut, Settling, TicksBehind, begin}

module _ {W M R E : Type 0} (K : Rounds W M R E) (Stands : W → M → Type 0) (keeps : KeepsStanding K Stands) (laws : Names K Stands) where
  last_names : (quiet : Bool) (w : Settling W M) (steps : R) (between : W) (entries : List E) (v : Settling W M) → Stands w.lanes w.marks → K.Makes w.lanes steps between → K.quiet steps ≡ quiet
      → TicksBehind K quiet w steps between entries v → 1 ≤ length (K.names steps v.lanes)
  last_names quiet w steps between entries v given made loud behind = grind arith

  pub out_names : (start : W) (part : List E) (behind : W) (out : RunsOut K start part behind) → Stands start (K.unmarked start) → 1 ≤ length (K.names out.last.steps behind)
  out_names start part behind out at =
      let parts = run_split (GoesOn K) (begin K start) out.now out.rounds (out.last ∷ []) out.run in
      grind (arith, last_names, rounds_stand)
