-- Each entry of a run of declared disks, forged or not, is of one of them and has its words.
use Rattle.std.proofs.Common.{◌≡◌, ℕ, ◌<◌, ◌≤◌, if◌then◌else◌, Bool, true, false, List, [], ◌∷◌, ◌++◌, length, refl, sym, ap, ◌∙◌, subst, arith}
use Rattle.std.specs.Prelude.{⊤}
use Rattle.std.proofs.lemmas.Bool.{eqb-true}
use Rattle.std.proofs.lemmas.Option.{slice_get_within}
use Rattle.runs.specs.Run.{Run}
use Rattle.world_parts.specs.lane_models.DiskEvent.{DiskEvent}
use Rattle.world_parts.specs.lane_models.Reached.{IsReached}
use Rattle.world_parts.specs.world_laws.Along.{happened}
use Rattle.world_parts.specs.world_laws.Rounds.{Each}
use Rattle.world_parts.specs.world_laws.Settle.{OfLane, SettleEntry, Unsettled}
use Rattle.world_parts.proofs.world_laws.Along.{lane_step, many_stay, stay_reached}
use Rattle.world_parts.proofs.world_laws.LaneLists.{each_there}
use Rattle.world_parts.specs.world_laws.World.{OneMoves, WorldState, WorldStep}
use Rattle.world_parts.proofs.world_laws.EventWords.{event_words}
use Rattle.world_parts.proofs.domain_laws.LeftOver.{NamesBelow}
use Rattle.world_parts.specs.world_laws.Words.{HasWords}

-- AN ENTRY of one of so many disks
abbrev pub IsTold : ℕ → SettleEntry → Type 0
IsTold many (OfLane k event) = (k < many) × HasWords event
IsTold many (Unsettled k) = k < many
IsTold many _ = ⊤

abbrev pub AreTold : ℕ → List SettleEntry → Type 0
AreTold many [] = ⊤
AreTold many (entry ∷ entries) = IsTold many entry × AreTold many entries

-- EACH EVENT of a lane is told
lane_told : (many : ℕ) (w : WorldState) (k : ℕ) (event : DiskEvent) (v : WorldState) → length w.lanes ≡ many
    → Each IsReached w.lanes → OneMoves w k event v → IsTold many (OfLane k event)
lane_told many w k event v long reached one =
    let at = each_there IsReached w.lanes k one.lane reached one.there in
    let step = lane_step one.lane w.image event one.after v.image one.moves in
    let within = slice_get_within w.lanes k one.lane one.there in (
      omega (arith, within, long),
      event_words at.shape at.events one.lane event one.after at.sound at.run step,
    )

-- AND SO IS EACH ENTRY of a run
pub run_told : (many ports : ℕ) (w : WorldState) (entries : List SettleEntry) (v : WorldState) → length w.lanes ≡ many
    → Each IsReached w.lanes → Run WorldStep w entries v → NamesBelow many ports entries → AreTold many entries
run_told many ports w [] v long reached run below = tt
run_told many ports w (OfLane k event ∷ entries) v long reached run below =
    let first : Run WorldStep w (OfLane k event ∷ []) run.0 = (run.0, run.1, refl) in (
      lane_told many w k event run.0 long reached run.1,
      run_told many ports run.0 entries v (many_stay w (OfLane k event ∷ []) run.0 first ∙ long)
          (stay_reached w (OfLane k event ∷ []) run.0 reached first) run.2 below.1,
    )
run_told many ports w (Unsettled k ∷ entries) v long reached run below = grind (arith, run_told many ports run.0 entries v)
run_told many ports w (entry ∷ entries) v long reached run below =
    grind (arith, run_told many ports run.0 entries v (ap (λ (x : WorldState). length x.lanes) run.1 ∙ long) (subst (λ (x : WorldState). Each IsReached x.lanes) (sym run.1) reached) run.2 below.1)

-- NOTHING HAPPENED to another disk
other_event : (b : Bool) (event : DiskEvent) (rest : List DiskEvent) → (b ≡ true → ⊥)
    → (if b then event ∷ [] else []) ++ rest ≡ rest
other_event true event rest other = absurd (other refl)
other_event false event rest other = refl

pub none_happened : (many x : ℕ) (entries : List SettleEntry) → many ≤ x → AreTold many entries
    → happened x entries ≡ []
none_happened many x (OfLane k event ∷ entries) past told = grind (arith, eqb-true, other_event, none_happened many x entries past told.1)
none_happened many x (entry ∷ entries) past told = none_happened many x entries past told.1
none_happened many x entries past told = grind arith
