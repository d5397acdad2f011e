-- The count of an image's faults never falls: where there are none at the end, there were none before.
use Rattle.std.proofs.Common.{◌≡◌, ℕ, Bool, true, false, List, [], ◌∷◌, refl, sym, ap, ◌∙◌, arith}
use Rattle.runs.specs.Run.{Run}
use Rattle.vio_io.specs.Causes.{next_count}
use Rattle.world_laws.specs.Settle.{SettleEntry}
use Rattle.vio_io.specs.Causes.{FaultsAfter}
use Rattle.world_laws.specs.World.{WorldState, WorldStep}

never_none : (n : ℕ) → next_count n ≡ 0 → ⊥
never_none n is = omega (arith, is)

-- a call of the store
pub fault_free : (failed : Bool) (before now : ℕ) → FaultsAfter failed before now → now ≡ 0 → failed ≡ false
fault_free true before now is none = absurd (never_none before (sym is ∙ none))
fault_free false before now is none = refl

same_world : (w v : WorldState) → v ≡ w → v.image.faults ≡ 0 → w.image.faults ≡ 0
same_world w v is none = sym (ap (λ (x : WorldState). x.image.faults) is) ∙ none

entry_before : (w : WorldState) (x : SettleEntry) (v : WorldState) → WorldStep w x v → v.image.faults ≡ 0 → w.image.faults ≡ 0
entry_before w x v step none = grind (arith, never_none, same_world)

-- entries one after another
pub part_before : (w : WorldState) (part : List SettleEntry) (v : WorldState) → Run WorldStep w part v → v.image.faults ≡ 0 → w.image.faults ≡ 0
part_before w [] v run none = same_world w v (sym run) none
part_before w (x ∷ part) v run none = entry_before w x run.0 run.1 (part_before run.0 part v run.2 none)
