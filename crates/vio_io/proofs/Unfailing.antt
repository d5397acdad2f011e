-- A plan that names no call.
use Rattle.std.proofs.Common.{◌≡◌, ℕ, zero, suc, ◌==◌, List, Bool, false, [], refl, ◌∙◌, ap, if◌then◌else◌}
use Rattle.std.specs.List.{list_any}
use Rattle.vio_io.specs.Causes.{next_count}
use Rattle.vio_io.specs.FaultPlan.{Plan, after_calls, fails_next}

-- the calls that fail stay the same
pub failing_stays : (n : ℕ) (p : Plan) → (after_calls n p).failing ≡ p.failing
failing_stays zero p = refl
failing_stays (suc n) p = failing_stays n p

pub never_fails : (p : Plan) → p.failing ≡ [] → fails_next p ≡ false
never_fails p none = ap (λ (l : List ℕ). list_any (λ n. n == p.calls) l) none

-- no call counts a fault
pub count_stays : (n : ℕ) (p : Plan) → p.failing ≡ [] → (after_calls n p).faults ≡ p.faults
count_stays zero p none = refl
count_stays (suc n) p none =
    ap (λ (b : Bool). if b then next_count (after_calls n p).faults else (after_calls n p).faults) (never_fails (after_calls n p) (failing_stays n p ∙ none))
    ∙ count_stays n p none
