-- Equations that can't be, and one that holds of what two options hold.
use Rattle.std.proofs.Common.{◌≡◌, true, false, Option, Some, None, subst}

pub none_some : {X C : Type 0} (x : X) → ◌≡◌ {A = Option X} None (Some x) → C
none_some x is = absurd (cc is)

pub false_true : {C : Type 0} → false ≡ true → C
false_true is = absurd (cc is)

pub true_false : {C : Type 0} → true ≡ false → C
true_false is = absurd (cc is)

pub of_some : {X : Type 0} (P : X → Type 0) (x y : X) → Some x ≡ Some y → P x → P y
of_some {X} P x y same holds = let is : x ≡ y = cc in subst P is holds
