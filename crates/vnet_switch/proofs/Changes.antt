-- Lists of ports that were changed at some places.
use Rattle.std.proofs.Common.{◌≡◌, ◌≢◌, ◌⊎◌, ◌↔◌, ℕ, zero, suc, ◌<◌, List, [], ◌∷◌, length, map, Option, Some, None, option_map, slice_get, slice_set, IsSomeAnd, inl, inr, arith, sym, subst, ap, ◌∙◌, refl, length-set, get_or-set_same}
use Rattle.std.proofs.lemmas.List.{length-map, set-get_or}
use Rattle.std.proofs.lemmas.Option.{get_or_from_slice_get, none-some, same_Some, slice_get-get_or, slice_get-map, slice_get_within}
use Rattle.vnet_switch.specs.Forward.{HasAddress, PortIs}
use Rattle.vnet_switch.specs.Named.{AddressesDiffer}
use Rattle.vnet_switch.specs.PortView.{PortView}
use Rattle.vnet_switch.specs.Queues.{ChangesAt}

pub slice_get-set_same : {X : Type 0} (xs : List X) (i : ℕ) (y : X) → i < length xs
    → slice_get (slice_set xs i y) i ≡ Some y
slice_get-set_same xs i y within =
    slice_get-get_or (slice_set xs i y) i y (omega (arith, length-set xs i y))
    ∙ ap Some (get_or-set_same xs i y y within)

pub slice_get-set_other : {X : Type 0} (xs : List X) (i k : ℕ) (y : X) → k ≢ i
    → slice_get (slice_set xs i y) k ≡ slice_get xs k
slice_get-set_other [] i k y other = refl
slice_get-set_other (x ∷ xs) zero zero y other = absurd (other refl)
slice_get-set_other (x ∷ xs) zero (suc k) y other = refl
slice_get-set_other (x ∷ xs) (suc i) zero y other = refl
slice_get-set_other (x ∷ xs) (suc i) (suc k) y other = slice_get-set_other xs i k y (λ same. other (ap suc same))

-- what is there is written anew
pub set_same : {X : Type 0} (xs : List X) (i : ℕ) (x : X) → slice_get xs i ≡ Some x → slice_set xs i x ≡ xs
set_same xs i x is = ap (λ y. slice_set xs i y) (sym (get_or_from_slice_get xs i x x is)) ∙ set-get_or xs i x

pub option_map_some : {A B : Type 0} (f : A → B) (o : Option A) (y : B) → option_map f o ≡ Some y
    → (x : A) × (o ≡ Some x) × (y ≡ f x)
option_map_some f None y is = absurd (none-some y is)
option_map_some f (Some x) y is = (x, refl, sym (same_Some (f x) y is))

maps_agree : {A B C D : Type 0} (f : B → D) (g : A → B) (h : C → D) (k : A → C) (o : Option A)
    → ((x : A) → o ≡ Some x → f (g x) ≡ h (k x)) → option_map f (option_map g o) ≡ option_map h (option_map k o)
maps_agree f g h k None same = refl
maps_agree f g h k (Some x) same = ap Some (same x refl)

map_agrees : {A C : Type 0} (f h : A → C) (o : Option A) → ((x : A) → o ≡ Some x → f x ≡ h x)
    → option_map f o ≡ option_map h o
map_agrees f h None same = refl
map_agrees f h (Some x) same = ap Some (same x refl)

-- the port at a place came from one that was there
pub record Came {F : Type 0} (IsIn : ℕ → Type 0) (change : PortView F → PortView F) (old : List (PortView F)) (k : ℕ)
    (port : PortView F) : Type 0 where
  pub before : PortView F
  pub was : slice_get old k ≡ Some before
  pub is : (IsIn k × (port ≡ change before)) ⊎ (port ≡ before)

pub came : {F : Type 0} (IsIn : ℕ → Type 0) (change : PortView F → PortView F) (old new : List (PortView F))
    → ChangesAt IsIn change old new → ((k : ℕ) → IsIn k ⊎ ¬ (IsIn k)) → (k : ℕ) (port : PortView F)
    → slice_get new k ≡ Some port → Came IsIn change old k port
came {F} IsIn change old new changes decided k port is = elim (decided k) [
  | inl within ↦
      let from : (before : PortView F) × (slice_get old k ≡ Some before) × (port ≡ change before) = option_map_some
      change (slice_get old k) port (sym (changes.these k within) ∙ is) in
      record { before = from.0; was = from.1; is = inl (within, from.2) }
  | inr outside ↦ record { before = port; was = sym (changes.others k outside) ∙ is; is = inr refl }
]

-- at one place
pub changes_one : {F : Type 0} (change : PortView F → PortView F) (old : List (PortView F)) (k : ℕ)
    (port : PortView F) → slice_get old k ≡ Some port → ChangesAt (λ j. j ≡ k) change old
    (slice_set old k (change port))
changes_one change old k port is = record {
  same_length = length-set old k (change port);
  these = λ j at. subst (λ (i : ℕ). slice_get (slice_set old k (change port)) i ≡ option_map change
      (slice_get old i)) (sym at)
      (slice_get-set_same old k (change port) (slice_get_within old k port is) ∙ sym (ap (option_map change) is));
  others = λ j other. slice_get-set_other old k j (change port) other;
}

-- the same changes seen otherwise
pub changes_shown : {F G : Type 0} (IsIn : ℕ → Type 0) (change : PortView F → PortView F)
    (change_shown : PortView G → PortView G) (shown new_shown : PortView F → PortView G)
    (old new : List (PortView F)) → ChangesAt IsIn change old new
    → ((k : ℕ) (port : PortView F) → IsIn k → slice_get old k ≡ Some port
    → new_shown (change port) ≡ change_shown (shown port))
    → ((k : ℕ) (port : PortView F) → ¬ (IsIn k) → slice_get old k ≡ Some port → new_shown port ≡ shown port)
    → ChangesAt IsIn change_shown (map shown old) (map new_shown new)
changes_shown IsIn change change_shown shown new_shown old new changes these others = record {
  same_length = length-map new new_shown ∙ (changes.same_length ∙ sym (length-map old shown));
  these = λ k within.
      slice_get-map new_shown new k
      ∙ (ap (option_map new_shown) (changes.these k within)
      ∙ (maps_agree new_shown change change_shown shown (slice_get old k) (λ port is. these k port within is)
      ∙ sym (ap (option_map change_shown) (slice_get-map shown old k))));
  others = λ k outside.
      slice_get-map new_shown new k
      ∙ (ap (option_map new_shown) (changes.others k outside)
      ∙ (map_agrees new_shown shown (slice_get old k) (λ port is. others k port outside is)
      ∙ sym (slice_get-map shown old k)));
}

-- a fact about the port at a place, by its value
pub port_is : {F : Type 0} (ports : List (PortView F)) (k : ℕ) (port : PortView F) (Holds : PortView F → Type 0)
    → slice_get ports k ≡ Some port → Holds port → PortIs ports k Holds
port_is ports k port Holds is holds = subst (λ o. IsSomeAnd o Holds) (sym is) holds

pub port_holds : {F : Type 0} (ports : List (PortView F)) (k : ℕ) (port : PortView F) (Holds : PortView F → Type 0)
    → slice_get ports k ≡ Some port → PortIs ports k Holds → Holds port
port_holds ports k port Holds is holds = subst (λ o. IsSomeAnd o Holds) is holds

found : {X : Type 0} (o : Option X) (Holds : X → Type 0) → IsSomeAnd o Holds → (x : X) × (o ≡ Some x) × Holds x
found None Holds holds = absurd holds
found (Some x) Holds holds = (x, refl, holds)

pub port_found : {F : Type 0} (ports : List (PortView F)) (k : ℕ) (Holds : PortView F → Type 0)
    → PortIs ports k Holds → (port : PortView F) × (slice_get ports k ≡ Some port) × Holds port
port_found ports k Holds holds = found (slice_get ports k) Holds holds

-- what is seen of a port tells as much of it
shown_at : {A B : Type 0} (shown : A → B) (o : Option A) (Holds : A → Type 0) (HoldsShown : B → Type 0)
    → ((x : A) → Holds x ↔ HoldsShown (shown x)) → IsSomeAnd o Holds ↔ IsSomeAnd (option_map shown o) HoldsShown
shown_at shown None Holds HoldsShown same = (λ x. x, λ x. x)
shown_at shown (Some x) Holds HoldsShown same = same x

pub port_shown_is : {F G : Type 0} (shown : PortView F → PortView G) (ports : List (PortView F)) (k : ℕ)
    (Holds : PortView F → Type 0) (HoldsShown : PortView G → Type 0)
    → ((port : PortView F) → Holds port ↔ HoldsShown (shown port))
    → PortIs ports k Holds ↔ PortIs (map shown ports) k HoldsShown
port_shown_is shown ports k Holds HoldsShown same =
    subst (λ o. IsSomeAnd (slice_get ports k) Holds ↔ IsSomeAnd o HoldsShown) (sym (slice_get-map shown ports k))
    (shown_at shown (slice_get ports k) Holds HoldsShown same)

-- addresses stay apart where they stay
pub still_differ : (IsIn : ℕ → Type 0) (change : PortView ℕ → PortView ℕ) (old new : List (PortView ℕ))
    → ChangesAt IsIn change old new → ((k : ℕ) → IsIn k ⊎ ¬ (IsIn k))
    → ((port : PortView ℕ) → (change port).address ≡ port.address) → AddressesDiffer old → AddressesDiffer new
still_differ IsIn change old new changes decided keeps differ =
    let old_address : (address : List ℕ) (k : ℕ) → HasAddress new address k → HasAddress old address k =
    λ address k has.
    let port : (port : PortView ℕ) × (slice_get new k ≡ Some port) × (port.address ≡ Some address) = port_found new k
    (λ port. port.address ≡ Some address) has in
    let from : Came IsIn change old k port.0 = came IsIn change old new changes decided k port.0 port.1 in
    port_is old k from.before (λ p. p.address ≡ Some address) from.was (elim from.is [
      | inl changed ↦ sym (keeps from.before) ∙ (ap (λ (p : PortView ℕ). p.address) (sym changed.1) ∙ port.2)
      | inr same ↦ ap (λ (p : PortView ℕ). p.address) (sym same) ∙ port.2
    ]) in
    λ address j k at_j at_k. differ address j k (old_address address j at_j) (old_address address k at_k)
