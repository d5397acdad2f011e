-- The switch's end learns a guest's groups as the guest tells them: each list goes on from the one before, and repeats none.
use Rattle.std.proofs.Common.{◌≡◌, ℕ, suc, ◌≤◌, Bool, true, false, Some, List, [], ◌∷◌, ◌++◌, length, drop, refl, sym, subst, ap, ◌∙◌, arith, append_assoc}
use Rattle.std.specs.Prelude.{take, if◌then◌else◌, ⊤}
use Rattle.std.proofs.lemmas.Bool.{le-leb}
use Rattle.std.proofs.lemmas.List.{append-nil, length-take, take-append-drop}
use Rattle.lane_models.proofs.GroupSets.{same_address}
use Rattle.lane_models.specs.Groups.{groups_after, is_in, with_groups}
use Rattle.lane_models.specs.Spoken.{addresses_of, count_of, set_of, seven_of}
use Rattle.port_laws.proofs.Outbox.{TellsSome}

-- NONE IS REPEATED behind those that came first
abbrev pub Fresh : List (List ℕ) → List (List ℕ) → Type 0
Fresh first [] = ⊤
Fresh first (address ∷ rest) = (is_in first address ≡ false) × Fresh (first ++ address ∷ []) rest

pub fresh_more : (first rest : List (List ℕ)) (address : List ℕ) → Fresh first rest → is_in (first ++ rest) address ≡ false → Fresh first (rest ++ address ∷ [])
fresh_more first [] address fresh is = (subst (λ (xs : List (List ℕ)). is_in xs address ≡ false) (append-nil first) is, tt)
fresh_more first (one ∷ rest) address fresh is =
    (fresh.0, fresh_more (first ++ one ∷ []) rest address fresh.1 (subst (λ (xs : List (List ℕ)). is_in xs address ≡ false) (sym (append_assoc first (one ∷ []) rest)) is))

fresh_front : (first xs ys : List (List ℕ)) → Fresh first (xs ++ ys) → Fresh first xs
fresh_front first [] ys fresh = tt
fresh_front first (x ∷ xs) ys fresh = (fresh.0, fresh_front (first ++ x ∷ []) xs ys fresh.1)

fresh_past : (first xs ys : List (List ℕ)) → Fresh first (xs ++ ys) → Fresh (first ++ xs) ys
fresh_past first [] ys fresh = subst (λ (zs : List (List ℕ)). Fresh zs ys) (sym (append-nil first)) fresh
fresh_past first (x ∷ xs) ys fresh = subst (λ (zs : List (List ℕ)). Fresh zs ys) (append_assoc first (x ∷ []) xs) (fresh_past (first ++ x ∷ []) xs ys fresh.1)

-- THOSE THAT ARE KNOWN stay, and others are added in order
in_it : (xs : List (List ℕ)) (address : List ℕ) (ys : List (List ℕ)) → is_in (xs ++ address ∷ ys) address ≡ true
in_it [] address ys = grind (arith, same_address)
in_it (x ∷ xs) address ys = grind (arith, in_it xs address ys)

with_known : (done rest : List (List ℕ)) → with_groups (done ++ rest) rest ≡ done ++ rest
with_known done [] = refl
with_known done (address ∷ rest) =
    grind (arith, with_known (done ++ address ∷ []) rest, append_assoc done (address ∷ []) rest, in_it)

with_fresh : (first rest : List (List ℕ)) → Fresh first rest → with_groups first rest ≡ first ++ rest
with_fresh first [] fresh = sym (append-nil first)
with_fresh first (address ∷ rest) fresh =
    ap (λ (b : Bool). with_groups (if b then first else first ++ address ∷ []) rest) fresh.0 ∙ with_fresh (first ++ address ∷ []) rest fresh.1 ∙ append_assoc first (address ∷ []) rest

with_both : (groups xs ys : List (List ℕ)) → with_groups groups (xs ++ ys) ≡ with_groups (with_groups groups xs) ys
with_both groups [] ys = refl
with_both groups (x ∷ xs) ys = with_both (if is_in groups x then groups else groups ++ x ∷ []) xs ys

learns_all : (xs ys : List (List ℕ)) → Fresh [] (xs ++ ys) → with_groups xs (xs ++ ys) ≡ xs ++ ys
learns_all xs ys fresh = with_both xs xs ys ∙ ap (λ (zs : List (List ℕ)). with_groups zs ys) (with_known [] xs) ∙ with_fresh xs ys (fresh_past [] xs ys fresh)

take_less : (k n : ℕ) (xs : List (List ℕ)) → k ≤ n → take k (take n xs) ≡ take k xs
take_less (suc k) (suc n) [] few = refl
take_less (suc k) (suc n) (x ∷ xs) few = ap (λ (ys : List (List ℕ)). x ∷ ys) (take_less k n xs (omega (arith, few)))
take_less k n xs few = grind arith

learns_front : (groups known : List (List ℕ)) (many : ℕ) → Fresh [] groups → known ≡ take (length known) groups → length known ≤ many → with_groups known (take many groups) ≡ take many groups
learns_front groups known many fresh front few =
    let told = take many groups in
    let first : take (length known) told ≡ known = take_less (length known) many groups few ∙ sym front in
    let both : told ≡ known ++ drop (length known) told =
    sym (take-append-drop (length known) told) ∙ ap (λ (xs : List (List ℕ)). xs ++ drop (length known) told) first in
    let told_fresh : Fresh [] told = fresh_front [] told (drop many groups) (subst (Fresh []) (sym (take-append-drop many groups)) fresh) in
    ap (with_groups known) both ∙ learns_all known (drop (length known) told) (subst (Fresh []) both told_fresh) ∙ sym both

-- so what a guest tells is known then
pub learnt : (groups known : List (List ℕ)) (m : List ℕ) → Fresh [] groups → known ≡ take (length known) groups → TellsSome groups (length known) m
    → groups_after (set_of m) (count_of m) (seven_of m) known ≡ Some (addresses_of m)
learnt groups known m fresh front tells = grind (arith, learns_front, length-take, le-leb)
