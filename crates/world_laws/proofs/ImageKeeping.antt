-- Bytes of an image that stay before a place and after another.
use Rattle.std.proofs.Common.{◌≡◌, ◌⊎◌, ℕ, ◌+◌, ◌-◌, ◌*◌, ◌<◌, ◌≤◌, Some, List, drop, take, get_or, slice_index, inl, inr, sym, ap, ◌∙◌, arith}
use Rattle.std.proofs.lemmas.List.{drop-drop, get_or-drop, get_or-take, take-take}
use Rattle.vio_bytes.proofs.Ranges.{range_at-take}
use Rattle.vio_bytes.specs.Range.{range_at}
use Rattle.lane_models.specs.LaneState.{Shape}
use Rattle.lane_laws.specs.ImageStep.{SameAround, region_of}

-- what is told is one list
pub some_is : {X : Type 0} (x y : X) → Some x ≡ Some y → x ≡ y
some_is x y is = cc is

-- a shorter front, and what lies further after
pub front_of : (m at : ℕ) (xs ys : List ℕ) → m ≤ at → take at xs ≡ take at ys → take m xs ≡ take m ys
front_of m at xs ys within same = sym (take-take m at xs within) ∙ ap (λ (zs : List ℕ). take m zs) same ∙ take-take m at ys within

pub further : (p q : ℕ) (xs ys : List ℕ) → p ≤ q → drop p xs ≡ drop p ys → drop q xs ≡ drop q ys
further p q xs ys behind same =
    let place : q ≡ p + (q - p) = omega (arith, behind) in
    ap (λ (n : ℕ). drop n xs) place ∙ sym (drop-drop (q - p) p xs) ∙ ap (λ (zs : List ℕ). drop (q - p) zs) same ∙ drop-drop (q - p) p ys ∙ ap (λ (n : ℕ). drop n ys) (sym place)

-- a byte of what stays
pub byte_before : (place at : ℕ) (xs ys : List ℕ) → place < at → take at xs ≡ take at ys → slice_index xs place ≡ slice_index ys place
byte_before place at xs ys below same = grind (arith, get_or, get_or-take)

pub byte_behind : (place at : ℕ) (xs ys : List ℕ) → at ≤ place → drop at xs ≡ drop at ys → slice_index xs place ≡ slice_index ys place
byte_behind place at xs ys behind same =
    let here : at + (place - at) ≡ place = omega (arith, behind) in
    let one : get_or (drop at xs) (place - at) 0 ≡ get_or xs (at + (place - at)) 0 = get_or-drop at xs (place - at) 0 in
    let two : get_or (drop at ys) (place - at) 0 ≡ get_or ys (at + (place - at)) 0 = get_or-drop at ys (place - at) 0 in
    ap (λ (i : ℕ). get_or xs i 0) (sym here) ∙ sym one ∙ ap (λ (zs : List ℕ). get_or zs (place - at) 0) same ∙ two ∙ ap (λ (i : ℕ). get_or ys i 0) here

-- a region apart from one around which all stays
pub region_apart : (shape other : Shape) (store new : List ℕ) → SameAround shape store new
    → (shape.first + shape.blocks ≤ other.first) ⊎ (other.first + other.blocks ≤ shape.first) → region_of other new ≡ region_of other store
region_apart shape other store new same (inl behind) =
    ap (λ (zs : List ℕ). take (512 * other.blocks) zs) (further (512 * (shape.first + shape.blocks)) (512 * other.first) new store (omega (arith, behind)) same.behind)
region_apart shape other store new same (inr before) =
    let within : 512 * other.first + 512 * other.blocks ≤ 512 * shape.first = omega (arith, before) in
    sym (range_at-take (512 * other.first) (512 * other.blocks) (512 * shape.first) new within)
    ∙ ap (λ (zs : List ℕ). range_at (512 * other.first) (512 * other.blocks) zs) same.before
    ∙ range_at-take (512 * other.first) (512 * other.blocks) (512 * shape.first) store within
