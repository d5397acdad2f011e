-- Fields in rising order lie apart.
use Rattle.std.proofs.Common.{ℕ, suc, zero, ◌+◌, ◌<◌, ◌≤◌, List, [], ◌∷◌, length, get_or, drop, subst, arith}
use Rattle.std.proofs.lemmas.List.{drop_more}
use Rattle.vio_bytes.specs.Layout.{AreApart, AreInOrder, IsFieldWidth, IsSoundTable, end_of}

-- what is in order from a place on ends within the length, so that place does too
pub starts_within : (from : ℕ) (fields : List (ℕ × ℕ)) (len : ℕ) → AreInOrder from fields len → from ≤ len
starts_within from [] len order = order
starts_within from (field ∷ fields) len order =
    let rest = starts_within (field.0 + field.1) fields len order.2 in omega (arith, order.1)

-- each field begins at or after the place from which on they are in order
begins_after : (from : ℕ) (fields : List (ℕ × ℕ)) (len k : ℕ) → AreInOrder from fields len → k < length fields
    → from ≤ (get_or fields k (0, 0)).0
begins_after from [] len k order below = absurd (omega arith)
begins_after from (field ∷ fields) len zero order below = order.1
begins_after from (field ∷ fields) len (suc k) order below =
    let rest = begins_after (field.0 + field.1) fields len k order.2 (omega arith) in omega (arith, order.1)

-- each field ends within the length
ends_within : (from : ℕ) (fields : List (ℕ × ℕ)) (len k : ℕ) → AreInOrder from fields len → k < length fields
    → end_of fields k ≤ len
ends_within from [] len k order below = absurd (omega arith)
ends_within from (field ∷ fields) len zero order below = starts_within (field.0 + field.1) fields len order.2
ends_within from (field ∷ fields) len (suc k) order below = ends_within (field.0 + field.1) fields len k order.2 (omega arith)

-- a field ends where a later one begins or before
ends_before : (from : ℕ) (fields : List (ℕ × ℕ)) (len i k : ℕ) → AreInOrder from fields len → i < k → k < length fields
    → end_of fields i ≤ (get_or fields k (0, 0)).0
ends_before from [] len i k order lt below = absurd (omega arith)
ends_before from (field ∷ fields) len i zero order lt below = absurd (omega arith)
ends_before from (field ∷ fields) len zero (suc k) order lt below = begins_after (field.0 + field.1) fields len k order.2 (omega arith)
ends_before from (field ∷ fields) len (suc i) (suc k) order lt below = ends_before (field.0 + field.1) fields len i k order.2 (omega arith) (omega arith)

-- the fields of a sound table lie apart
pub sound_apart : (fields : List (ℕ × ℕ)) (len : ℕ) → IsSoundTable fields len → AreApart fields len
sound_apart fields len sound = record {
  apart = λ i k. ends_before 0 fields len i k sound;
  within = λ k. ends_within 0 fields len k sound;
}

-- the next field of those that are in order
pub next_in_order : (from : ℕ) (fields : List (ℕ × ℕ)) (len k : ℕ) (d : ℕ × ℕ) → k < length fields
    → AreInOrder from (drop k fields) len
    → IsFieldWidth (get_or fields k d).1 × (from ≤ (get_or fields k d).0) × ((get_or fields k d).0 + (get_or fields k d).1 ≤ len)
next_in_order from fields len k d below order =
    let field : ℕ × ℕ = get_or fields k d in
    let here : AreInOrder from (field ∷ drop (k + 1) fields) len =
    subst (λ (fs : List (ℕ × ℕ)). AreInOrder from fs len) (drop_more fields k d below) order in
    (here.0, here.1, starts_within (field.0 + field.1) (drop (k + 1) fields) len here.2)
