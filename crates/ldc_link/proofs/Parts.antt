-- The parts of a message that is sent.
use Rattle.std.proofs.Common.{◌≡◌, ℕ, ◌+◌, ◌-◌, ◌<◌, Bool, List, [], ◌∷◌, ◌++◌, length, take, drop, replicate, Some, inl, inr, refl, sym, ap, ◌∙◌, arith, length-drop}
use Rattle.std.specs.Prelude.{min}
use Rattle.std.proofs.Math.Nat.{min-eq_left, min-eq_right}
use Rattle.std.proofs.lemmas.Bool.{cases_lt}
use Rattle.std.proofs.lemmas.List.{drop-drop, drop-replicate, drop_all, drop_at, take_all}
use Rattle.ldc_link.specs.LinkState.{LinkState}
use Rattle.ldc_link.specs.Putting.{first_part, part_bytes, part_owed}

-- the first bytes of a message over zeros
pub padded : (message : List ℕ) (len : ℕ) → len ≡ min (length message) 56 → take len message ++ drop len (replicate 56 0) ≡ part_bytes message
padded message len is =
    elim (cases_lt 56 (length message)) [
      | inl more ↦
          let all : len ≡ 56 = is ∙ min-eq_right (omega (arith, more)) in
          let none : 56 - length message ≡ 0 = omega (arith, more) in
          ap (λ (n : ℕ). take n message ++ drop n (replicate 56 0)) all ∙ ap (λ (n : ℕ). take 56 message ++ replicate n 0) (sym none)
      | inr few ↦
          let all : len ≡ length message = is ∙ min-eq_left few in
          ap (λ (n : ℕ). take n message ++ drop n (replicate 56 0)) all
          ∙ ap (λ (xs : List ℕ). xs ++ drop (length message) (replicate 56 0)) (take_all (length message) message (omega arith) ∙ sym (take_all 56 message few))
          ∙ ap (λ (xs : List ℕ). take 56 message ++ xs) (drop-replicate (length message) 56 0)
    ]

pub zeros_padded : (part : List ℕ) (len : ℕ) → length part ≡ len → drop len (part ++ drop len (replicate 56 0)) ≡ replicate (56 - len) 0
zeros_padded part len long = drop_at part (drop len (replicate 56 0)) len long ∙ drop-replicate len 56 0

-- what is left after a part
pub left_behind : (message : List ℕ) (sent left : ℕ) → sent + left ≡ length message → drop (sent + min left 56) message ≡ drop 56 (drop sent message)
left_behind message sent left is =
    elim (cases_lt 56 left) [
      | inl more ↦ ap (λ (n : ℕ). drop (sent + n) message) (min-eq_right (omega (arith, more))) ∙ sym (drop-drop 56 sent message)
      | inr few ↦
          drop_all (sent + min left 56) message (omega (arith, min-eq_left few, is))
          ∙ sym (drop_all 56 (drop sent message) (omega (arith, length-drop sent message, is, few)))
    ]

pub same_parts : (k : LinkState) (xs ys : List ℕ) (b d : Bool) → xs ≡ ys → b ≡ d
    → (record k { to_send = xs; begun = b }) ≡ (record k { to_send = ys; begun = d })
same_parts k xs ys b d left begun =
    ap (λ (zs : List ℕ). record k { to_send = zs; begun = b }) left ∙ ap (λ (e : Bool). record k { to_send = ys; begun = e }) begun

-- something is left
pub not_sent : (message : List ℕ) (sent : ℕ) → sent < length message → drop sent message ≡ [] → ⊥
not_sent message sent more none = absurd (omega (arith, more, length-drop sent message, ap length none))

pub part_owed_more : (k : LinkState) (message : List ℕ) → 0 < length message → part_owed k message ≡ Some (first_part k)
part_owed_more k [] some = absurd (omega arith)
part_owed_more k (byte ∷ message) some = refl
