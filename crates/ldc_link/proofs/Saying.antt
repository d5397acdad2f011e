-- A link puts an offered message as its parts.
use Rattle.std.proofs.Common.{◌≡◌, ℕ, zero, suc, ◌-◌, ◌<◌, ◌≤◌, Bool, true, false, List, [], ◌∷◌, ◌++◌, length, take, drop, replicate, Some, None, inl, inr, refl, sym, ap, ◌∙◌, subst, append-nil, arith, length-append, length-drop}
use Rattle.std.specs.Prelude.{Option, min, not}
use Rattle.std.proofs.Math.Nat.{min-le_left, min-le_right}
use Rattle.std.proofs.lemmas.Bool.{cases_lt, le-leb, lt-leb, lt-ltb}
use Rattle.std.proofs.lemmas.List.{drop_all, length-replicate, length-take, length-take-le, take-append-drop, take-append-le, take_all}
use Rattle.ldc_packet.specs.declared.packet.Packet.{Packet}
use Rattle.ldc_packet.specs.Form.{IsWellFormed}
use Rattle.ldc_queue.specs.Fragments.{AreFlagged, AreParts, FragmentsOf, joined}
use Rattle.ldc_queue.proofs.Cuts.{fragments_of_ends}
use Rattle.ldc_link.specs.declared.phase.LinkPhase.{LinkPhase}
use Rattle.ldc_link.specs.declared.phase.LinkPhase.TheVariants as phase
use Rattle.ldc_link.specs.Conversing.{AreData, AreFull, AreNumbered, PutsAll, carried}
use Rattle.ldc_link.specs.LinkState.{LinkState, is_established, is_up, next_number, offered}
use Rattle.ldc_link.specs.Putting.{begun_behind_put, behind_put, first_part, has_more, left_behind_put, link_puts, number_behind_put, owed_in, part_bytes, part_owed, phase_behind_put, with_link}
use Rattle.ldc_link.proofs.Parts.{padded, part_owed_more, zeros_padded}

established : (ph : LinkPhase) → is_established ph ≡ true → ph ≡ phase.Established
established phase.Established up = refl
established _ up = absurd (cc)

-- the link after the next part
pub behind_part : LinkState → LinkState
behind_part k = record k { phase = phase.Established; put_next = next_number k.put_next; to_send = drop 56 k.to_send; begun = has_more k.to_send }

puts_part : (k : LinkState) → is_up k ≡ true → 0 < length k.to_send → link_puts k ≡ Some (first_part k, behind_part k)
unfolding behind_part
puts_part k up more =
    ap (λ (ph : LinkPhase). with_link (owed_in ph k) (record k {
      phase = phase_behind_put ph;
      put_next = number_behind_put ph k.put_next;
      to_send = left_behind_put ph k.to_send;
      begun = begun_behind_put ph k.to_send k.begun;
    })) (established k.phase up)
    ∙ ap (λ (o : Option Packet). with_link o (behind_part k)) (part_owed_more k k.to_send more)

pair_of : Packet × LinkState → Option (Packet × LinkState) → Packet × LinkState
pair_of other None = other
pair_of other (Some pair) = pair

pub same_pair : (one other : Packet × LinkState) → Some one ≡ Some other → one ≡ other
unfolding pair_of
same_pair one other is = ap (pair_of one) is

-- nothing follows where nothing is left
silent : (k : LinkState) (ps : List Packet) (t : LinkState) → PutsAll (behind_part k) ps t → drop 56 k.to_send ≡ [] → ps ≡ []
unfolding behind_part
silent k [] t says left = refl
silent k (p ∷ ps) t says left =
    let nothing : with_link (part_owed (behind_part k) []) (behind_put (behind_part k)) ≡ Some (p, says.0) =
    subst (λ (xs : List ℕ). with_link (part_owed (behind_part k) xs) (behind_put (behind_part k)) ≡ Some (p, says.0)) left says.1 in
    absurd (cc)

-- the part carries the first bytes
first_bytes : (message : List ℕ) → take (min (length message) 56) (part_bytes message) ≡ take 56 message
first_bytes message =
    let long : length (take 56 message) ≡ min (length message) 56 = omega (arith, length-take 56 message) in
    take-append-le (min (length message) 56) (take 56 message) (replicate (56 - length message) 0) (omega (arith, long))
    ∙ take_all (min (length message) 56) (take 56 message) (omega (arith, long))

pub first_form : (k : LinkState) → 0 < length k.to_send → IsWellFormed (first_part k)
first_form k some = record {
  info = refl;
  some = omega arith;
  within = min-le_right (length k.to_send) 56;
  room = omega (arith, length-append (take 56 k.to_send) (replicate (56 - length k.to_send) 0), length-take 56 k.to_send, length-replicate {A = ℕ} (56 - length k.to_send) 0);
  zeros = ap (drop (min (length k.to_send) 56)) (sym (padded k.to_send (min (length k.to_send) 56) refl))
      ∙ zeros_padded (take (min (length k.to_send) 56) k.to_send) (min (length k.to_send) 56)
      (length-take-le (min (length k.to_send) 56) k.to_send (min-le_left (length k.to_send) 56));
}

-- what the parts of a message are, as a link puts them
pub record AreItsParts (first : Bool) (message : List ℕ) (n : ℕ) (ps : List Packet) : Type 0 where
  pub carries : AreData ps
  pub numbers : AreNumbered n ps
  pub bytes : message ≡ joined (carried ps)
  pub parts : AreParts (carried ps)
  pub flags : AreFlagged first (carried ps)
  pub full : AreFull (carried ps)

last_part : (k : LinkState) → 0 < length k.to_send → length k.to_send ≤ 56 → AreItsParts (not k.begun) k.to_send k.put_next (first_part k ∷ [])
last_part k some few =
    let bytes : take (min (length k.to_send) 56) (part_bytes k.to_send) ≡ k.to_send = first_bytes k.to_send ∙ take_all 56 k.to_send few in
    record {
      carries = (tt, first_form k some, tt);
      numbers = (refl, tt);
      bytes = sym bytes ∙ sym (append-nil (take (min (length k.to_send) 56) (part_bytes k.to_send)));
      parts = (omega (arith, ap length bytes), omega (arith, ap length bytes), tt);
      flags = (refl, le-leb (length k.to_send) 56 few);
      full = tt;
    }

further_part : (k : LinkState) (ps : List Packet) → 56 < length k.to_send → AreItsParts false (drop 56 k.to_send) (next_number k.put_next) ps
    → AreItsParts (not k.begun) k.to_send k.put_next (first_part k ∷ ps)
further_part k [] more rest = absurd rest.flags
further_part k (p ∷ ps) more rest =
    let bytes : take (min (length k.to_send) 56) (part_bytes k.to_send) ≡ take 56 k.to_send = first_bytes k.to_send in
    let long : length (take (min (length k.to_send) 56) (part_bytes k.to_send)) ≡ 56 = ap length bytes ∙ length-take-le 56 k.to_send (omega arith) in
    record {
      carries = (tt, first_form k (omega arith), rest.carries);
      numbers = (refl, rest.numbers);
      bytes = sym (take-append-drop 56 k.to_send) ∙ ap (λ (xs : List ℕ). xs ++ drop 56 k.to_send) (sym bytes)
          ∙ ap (λ (xs : List ℕ). take (min (length k.to_send) 56) (part_bytes k.to_send) ++ xs) rest.bytes;
      parts = (omega (arith, long), omega (arith, long), rest.parts);
      flags = (refl, lt-leb (length k.to_send) 56 more, rest.flags);
      full = (long, rest.full);
    }

says_parts : (k : LinkState) (ps : List Packet) (t : LinkState) → is_up k ≡ true → 0 < length k.to_send → PutsAll k ps t → t.to_send ≡ []
    → AreItsParts (not k.begun) k.to_send k.put_next ps
unfolding behind_part
says_parts k [] t up some says done = absurd (omega (arith, ap (λ (s : LinkState). length s.to_send) says, ap length done))
says_parts k (p ∷ ps) t up some says done =
    let pair = same_pair (first_part k, behind_part k) (p, says.0) (sym (puts_part k up some) ∙ says.1) in
    let packet : first_part k ≡ p = ap (λ (x : Packet × LinkState). x.0) pair in
    let behind : says.0 ≡ behind_part k = sym (ap (λ (x : Packet × LinkState). x.1) pair) in
    let rest : PutsAll (behind_part k) ps t = subst (λ (s : LinkState). PutsAll s ps t) behind says.2 in
    subst (λ (q : Packet). AreItsParts (not k.begun) k.to_send k.put_next (q ∷ ps)) packet
    (elim (cases_lt 56 (length k.to_send)) [
      | inl more ↦
          further_part k ps more
          (subst (λ (b : Bool). AreItsParts b (drop 56 k.to_send) (next_number k.put_next) ps) (ap not (lt-ltb 56 (length k.to_send) more))
          (says_parts (behind_part k) ps t refl (omega (arith, length-drop 56 k.to_send)) rest done))
      | inr few ↦
          subst (λ (qs : List Packet). AreItsParts (not k.begun) k.to_send k.put_next (first_part k ∷ qs))
          (sym (silent k ps t rest (drop_all 56 k.to_send few))) (last_part k some few)
    ])

pub all_said : (n : ℕ) (k : LinkState) → is_up k ≡ true → 0 < length k.to_send → length k.to_send ≤ n
    → (ps : List Packet) × (t : LinkState) × PutsAll k ps t × (t.to_send ≡ [])
unfolding behind_part
all_said zero k up some within = absurd (omega arith)
all_said (suc n) k up some within =
    elim (cases_lt 56 (length k.to_send)) [
      | inl more ↦
          let rest = all_said n (behind_part k) refl (omega (arith, length-drop 56 k.to_send)) (omega (arith, length-drop 56 k.to_send)) in
          (first_part k ∷ rest.0, rest.1, (behind_part k, puts_part k up some, rest.2), rest.3)
      | inr few ↦ (first_part k ∷ [], behind_part k, (behind_part k, puts_part k up some, refl), drop_all 56 k.to_send few)
    ]

pub said_are_parts : (k : LinkState) (message : List ℕ) (ps : List Packet) (t : LinkState) → is_up k ≡ true → 1 ≤ length message → length message ≤ 256
    → PutsAll (offered message k) ps t → t.to_send ≡ [] → AreData ps × AreNumbered k.put_next ps × FragmentsOf message (carried ps) × AreFull (carried ps)
said_are_parts k message ps t up some most says done =
    let parts = says_parts (offered message k) ps t up some says done in (
      parts.carries,
      parts.numbers,
      fragments_of_ends message (carried ps) record { most = most; bytes = parts.bytes; parts = parts.parts; flags = parts.flags },
      parts.full,
    )
