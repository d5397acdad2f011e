-- A slot that changes leaves the others in their order.
use Rattle.std.proofs.Common.{◌≡◌, ◌≢◌, ℕ, ◌+◌, ◌-◌, ◌%◌, ◌<◌, ◌≤◌, inl, inr, List, length, set, replicate, Some, sym, ap, ◌∙◌, subst, arith}
use Rattle.std.specs.Prelude.{slice_get}
use Rattle.std.proofs.lemmas.Nat.{mod_below}
use Rattle.std.proofs.Math.Nat.{add-mod_right}
use Rattle.lane_models.proofs.Apart.{some_same}
use Rattle.lane_laws.specs.RingLog.{Accepted, Done, Free, Ready, SlotLog}
use Rattle.lane_laws.proofs.RingTable.{free_entry, got_other, got_same, same_or_other}
use Rattle.lane_laws.specs.SlotsInOrder.{SlotOf, SlotsOf}

-- two numbers of one turn in one slot are one
pub same_number : (n lo a b : ℕ) → lo ≤ a → a < lo + n → lo ≤ b → b < lo + n → a % n ≡ b % n → a ≡ b
same_number n lo a b la ua lb ub same = grind arith

entry_is : (ring : List SlotLog) (k : ℕ) (e is : SlotLog) → k < length ring → slice_get (set ring k e) k ≡ Some is → is ≡ e
entry_is ring k e is below got = let both : Some e ≡ Some is = sym (got_same ring k e below) ∙ got in let here : e ≡ is = some_same both in sym here

-- the slot of a number of the turn is set
pub set_slots : (n done base a : ℕ) (P Q : ℕ → SlotLog → Type 0) (ring : List SlotLog) (e : SlotLog) → length ring ≡ n → done ≤ base + a → base + a < done + n → base ≤ done
    → ((j : ℕ) (is : SlotLog) → done ≤ base + j → base + j < done + n → slice_get ring (j % n) ≡ Some is → P j is)
    → ((j : ℕ) (is : SlotLog) → j ≢ a → P j is → Q j is) → Q a e
    → (j : ℕ) (is : SlotLog) → done ≤ base + j → base + j < done + n → slice_get (set ring (a % n) e) (j % n) ≡ Some is → Q j is
set_slots n done base a P Q ring e long since below based each keeps here j is lo hi got =
    let within : a % n < length ring = omega (arith, mod_below a n (omega (arith, since, below)), long) in
    elim (same_or_other j a) [
      | inl same ↦
          let at : slice_get (set ring (a % n) e) (a % n) ≡ Some is = subst (λ (x : ℕ). slice_get (set ring (a % n) e) (x % n) ≡ Some is) same got in
          subst (λ (x : ℕ). Q x is) (sym same) (subst (Q a) (sym (entry_is ring (a % n) e is within at)) here)
      | inr other ↦
          let apart : j % n ≢ a % n = λ same. other (same_number n (done - base) j a (omega (arith, lo, based)) (omega (arith, hi, based)) (omega (arith, since, based)) (omega (arith, below, based)) same) in
          keeps j is other (each j is lo hi (sym (got_other ring (a % n) (j % n) e apart) ∙ got))
    ]

-- PUBLISHED
publish_of : (base announced published finished descs j : ℕ) (is : SlotLog) → j ≢ published → SlotOf base announced published finished descs j is
    → SlotOf base announced (published + 1) finished descs j is
publish_of base announced published finished descs j is other of = grind arith

new_ready : (base announced published finished descs id : ℕ) → finished ≤ descs → descs ≤ announced → announced ≤ published → id ≡ base + published
    → SlotOf base announced (published + 1) finished descs published (Ready id)
new_ready base announced published finished descs id first fetched told is = grind arith

pub published_slots : (n done base announced published finished descs id : ℕ) (ring : List SlotLog) → length ring ≡ n → base ≤ done → done ≤ base + published → base + published < done + n
    → id ≡ base + published → SlotsOf n done base announced published finished descs ring → SlotsOf n done base announced (published + 1) finished descs (set ring (published % n) (Ready id))
published_slots n done base announced published finished descs id ring long based since below is slots = record {
  done_first = slots.done_first;
  finished_first = slots.finished_first;
  one = slots.one;
  descs_first = slots.descs_first;
  announced_first = omega (arith, slots.announced_first);
  each = set_slots n done base published (SlotOf base announced published finished descs) (SlotOf base announced (published + 1) finished descs) ring (Ready id) long since below based slots.each
      (publish_of base announced published finished descs) (new_ready base announced published finished descs id slots.finished_first slots.descs_first slots.announced_first is);
}

-- ANNOUNCED: the published ones up to a number
announce_of : (base announced published finished descs more j : ℕ) (is : SlotLog) → announced ≤ more → more ≤ published → descs ≤ announced → SlotOf base announced published finished descs j is
    → SlotOf base more published finished descs j is
announce_of base announced published finished descs more j is least most fetched of = grind arith

pub announced_slots : (n done base announced published finished descs more : ℕ) (ring : List SlotLog) → announced ≤ more → more ≤ published
    → SlotsOf n done base announced published finished descs ring → SlotsOf n done base more published finished descs ring
announced_slots n done base announced published finished descs more ring least most slots = record {
  done_first = slots.done_first;
  finished_first = slots.finished_first;
  one = slots.one;
  descs_first = omega (arith, slots.descs_first, least);
  announced_first = most;
  each = λ j is lo hi got. announce_of base announced published finished descs more j is least most slots.descs_first (slots.each j is lo hi got);
}

-- FETCHED
fetch_of : (base announced published descs j : ℕ) (is : SlotLog) → j ≢ descs → SlotOf base announced published descs descs j is → SlotOf base announced published descs (descs + 1) j is
fetch_of base announced published descs j is other of = grind arith

new_accepted : (base announced published descs id : ℕ) → descs < announced → announced ≤ published → id ≡ base + descs → SlotOf base announced published descs (descs + 1) descs (Accepted id)
new_accepted base announced published descs id more told is = grind arith

pub fetched_slots : (n done base announced published descs id : ℕ) (ring : List SlotLog) → length ring ≡ n → base ≤ done → base + published ≤ done + n → descs < announced → id ≡ base + descs
    → SlotsOf n done base announced published descs descs ring → SlotsOf n done base announced published descs (descs + 1) (set ring (descs % n) (Accepted id))
fetched_slots n done base announced published descs id ring long based turn more is slots = record {
  done_first = slots.done_first;
  finished_first = omega arith;
  one = omega arith;
  descs_first = omega (arith, more);
  announced_first = slots.announced_first;
  each = set_slots n done base descs (SlotOf base announced published descs descs) (SlotOf base announced published descs (descs + 1)) ring (Accepted id) long slots.done_first
      (omega (arith, turn, more, slots.announced_first)) based slots.each (fetch_of base announced published descs) (new_accepted base announced published descs id more slots.announced_first is);
}

-- FINISHED
finish_of : (base announced published finished j : ℕ) (is : SlotLog) → j ≢ finished → SlotOf base announced published finished (finished + 1) j is
    → SlotOf base announced published (finished + 1) (finished + 1) j is
finish_of base announced published finished j is other of = grind arith

new_done : (base announced published finished id status : ℕ) → finished < announced → announced ≤ published → id ≡ base + finished
    → SlotOf base announced published (finished + 1) (finished + 1) finished (Done id status)
new_done base announced published finished id status more told is = grind arith

pub finished_slots : (n done base announced published finished id status : ℕ) (ring : List SlotLog) → length ring ≡ n → base ≤ done → base + published ≤ done + n → id ≡ base + finished
    → SlotsOf n done base announced published finished (finished + 1) ring → SlotsOf n done base announced published (finished + 1) (finished + 1) (set ring (finished % n) (Done id status))
finished_slots n done base announced published finished id status ring long based turn is slots =
    let more : finished < announced = omega (arith, slots.descs_first) in
    record {
      done_first = omega (arith, slots.done_first);
      finished_first = omega arith;
      one = omega arith;
      descs_first = slots.descs_first;
      announced_first = slots.announced_first;
      each = set_slots n done base finished (SlotOf base announced published finished (finished + 1)) (SlotOf base announced published (finished + 1) (finished + 1)) ring (Done id status) long
          slots.done_first (omega (arith, turn, more, slots.announced_first)) based slots.each (finish_of base announced published finished)
          (new_done base announced published finished id status more slots.announced_first is);
    }

-- COMPLETED: the first slot becomes the last
pub finished_more : (base announced published finished descs j id status : ℕ) (is : SlotLog) → is ≡ Done id status → SlotOf base announced published finished descs j is → j < finished
finished_more base announced published finished descs j id status is done of = grind arith

freed : (base announced published finished descs j : ℕ) → finished ≤ descs → descs ≤ announced → announced ≤ published → published ≤ j → SlotOf base announced published finished descs j Free
freed base announced published finished descs j first fetched told past = grind arith

pub completed_slots : (n done base announced published finished descs : ℕ) (ring : List SlotLog) → length ring ≡ n → 1 ≤ n → base ≤ done → base + published ≤ done + n → done < base + finished
    → SlotsOf n done base announced published finished descs ring → SlotsOf n (done + 1) base announced published finished descs (set ring ((done - base) % n) Free)
completed_slots n done base announced published finished descs ring long some based turn more slots = record {
  done_first = omega (arith, more);
  finished_first = slots.finished_first;
  one = slots.one;
  descs_first = slots.descs_first;
  announced_first = slots.announced_first;
  each = λ j is lo hi got. elim (same_or_other j (done - base + n)) [
    | inl last ↦
        let slot : j % n ≡ (done - base) % n = ap (λ (x : ℕ). x % n) last ∙ add-mod_right (done - base) n in
        let at : slice_get (set ring ((done - base) % n) Free) ((done - base) % n) ≡ Some is = subst (λ (x : ℕ). slice_get (set ring ((done - base) % n) Free) x ≡ Some is) slot got in
        let free : is ≡ Free = entry_is ring ((done - base) % n) Free is (omega (arith, mod_below (done - base) n some, long)) at in
        subst (SlotOf base announced published finished descs j) (sym free)
        (freed base announced published finished descs j slots.finished_first slots.descs_first slots.announced_first (omega (arith, last, turn, based)))
    | inr other ↦
        let apart : j % n ≢ (done - base) % n =
        λ same. absurd (omega (arith, lo, same_number n (done - base) j (done - base) (omega (arith, lo, based)) (omega (arith, hi, other, based)) (omega arith) (omega (arith, some)) same, based)) in
        slots.each j is (omega (arith, lo)) (omega (arith, hi, other, based)) (sym (got_other ring ((done - base) % n) (j % n) Free apart) ∙ got)
  ];
}

-- CLEARED
pub cleared_slots : (n done : ℕ) → SlotsOf n done done 0 0 0 0 (replicate n Free)
cleared_slots n done = grind (arith, free_entry)
