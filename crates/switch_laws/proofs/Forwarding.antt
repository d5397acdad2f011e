-- The two sets of a frame that is switched are apart, and together they are the ports that it is for. An event of one port leaves the others
-- as they were, but for that frame.
use Rattle.std.proofs.Common.{◌≡◌, ◌⊎◌, ◌↔◌, inl, inr, ℕ, zero, suc, ◌+◌, Bool, true, false, Option, Some, None, List, [], ◌∷◌, length, refl, sym, subst, ◌∙◌, arith}
use Rattle.std.specs.Prelude.{◌==◌, IsBitSet, IsSomeAnd, slice_get}
use Rattle.std.specs.Int.{bit_at}
use Rattle.std.proofs.lemmas.Bool.{cases_lt, eq-eqb, eqb-true}
use Rattle.runs.specs.Run.{Run}
use Rattle.lane_kinds.proofs.Lanes.{as_many, other_test}
use Rattle.lane_kinds.specs.Lanes.{AllStep, StepOf, own_or}
use Rattle.vnet_switch.proofs.Bits.{set_from, set_means}
use Rattle.vnet_switch.specs.Forward.{PortIs}
use Rattle.vnet_switch.specs.PortView.{PortView}
use Rattle.vnet_switch.specs.Queues.{QueueHasRoom, IsFull}
use Rattle.port_laws.specs.PortState.{PortState}
use Rattle.switch_laws.specs.Events.{OnPort, SwitchEvent, SwitchStep, Switched}
use Rattle.switch_laws.specs.Forwards.{Forwards, GoesTo, views}
use Rattle.switch_laws.specs.Ports.{gets, gift, ports}
use Rattle.switch_laws.specs.Run.{LeavesOthers, OnlyGets}

-- THE SETS
never_both : (o : Option (PortView (List ℕ))) → IsSomeAnd o QueueHasRoom → IsSomeAnd o IsFull → ⊥
never_both None room full = absurd room
never_both (Some port) room full = absurd (omega (arith, room, full))

room_or_full : (o : Option (PortView (List ℕ))) (P : PortView (List ℕ) → Type 0) → IsSomeAnd o P → IsSomeAnd o QueueHasRoom ⊎ IsSomeAnd o IsFull
room_or_full None P holds = absurd holds
room_or_full (Some port) P holds = cases_lt (length port.queue) port.room

pub sets_apart : (lanes : List PortState) (from : ℕ) (frame : List ℕ) (out full k : ℕ) → Forwards lanes from frame out full → IsBitSet out k → IsBitSet full k → ⊥
sets_apart lanes from frame out full k at one two = never_both (slice_get (views lanes) k) ((at.gets k).0 one).1 ((at.lacks k).0 two).1

in_a_set : (lanes : List PortState) (from : ℕ) (frame : List ℕ) (out full k : ℕ) → Forwards lanes from frame out full → GoesTo lanes from frame k
    → PortIs (views lanes) k QueueHasRoom ⊎ PortIs (views lanes) k IsFull → IsBitSet out k ⊎ IsBitSet full k
in_a_set lanes from frame out full k at goes (inl room) = inl ((at.gets k).1 (goes, room))
in_a_set lanes from frame out full k at goes (inr none) = inr ((at.lacks k).1 (goes, none))

pub sets_together : (lanes : List PortState) (from : ℕ) (frame : List ℕ) (out full k : ℕ) → Forwards lanes from frame out full → (IsBitSet out k ⊎ IsBitSet full k) ↔ GoesTo lanes from frame k
sets_together lanes from frame out full k at = (forth, λ goes. in_a_set lanes from frame out full k at goes (room_or_full (slice_get (views lanes) k) _ goes.1))
  where
    forth : IsBitSet out k ⊎ IsBitSet full k → GoesTo lanes from frame k
    forth (inl one) = ((at.gets k).0 one).0
    forth (inr two) = ((at.lacks k).0 two).0

pub set_full : (lanes : List PortState) (from : ℕ) (frame : List ℕ) (out full k : ℕ) → Forwards lanes from frame out full → IsBitSet full k → PortIs (views lanes) k IsFull
set_full lanes from frame out full k at two = ((at.lacks k).0 two).1

pub never_back : (lanes : List PortState) (from : ℕ) (frame : List ℕ) (out full : ℕ) → Forwards lanes from frame out full → ¬ (IsBitSet out from) × ¬ (IsBitSet full from)
never_back lanes from frame out full at = (λ one. ((at.gets from).0 one).0.0 refl, λ two. ((at.lacks from).0 two).0.0 refl)

-- EACH PORT in an event of one
same_some : {X : Type 0} (x y : X) → Some x ≡ Some y → x ≡ y
same_some {X} x y same = cc same

at_place : (i n k : ℕ) (lanes : List PortState) (event : SwitchEvent) (behind : List PortState) (s t : PortState) → AllStep ports i lanes k event behind → slice_get lanes n ≡ Some s
    → slice_get behind n ≡ Some t → Run SwitchStep s (own_or ((i + n) == k) event (gets (i + n) event)) t
at_place i n k [] event behind s t all there then_ = absurd (cc there)
at_place i n k (x ∷ lanes) event [] s t all there then_ = absurd (cc then_)
at_place i zero k (x ∷ lanes) event (y ∷ behind) s t all there then_ =
    let place : i ≡ i + 0 = omega arith in
    subst (λ (a : PortState). Run SwitchStep a (own_or ((i + 0) == k) event (gets (i + 0) event)) t) (same_some x s there)
    (subst (λ (b : PortState). Run SwitchStep x (own_or ((i + 0) == k) event (gets (i + 0) event)) b) (same_some y t then_)
    (subst (λ (j : ℕ). Run SwitchStep x (own_or (j == k) event (gets j event)) y) place all.0))
at_place i (suc n) k (x ∷ lanes) event (y ∷ behind) s t all there then_ =
    let place : i + 1 + n ≡ i + (suc n) = omega arith in
    subst (λ (j : ℕ). Run SwitchStep s (own_or (j == k) event (gets j event)) t) place (at_place (i + 1) n k lanes event behind s t all.1 there then_)

run_own : (c : Bool) (k : ℕ) (event : SwitchEvent) (s t : PortState) → c ≡ true → Run SwitchStep s (own_or c event (gets k event)) t → SwitchStep s event t
run_own true k event s t is run = subst (SwitchStep s event) run.2 run.1
run_own false k event s t is run = absurd (cc is)

gift_only : (b : Bool) (j : ℕ) (frame : List ℕ) (out full : ℕ) (s t : PortState) → (bit_at out j == 1) ≡ b → Run SwitchStep s (gift b frame) t → OnlyGets j (Switched frame out full) s t
gift_only true j frame out full s t is run = inl (set_from out j (eqb-true (bit_at out j) 1 is), sym run.2 ∙ run.1.1.2)
gift_only false j frame out full s t is run =
    inr (λ bit. (let wrong : true ≡ false = sym (eq-eqb (bit_at out j) 1 (set_means out j bit)) ∙ is in cc wrong), sym run)

run_other : (c : Bool) (j : ℕ) (event : SwitchEvent) (s t : PortState) → c ≡ false → Run SwitchStep s (own_or c event (gets j event)) t → OnlyGets j event s t
run_other true j event s t is run = absurd (cc is)
run_other false j (Switched frame out full) s t is run = gift_only (bit_at out j == 1) j frame out full s t refl run
run_other false j (OnPort event) s t is run = sym run

pub leaves_others : (k : ℕ) (lanes : List PortState) (event : SwitchEvent) (behind : List PortState) → StepOf ports k lanes event behind → LeavesOthers k lanes event behind
leaves_others k lanes event behind at = record {
  many = as_many ports 0 k lanes event behind at.step;
  own = λ s t there then_. run_own ((0 + k) == k) (0 + k) event s t (eq-eqb (0 + k) k (omega arith)) (at_place 0 k k lanes event behind s t at.step there then_);
  others = λ j s t other there then_.
      subst (λ (i : ℕ). OnlyGets i event s t) zero_first (run_other ((0 + j) == k) (0 + j) event s t (other_test (0 + j) k (λ same. other (omega (arith, same)))) (at_place 0 j k lanes event behind s t at.step there then_));
}
  where
    zero_first : {j : ℕ} → 0 + j ≡ j
    zero_first {j} = omega arith
