-- What can't be, each a lemma of its own: in place, a tactic would read all that is in scope.
use Rattle.std.proofs.Common.{◌≡◌, Bool, true, false, Option, Some, None, refl, sym, ap, ◌∙◌}
use Rattle.ldc_link.specs.declared.phase.Role.{Role}
use Rattle.ldc_link.specs.declared.phase.Role.TheVariants.{Initiator, Responder}
use Rattle.ldc_queue.specs.declared.end.End.TheVariants.{A, B}
use Rattle.vio_handshake.specs.declared.handshake.Phase.{Phase}
use Rattle.vio_handshake.specs.declared.handshake.Phase.TheVariants.{PeerRingTaken}

pub true_is_false : {X : Type 0} → true ≡ false → X
true_is_false {X} is = absurd (cc is)

pub false_is_true : {X : Type 0} → false ≡ true → X
false_is_true {X} is = absurd (cc is)

pub none_is_some : {X T : Type 0} {x : T} → None ≡ Some x → X
none_is_some {X} {T} {x} is = absurd (cc is)

pub roles_differ : {X : Type 0} → Initiator ≡ Responder → X
roles_differ {X} is = absurd (cc is)

-- phases of a handshake: not the last, and not that in which a ring was taken
abbrev pub is_ring_taken : Phase → Bool
is_ring_taken PeerRingTaken = true
is_ring_taken _ = false

pub not_taken : {X : Type 0} {p : Phase} → p ≡ PeerRingTaken → is_ring_taken p ≡ false → X
not_taken {X} {p} is not = true_is_false (sym (ap is_ring_taken is) ∙ not)

-- an end that isn't the one whose turn it is
abbrev pub is_turn : Role → Option Role → Bool
is_turn Initiator (Some Initiator) = true
is_turn Responder (Some Responder) = true
is_turn _ _ = false

own_turn : (r : Role) → is_turn r (Some r) ≡ true
own_turn Initiator = refl
own_turn Responder = refl

pub not_turn : {X : Type 0} {o : Option Role} {r : Role} → o ≡ Some r → is_turn r o ≡ false → X
not_turn {X} {o} {r} is not = true_is_false (sym (ap (is_turn r) is ∙ own_turn r) ∙ not)

pub some_is_none : {X T : Type 0} {x : T} → Some x ≡ None → X
some_is_none {X} {T} {x} is = absurd (cc is)

-- and what two equal options hold
pub some_same : {T : Type 0} {x y : T} → Some x ≡ Some y → x ≡ y
some_same {T} {x} {y} is = cc is

pub ends_differ : {X : Type 0} → A ≡ B → X
ends_differ {X} is = absurd (cc is)
