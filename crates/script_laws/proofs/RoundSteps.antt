-- The entries of a round are the steps of all ends in order, less the silent ones; and as they are told they are the same.
use Rattle.std.proofs.Common.{◌≡◌, ℕ, zero, suc, ◌+◌, List, [], ◌∷◌, ◌++◌, length, map, refl, ap, ◌∙◌, arith, append_assoc}
use Rattle.ldc_queue.specs.declared.end.End.{End}
use Rattle.lane_kinds.specs.Both.{Two}
use Rattle.lane_kinds.specs.Lanes.{Entries, LaneKind, MakeTurns, round_entries, turn_entries}
use Rattle.world_parts.specs.lane_models.LaneState.{LaneState}
use Rattle.world_parts.specs.lane_models.PortState.{PortState}
use Rattle.world_parts.specs.switch_laws.Events.{SwitchEvent}
use Rattle.world_parts.specs.switch_laws.Ports.{IsStepOf, ports}
use Rattle.world_parts.specs.world_laws.DiskKind.{disk_kind}
use Rattle.world_parts.specs.world_laws.Rounds.{LaneRound}
use Rattle.world_parts.specs.world_laws.Settle.{OfLane, OfPort, SettleEntry}
use Rattle.world_parts.proofs.domain_laws.LineEntries.{EachEntry, StepsHave, disks_each, each_both, ports_each}
use Rattle.world_parts.specs.domain_laws.Domain.{Lanes, lanes}
use Rattle.world_parts.specs.domain_laws.Lines.{AreSteps, DiskLane, EndTurn, PortLane, both_ends, lanes_from}
use Rattle.world_parts.specs.WorldEvents.{told_of}
use Rattle.script_laws.proofs.Untold.{all_told}
use Rattle.script_laws.specs.LastRounds.{IsRound, kept_steps, leaves_none}

-- ALL STEPS of turns, from the lane with this number on
all_steps : {V : Type 0} → (ℕ → V → SettleEntry) → ℕ → List (List V) → List SettleEntry
all_steps of k [] = []
all_steps of k (r ∷ turns) = map (of k) r ++ all_steps of (k + 1) turns

disk_steps : (k n : ℕ) (w : List LaneState) (turns : List LaneRound) (v : List LaneState) → MakeTurns disk_kind k w turns v
    → length turns ≡ n → AreSteps (both_ends (lanes_from DiskLane k n)) (all_steps OfLane k turns)
unfolding all_steps
disk_steps k zero w [] v made many = tt
disk_steps k (suc n) w ((one ∷ two ∷ []) ∷ turns) v made many =
    ((refl, made.1.of_turn.0), ((refl, made.1.of_turn.1), disk_steps (k + 1) n made.0 turns v made.2 (omega (arith, many))))
disk_steps k n w turns v made many = grind arith

port_steps : (k n : ℕ) (w : List PortState) (turns : List (List SwitchEvent)) (v : List PortState) → MakeTurns ports k w turns v
    → length turns ≡ n → AreSteps (both_ends (lanes_from PortLane k n)) (all_steps OfPort k turns)
unfolding all_steps
port_steps k zero w [] v made many = tt
port_steps k (suc n) w ((one ∷ two ∷ []) ∷ turns) v made many =
    ((refl, made.1.of_turn.0), ((refl, made.1.of_turn.1), port_steps (k + 1) n made.0 turns v made.2 (omega (arith, many))))
port_steps k n w turns v made many = grind arith

both_steps : (one two : List EndTurn) (first second : List SettleEntry) → AreSteps one first → AreSteps two second
    → AreSteps (one ++ two) (first ++ second)
both_steps (next ∷ one) two (entry ∷ first) second are more = (are.0, both_steps one two first second are.1 more)
both_steps one two first second are more = grind arith

-- THOSE THAT ARE KEPT
kept_both : (one two : List SettleEntry) → kept_steps (one ++ two) ≡ kept_steps one ++ kept_steps two
kept_both (entry ∷ one) two = grind (arith, append_assoc, kept_both one two)
kept_both one two = grind arith

module _ {S V : Type 0} (K : LaneKind S V) (N : Entries V SettleEntry)
    (silent : (k : ℕ) (event : V) → leaves_none (N.of_lane k event) ≡ K.is_silent event) where
  turn_kept : (k : ℕ) (events : List V) → kept_steps (map (N.of_lane k) events) ≡ turn_entries K N k events
  turn_kept k (event ∷ events) = grind (arith, turn_kept k events)
  turn_kept k events = grind arith

  turns_kept : (k : ℕ) (turns : List (List V)) → kept_steps (all_steps N.of_lane k turns) ≡ round_entries K N k turns
  unfolding all_steps
  turns_kept k [] = refl
  turns_kept k (r ∷ turns) = grind (arith, kept_both, all_steps, turn_kept, turns_kept (k + 1) turns)

pub is_round : (w : Lanes) (r : Two (List LaneRound) (List (List SwitchEvent))) (v : Lanes) (n m : ℕ) → lanes.Makes w r v
    → length w.first ≡ n → length w.second ≡ m → IsRound n m (lanes.leaves r)
is_round w r v n m made disks_are ports_are =
    let one : List SettleEntry = all_steps OfLane 0 r.first in
    let two : List SettleEntry = all_steps OfPort 0 r.second in
    record {
      steps = one ++ two;
      are = grind (arith, all_steps, both_steps, disk_steps, port_steps, turns_kept, kept_both);
      is = grind (arith, all_steps, both_steps, disk_steps, port_steps, turns_kept, kept_both);
    }

-- AS THEY ARE TOLD
abbrev IsSame : SettleEntry → Type 0
IsSame entry = told_of entry ≡ entry

step_same : (k : ℕ) (e : End) (event : SwitchEvent) → IsStepOf e event → told_of (OfPort k event) ≡ OfPort k event
step_same k e event own = grind arith

steps_same : StepsHave IsSame
steps_same = grind arith

all_same : (part : List SettleEntry) → EachEntry IsSame part → all_told part ≡ part
all_same [] same = refl
all_same (entry ∷ part) same =
    ap (λ (e : SettleEntry). e ∷ all_told part) same.0 ∙ ap (λ (l : List SettleEntry). entry ∷ l) (all_same part same.1)

pub told_round : (w : Lanes) (r : Two (List LaneRound) (List (List SwitchEvent))) (v : Lanes) → lanes.Makes w r v
    → all_told (lanes.leaves r) ≡ lanes.leaves r
told_round w r v made = grind (arith, all_same, each_both, disks_each, steps_same, ports_each)
