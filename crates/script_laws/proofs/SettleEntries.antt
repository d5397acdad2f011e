-- The part of a settle: events of lanes, and then its answer, or names of lanes that are left over; and a front of it.
use Rattle.std.proofs.Common.{◌≡◌, inl, inr, ℕ, ◌+◌, ◌*◌, ◌<◌, ◌≤◌, Bool, true, false, List, [], ◌∷◌, ◌++◌, length, map, sym, ap, ◌∙◌, arith, append-nil, length-append}
use Rattle.std.proofs.lemmas.List.{length-map}
use Rattle.std.specs.Prelude.{if◌then◌else◌}
use Rattle.runs.specs.Run.{Run}
use Rattle.lane_kinds.proofs.EntriesEach.{first_each}
use Rattle.lane_kinds.proofs.EntryRuns.{names_each}
use Rattle.lane_kinds.specs.Both.{Two}
use Rattle.lane_kinds.specs.Fronts.{NamesFront, SettleFront}
use Rattle.lane_kinds.specs.Lanes.{Entries, LaneKind, left_names}
use Rattle.lane_kinds.specs.Settles.{GoesOn, RunsOut, Settles, begin, entries_of_rounds, most_rounds}
use Rattle.world_parts.specs.switch_laws.Events.{SwitchEvent}
use Rattle.world_parts.specs.switch_laws.Ports.{ports}
use Rattle.world_parts.specs.world_laws.DiskKind.{disk_kind}
use Rattle.world_parts.specs.world_laws.Rounds.{LaneRound}
use Rattle.world_parts.specs.world_laws.Settle.{SettleEntry, Settled, Unsettled, UnsettledPort, disk_entries, disks}
use Rattle.world_parts.proofs.domain_laws.Counting.{made_move, some_named}
use Rattle.world_parts.proofs.domain_laws.LineEntries.{AllRound, AllSettling, EachEntry, StepsHave, TicksHave, each_as, each_both, each_in, few_each, rounds_each, settled_each}
use Rattle.world_parts.specs.domain_laws.Counts.{moves, moves_in}
use Rattle.world_parts.specs.domain_laws.Domain.{Lanes, lanes, port_entries, switch}
use Rattle.world_parts.specs.domain_laws.Lines.{fronts}
use Rattle.world_parts.specs.domain_laws.Settling.{AreReached}
use Rattle.script_laws.proofs.Entries.{IsName, IsOfLane}
use Rattle.script_laws.proofs.Places.{InEither, no_place, place_in}
use Rattle.script_laws.specs.Settled.{EndsUnsettled}

abbrev pub AreOfLanes : List SettleEntry → Type 0
AreOfLanes part = EachEntry IsOfLane part

pub lane_steps : StepsHave IsOfLane
lane_steps = record { of_disk = λ k e event step. tt; of_port = λ k e event step. tt }

pub lane_ticks : TicksHave IsOfLane
lane_ticks = record { of_disk = λ k. tt; of_port = λ k s. tt }

-- A SETTLE THAT ENDS SETTLED
pub record SettledLast (part : List SettleEntry) : Type 0 where
  pub front : List SettleEntry
  pub is : part ≡ front ++ Settled ∷ []
  pub of_lanes : AreOfLanes front

pub settled_last : (start : Lanes) (part : List SettleEntry) (behind : Lanes) → Settles lanes start part behind
    → SettledLast part
settled_last start part behind at = record {
  front = entries_of_rounds at.rounds ++ lanes.leaves at.steps;
  is = at.is;
  of_lanes = settled_each IsOfLane lane_steps lane_ticks start part behind at;
}

-- its answer stands last, and nowhere else
alone : (before later : List SettleEntry) → Settled ∷ [] ≡ before ++ Settled ∷ later → later ≡ []
alone [] later is = let none : [] ≡ later = cc is in sym none
alone (entry ∷ before) later is =
    let none : [] ≡ before ++ Settled ∷ later = cc is in
    absurd (no_place before Settled later none)

by_place : (front before later : List SettleEntry) → AreOfLanes front
    → InEither front (Settled ∷ []) before Settled later → later ≡ []
by_place front before later of_lanes (inl at) = absurd (each_in IsOfLane front before Settled at.rest at.is of_lanes)
by_place front before later of_lanes (inr at) = alone at.later later at.is

pub none_behind : (part before later : List SettleEntry) → SettledLast part → part ≡ before ++ Settled ∷ later
    → later ≡ []
none_behind part before later at is =
    by_place at.front before later at.of_lanes (place_in at.front (Settled ∷ []) before Settled later (sym at.is ∙ is))

-- EVENTS OF LANES, AND THEN NAMES; where there are any, so are there events
pub record NamesLast (part : List SettleEntry) : Type 0 where
  pub front : List SettleEntry
  pub names : List SettleEntry
  pub is : part ≡ front ++ names
  pub of_lanes : AreOfLanes front
  pub are : EachEntry IsName names
  pub some : 1 ≤ length names → 1 ≤ length front

pub lanes_alone : (part : List SettleEntry) → AreOfLanes part → NamesLast part
lanes_alone part of_lanes = grind (arith, append-nil)

-- the lanes that are left over are names
all_names : (r : Two (List LaneRound) (List (List SwitchEvent))) (w : Lanes) → EachEntry IsName (lanes.names r w)
all_names r w =
    each_both IsName (disks.names r.first w.first) (switch.names r.second w.second)
    (names_each disk_kind disk_entries IsName (λ k. tt) 0 r.first w.first)
    (names_each ports port_entries IsName (λ k. tt) 0 r.second w.second)

-- by their numbers
module _ {S V : Type 0} (K : LaneKind S V) (N : Entries V SettleEntry) where
  abbrev Numbers : List SettleEntry → Type 0
  Numbers later = (ks : List ℕ) × (later ≡ map N.left_over ks)

  first_name : (k : ℕ) (rests : Bool) (later : List SettleEntry) → Numbers later
      → Numbers ((if rests then [] else N.left_over k ∷ []) ++ later)
  first_name k true later more = more
  first_name k false later more = (k ∷ more.0, ap (λ (l : List SettleEntry). N.left_over k ∷ l) more.1)

  names_are : (k : ℕ) (turns : List (List V)) (w : List S) → Numbers (left_names K N k turns w)
  names_are k (r ∷ turns) (s ∷ w) = grind (arith, first_name, names_are (k + 1) turns w)
  names_are k turns w = grind arith

-- ROUNDS that were made leave an event each
one_move : (entry : SettleEntry) → moves entry ≤ 1
one_move entry = grind arith

moves_most : (part : List SettleEntry) → moves_in part ≤ length part
moves_most [] = omega (arith)
moves_most (entry ∷ part) = let one = one_move entry in let rest = moves_most part in omega (arith, one, rest)

pub rounds_long : (w : AllSettling) (rounds : List AllRound) (v : AllSettling) → Run (GoesOn lanes) w rounds v
    → length rounds ≤ length (entries_of_rounds rounds)
rounds_long w rounds v run = grind (arith, made_move, moves_most)

at_least_one : (n most all : ℕ) → n ≡ 4096 + 64 * most → n ≤ all → 1 ≤ all
at_least_one n most all is less = omega (arith, is, less)

-- A SETTLE THAT RAN OUT of rounds, and names one lane at least
pub out_last : (start : Lanes) (part : List SettleEntry) (behind : Lanes) (out : RunsOut lanes start part behind)
    → NamesLast part
out_last start part behind out =
    let all : List AllRound = out.rounds ++ out.last ∷ [] in
    let long = rounds_long (begin lanes start) all out.now out.run in
    record {
      front = entries_of_rounds all;
      names = lanes.names out.last.steps behind;
      is = out.is;
      of_lanes = rounds_each IsOfLane lane_steps lane_ticks (begin lanes start) all out.now out.run;
      are = all_names out.last.steps behind;
      some = λ one. at_least_one (length all) (lanes.pending start) (length (entries_of_rounds all)) out.most long;
    }

pub some_left : (start : Lanes) (part : List SettleEntry) (behind : Lanes) (out : RunsOut lanes start part behind)
    → AreReached start → 1 ≤ length (out_last start part behind out).names
unfolding out_last
some_left start part behind out reached = some_named start part behind out reached

both_long : (all a b n m : ℕ) → 1 ≤ all → all ≡ a + b → a ≡ n → b ≡ m → 1 ≤ n + m
both_long all a b n m some sum one two = omega (arith, some, sum, one, two)

pub out_unsettled : (start : Lanes) (part : List SettleEntry) (behind : Lanes) → RunsOut lanes start part behind
    → AreReached start → EndsUnsettled part
out_unsettled start part behind out reached =
    let r = out.last.steps in
    let front : List SettleEntry = entries_of_rounds (out.rounds ++ out.last ∷ []) in
    let one = names_are disk_kind disk_entries 0 r.first behind.first in
    let two = names_are ports port_entries 0 r.second behind.second in
    let a = disks.names r.first behind.first in
    let b = switch.names r.second behind.second in
    record {
      front = front;
      disks = one.0;
      ports = two.0;
      some = both_long (length (a ++ b)) (length a) (length b) (length one.0) (length two.0)
          (some_named start part behind out reached) (length-append a b)
          (ap (λ (l : List SettleEntry). length l) one.1 ∙ length-map one.0 Unsettled)
          (ap (λ (l : List SettleEntry). length l) two.1 ∙ length-map two.0 UnsettledPort);
      is = out.is
          ∙ ap (λ (l : List SettleEntry). front ++ (l ++ b)) one.1
          ∙ ap (λ (l : List SettleEntry). front ++ (map Unsettled one.0 ++ l)) two.1;
    }

-- A FRONT OF A SETTLE that made fewer than the most rounds, and any front
pub settle_front : (start : Lanes) (part : List SettleEntry) (behind : Lanes)
    (at : SettleFront lanes fronts start part behind) → length at.rounds < most_rounds lanes start → AreOfLanes part
settle_front start part behind at few = few_each IsOfLane lane_steps lane_ticks start part behind at few

named_front : (start : Lanes) (part : List SettleEntry) (behind : Lanes)
    (at : SettleFront lanes fronts start part behind) → length at.rounds ≡ most_rounds lanes start
    → NamesFront lanes at.rounds at.now at.later behind → NamesLast part
named_front start part behind at all front = record {
  front = entries_of_rounds at.rounds;
  names = at.later;
  is = at.is;
  of_lanes = rounds_each IsOfLane lane_steps lane_ticks (begin lanes start) at.rounds at.now at.run;
  are = grind (arith, rounds_long, rounds_each, lane_steps, lane_ticks, first_each, each_as, all_names, at_least_one);
  some = λ one. grind (arith, rounds_long, rounds_each, lane_steps, lane_ticks, first_each, each_as, all_names, at_least_one);
}

pub front_last : (start : Lanes) (part : List SettleEntry) (behind : Lanes)
    → SettleFront lanes fronts start part behind → NamesLast part
front_last start part behind at = elim at.front [
  | inl few ↦ lanes_alone part (settle_front start part behind at few.0)
  | inr all ↦ named_front start part behind at all.0 all.1
]
