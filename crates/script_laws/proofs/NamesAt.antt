-- Where a name stands in the part of a settle, the rounds ran out: it is among the names behind the last of them.
use Rattle.std.proofs.Common.{◌≡◌, ◌⊎◌, inl, inr, Bool, true, false, List, [], ◌∷◌, ◌++◌, length, refl, sym, ap, ◌∙◌, subst, append_assoc, append-nil, arith}
use Rattle.runs.specs.Run.{Run, run_split}
use Rattle.lane_kinds.specs.Both.{Two}
use Rattle.lane_kinds.specs.Fronts.{NamesFront, SettleFront}
use Rattle.lane_kinds.specs.Settles.{GoesOn, RunsOut, SettlePart, TicksBehind, begin, entries_of_rounds, most_rounds}
use Rattle.world_parts.specs.switch_laws.Events.{SwitchEvent}
use Rattle.world_parts.specs.world_laws.Rounds.{LaneRound}
use Rattle.world_parts.specs.world_laws.Settle.{SettleEntry, Settled}
use Rattle.world_parts.proofs.domain_laws.LineEntries.{AllRound, AllSettling, each_in, rounds_each}
use Rattle.world_parts.specs.domain_laws.Domain.{Lanes, lanes}
use Rattle.world_parts.specs.domain_laws.Lines.{fronts}
use Rattle.script_laws.proofs.Entries.{IsName, IsOfLane}
use Rattle.script_laws.proofs.Places.{InEither, no_place, place_in}
use Rattle.script_laws.proofs.SettleEntries.{SettledLast, lane_steps, lane_ticks, settle_front, settled_last}

-- a name is no event of a lane
pub no_name : (entry : SettleEntry) → IsName entry → IsOfLane entry → ⊥
no_name entry name of = grind arith

no_lane : (part so_far rest : List SettleEntry) (entry : SettleEntry) → IsName entry → SettledLast part
    → part ≡ so_far ++ entry ∷ rest → ⊥
no_lane part so_far rest entry name last is =
    by_side (place_in last.front (Settled ∷ []) so_far entry rest (sym last.is ∙ is))
  where
    not_the_answer : (later : List SettleEntry) → Settled ∷ [] ≡ later ++ entry ∷ rest → ⊥
    not_the_answer [] same = grind (arith)
    not_the_answer (other ∷ later) same = grind (arith, no_place)

    by_side : InEither last.front (Settled ∷ []) so_far entry rest → ⊥
    by_side (inl at) = no_name entry name (each_in IsOfLane last.front so_far entry at.rest at.is last.of_lanes)
    by_side (inr at) = not_the_answer at.later at.is

-- AFTER SO MUCH OF A PART the rounds had run out, and these names came
pub record NamesAt (start : Lanes) (so_far : List SettleEntry) (entry : SettleEntry) (behind : Lanes) : Type 0 where
  pub rounds : List AllRound
  pub last : AllRound
  pub now : AllSettling
  pub run : Run (GoesOn lanes) (begin lanes start) (rounds ++ last ∷ []) now
  pub most : length (rounds ++ last ∷ []) ≡ most_rounds lanes start
  pub lanes_are : behind ≡ now.lanes
  pub later : List SettleEntry
  pub more : List SettleEntry
  pub so_far_is : so_far ≡ entries_of_rounds (rounds ++ last ∷ []) ++ later
  pub names : lanes.names last.steps now.lanes ≡ later ++ entry ∷ more

module _ (start : Lanes) (rounds : List AllRound) (last : AllRound) (now : AllSettling)
    (run : Run (GoesOn lanes) (begin lanes start) (rounds ++ last ∷ []) now)
    (most : length (rounds ++ last ∷ []) ≡ most_rounds lanes start) (behind : Lanes) (lanes_are : behind ≡ now.lanes)
    (entry : SettleEntry) (name : IsName entry) where
  abbrev all : List SettleEntry
  all = entries_of_rounds (rounds ++ last ∷ [])

  among : (names unnamed so_far rest : List SettleEntry) → names ++ unnamed ≡ lanes.names last.steps now.lanes
      → InEither all names so_far entry rest → NamesAt start so_far entry behind
  among names unnamed so_far rest are (inl at) =
      absurd
      (no_name entry name
      (each_in IsOfLane all so_far entry at.rest at.is
      (rounds_each IsOfLane lane_steps lane_ticks (begin lanes start) (rounds ++ last ∷ []) now run)))
  among names unnamed so_far rest are (inr at) = record {
    rounds = rounds;
    last = last;
    now = now;
    run = run;
    most = most;
    lanes_are = lanes_are;
    later = at.later;
    more = rest ++ unnamed;
    so_far_is = at.before_is;
    names = sym are ∙ ap (λ (l : List SettleEntry). l ++ unnamed) at.is ∙ append_assoc at.later (entry ∷ rest) unnamed;
  }

nothing_more : (names : List SettleEntry) → names ++ [] ≡ names
nothing_more [] = refl
nothing_more (name ∷ names) = ap (λ (l : List SettleEntry). name ∷ l) (nothing_more names)

out_names : (start : Lanes) (part : List SettleEntry) (behind : Lanes) (out : RunsOut lanes start part behind)
    (entry : SettleEntry) → IsName entry → (so_far rest : List SettleEntry) → part ≡ so_far ++ entry ∷ rest
    → NamesAt start so_far entry behind
out_names start part behind out entry name so_far rest is =
    let names : List SettleEntry = lanes.names out.last.steps behind in
    among start out.rounds out.last out.now out.run out.most behind out.lanes entry name names [] so_far rest
    (nothing_more names ∙ ap (λ (l : Lanes). lanes.names out.last.steps l) out.lanes)
    (place_in (entries_of_rounds (out.rounds ++ out.last ∷ [])) names so_far entry rest (sym out.is ∙ is))

begun_names : (start : Lanes) (part : List SettleEntry) (behind : Lanes) (at : SettleFront lanes fronts start part behind)
    → length at.rounds ≡ most_rounds lanes start → NamesFront lanes at.rounds at.now at.later behind
    → (entry : SettleEntry) → IsName entry → (so_far rest : List SettleEntry) → part ≡ so_far ++ entry ∷ rest
    → NamesAt start so_far entry behind
begun_names start part behind at most front entry name so_far rest is =
    let rounds : List AllRound = front.before ++ front.last ∷ [] in
    let same : entries_of_rounds at.rounds ≡ entries_of_rounds rounds =
    ap (λ (l : List AllRound). entries_of_rounds l) front.is_last in
    among start front.before front.last at.now
    (subst (λ (l : List AllRound). Run (GoesOn lanes) (begin lanes start) l at.now) front.is_last at.run)
    (sym (ap (λ (l : List AllRound). length l) front.is_last) ∙ most) behind front.lanes entry name at.later front.unnamed
    so_far rest front.is
    (place_in (entries_of_rounds rounds) at.later so_far entry rest
    (sym (ap (λ (l : List SettleEntry). l ++ at.later) same) ∙ sym at.is ∙ is))

pub names_at : (start : Lanes) (part : List SettleEntry) (behind : Lanes)
    → SettlePart lanes start part behind ⊎ SettleFront lanes fronts start part behind → (entry : SettleEntry) → IsName entry
    → (so_far rest : List SettleEntry) → part ≡ so_far ++ entry ∷ rest → NamesAt start so_far entry behind
names_at start part behind (inl (inl settles)) entry name so_far rest is =
    absurd (no_lane part so_far rest entry name (settled_last start part behind settles) is)
names_at start part behind (inl (inr out)) entry name so_far rest is = out_names start part behind out entry name so_far rest is
names_at start part behind (inr at) entry name so_far rest is = elim at.front [
  | inl few ↦
      absurd
      (no_name entry name (each_in IsOfLane part so_far entry rest is (settle_front start part behind at few.0)))
  | inr all ↦ begun_names start part behind at all.0 all.1 entry name so_far rest is
]

-- IT COMES BEHIND the entries of the last round
pub record LastRound (steps : Two (List LaneRound) (List (List SwitchEvent))) (so_far : List SettleEntry) : Type 0 where
  pub earlier : List SettleEntry
  pub later : List SettleEntry
  pub is : so_far ≡ earlier ++ (lanes.leaves steps ++ later)

record LeavesFirst (steps : Two (List LaneRound) (List (List SwitchEvent))) (entries : List SettleEntry) : Type 0 where
  ticks : List SettleEntry
  is : entries ≡ lanes.leaves steps ++ ticks

leaves_first : (quiet : Bool) (w : AllSettling) (steps : Two (List LaneRound) (List (List SwitchEvent))) (between : Lanes)
    (entries : List SettleEntry) (v : AllSettling) → TicksBehind lanes quiet w steps between entries v → LeavesFirst steps entries
leaves_first false w steps between entries v behind = record { ticks = []; is = behind.1 ∙ sym (append-nil (lanes.leaves steps)) }
leaves_first true w steps between entries v behind = record { ticks = lanes.ticks_leave between w.marks; is = behind.3 }

pub last_entries : (rounds : List AllRound) (last : AllRound)
    → entries_of_rounds (rounds ++ last ∷ []) ≡ entries_of_rounds rounds ++ last.entries
last_entries [] last = append-nil last.entries
last_entries (round ∷ rounds) last = grind (arith, append_assoc, last_entries rounds last)

pub last_round : (start : Lanes) (so_far : List SettleEntry) (entry : SettleEntry) (behind : Lanes)
    (at : NamesAt start so_far entry behind) → LastRound at.last.steps so_far
last_round start so_far entry behind at =
    let split = run_split (GoesOn lanes) (begin lanes start) at.now at.rounds (at.last ∷ []) at.run in
    let goes : GoesOn lanes split.0 at.last split.2.0 = split.2.1 in
    let first : LeavesFirst at.last.steps at.last.entries =
    leaves_first (lanes.quiet at.last.steps) split.0 at.last.steps goes.between at.last.entries split.2.0 goes.behind in
    let earlier : List SettleEntry = entries_of_rounds at.rounds in
    let leaves : List SettleEntry = lanes.leaves at.last.steps in
    record {
      earlier = earlier;
      later = first.ticks ++ at.later;
      is = at.so_far_is ∙ ap (λ (l : List SettleEntry). l ++ at.later) (last_entries at.rounds at.last)
          ∙ append_assoc earlier at.last.entries at.later
          ∙ ap (λ (l : List SettleEntry). earlier ++ (l ++ at.later)) first.is
          ∙ ap (λ (l : List SettleEntry). earlier ++ l) (append_assoc leaves first.ticks at.later);
    }

-- A WHOLE PART with a name ran out of rounds
pub ran_out : (start : Lanes) (part : List SettleEntry) (behind : Lanes) → SettlePart lanes start part behind → (entry : SettleEntry)
    → IsName entry → (so_far rest : List SettleEntry) → part ≡ so_far ++ entry ∷ rest → RunsOut lanes start part behind
ran_out start part behind (inl settles) entry name so_far rest is =
    absurd (no_lane part so_far rest entry name (settled_last start part behind settles) is)
ran_out start part behind (inr out) entry name so_far rest is = out
