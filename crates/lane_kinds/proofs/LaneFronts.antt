-- Where a front of a round and one of ticks lead, and what they count, for lanes of one kind.
use Rattle.std.proofs.Common.{◌≡◌, ℕ, ◌+◌, ◌≤◌, ◌<◌, inl, inr, Bool, true, false, List, [], ◌∷◌, ◌++◌, length, refl, sym, ap, ◌∙◌, subst, arith, append_assoc, length-append}
use Rattle.std.proofs.lemmas.Bool.{eqb-true}
use Rattle.std.specs.Prelude.{◌&&◌, ◌==◌, if◌then◌else◌}
use Rattle.lane_kinds.proofs.LaneCounts.{not_there, one_here, tick_is}
use Rattle.lane_kinds.proofs.Moving.{both_move, none_move, one_more, tick_moves, turn_moves, turns_move}
use Rattle.lane_kinds.proofs.Stuck.{sum_both}
use Rattle.lane_kinds.specs.LaneCounts.{LaneTicks, LaneUnsticks, mark_at, once}
use Rattle.lane_kinds.specs.LaneFronts.{BeginsTurn, NoMore, RoundFront, TickFront, fronts_of}
use Rattle.lane_kinds.specs.Lanes.{AllMove, EachOf, EachStep, Entries, IsSilent, LaneKind, MakeRound, MakeTurns, Reads, gets_tick, lanes_of, left_names, round_entries, tick_entries, turn_entries}
use Rattle.lane_kinds.specs.Laws.{FrontsCount, FrontsLead, FrontsUnstick}
use Rattle.lane_kinds.specs.Stuck.{sum_over}

-- WHERE THEY LEAD
module _ {S V E : Type 0} (K : LaneKind S V) (N : Entries V E) (said : ℕ → E → List V) (reads : Reads K N said) (silent : IsSilent K) where
  front_moves : (lanes : List S) (part : List E) (behind : List S) → RoundFront K N lanes part behind → AllMove K.Step said 0 lanes part behind
  front_moves lanes part behind front =
      subst (λ (l : List E). AllMove K.Step said 0 lanes l behind) (sym front.is)
      (both_move K.Step said 0 lanes front.between behind (round_entries K N 0 front.turns) (turn_entries K N (length front.turns) front.begun)
      (turns_move K N said reads silent 0 lanes front.turns front.between front.made)
      (turn_moves K N said reads silent (length front.turns) front.between front.begun behind front.run))

  no_more : (front lanes : List S) (part : List E) (behind : List S) → NoMore lanes part behind → AllMove K.Step said 0 (front ++ lanes) part (front ++ behind)
  no_more front lanes part behind ended = grind (arith, none_move)

  ticked_moves : (k : ℕ) (front lanes : List S) (marks : List Bool) (part : List E) (behind : List S) → k ≡ 0 + length front → TickFront K N k lanes marks part behind
      → AllMove K.Step said 0 (front ++ lanes) part (front ++ behind)
  ticked_moves k front [] marks part behind place ended = no_more front [] part behind ended
  ticked_moves k front (s ∷ lanes) [] part behind place ended = no_more front (s ∷ lanes) part behind ended
  ticked_moves k front (s ∷ lanes) (had ∷ marks) part behind place (inl ended) = no_more front (s ∷ lanes) part behind ended
  ticked_moves k front (s ∷ lanes) (had ∷ marks) part behind place (inr made) =
      let t = made.after in
      let next : k + 1 ≡ 0 + length (front ++ t ∷ []) = one_more k (length front) (length (front ++ t ∷ [])) place (length-append front (t ∷ [])) in
      let rest : AllMove K.Step said 0 ((front ++ t ∷ []) ++ lanes) made.later ((front ++ t ∷ []) ++ made.others) =
      ticked_moves (k + 1) (front ++ t ∷ []) lanes marks made.later made.others next made.more in
      subst (λ (l : List S). AllMove K.Step said 0 (front ++ s ∷ lanes) part (front ++ l)) (sym made.rest)
      (subst (λ (l : List E). AllMove K.Step said 0 (front ++ s ∷ lanes) l (front ++ t ∷ made.others)) (sym made.is)
      (both_move K.Step said 0 (front ++ s ∷ lanes) (front ++ t ∷ lanes) (front ++ t ∷ made.others) (if gets_tick K s had then N.of_lane k (K.tick s) ∷ [] else []) made.later
      (tick_moves K N said reads silent (gets_tick K s had) k front s lanes t place made.ticks)
      (subst (λ (l : List S). AllMove K.Step said 0 l made.later (front ++ t ∷ made.others)) (append_assoc front (t ∷ []) lanes)
      (subst (AllMove K.Step said 0 ((front ++ t ∷ []) ++ lanes) made.later) (append_assoc front (t ∷ []) made.others) rest))))

  pub fronts_lead : FrontsLead (lanes_of K N) (fronts_of K N) (AllMove K.Step said 0)
  fronts_lead = record {
    round = front_moves;
    ticks = λ w m part v front. ticked_moves 0 [] w m part v refl front;
  }

-- A CONDITION on entries of steps is one on each entry
module _ {E : Type 0} (P : E → Type 0) where
  pub of_both : (one two : List E) → EachOf P one → EachOf P two → EachOf P (one ++ two)
  of_both [] two first second = second
  of_both (x ∷ one) two first second = (first.0, of_both one two first.1 second)

  pub of_same : (one two : List E) → one ≡ two → EachOf P two → EachOf P one
  of_same one two is each = subst (EachOf P) (sym is) each

  of_none : {S : Type 0} (lanes : List S) (part : List E) (behind : List S) → NoMore lanes part behind → EachOf P part
  of_none lanes part behind ended = of_same part [] ended.is tt

  module _ {S V : Type 0} (K : LaneKind S V) (N : Entries V E) where
    module _ (turn_steps : (events : List V) → K.IsTurn events → EachStep K events) (steps : (k : ℕ) (event : V) → K.IsStep event → P (N.of_lane k event)) where
      event_each : (silent : Bool) (k : ℕ) (event : V) → K.IsStep event → EachOf P (if silent then [] else N.of_lane k event ∷ [])
      event_each true k event own = tt
      event_each false k event own = (steps k event own, tt)

      turn_each : (k : ℕ) (events : List V) → EachStep K events → EachOf P (turn_entries K N k events)
      turn_each k [] own = tt
      turn_each k (event ∷ events) own =
          of_both (if K.is_silent event then [] else N.of_lane k event ∷ []) (turn_entries K N k events) (event_each (K.is_silent event) k event own.0) (turn_each k events own.1)

      turns_each : (k : ℕ) (lanes : List S) (turns : List (List V)) (behind : List S) → MakeTurns K k lanes turns behind → EachOf P (round_entries K N k turns)
      turns_each k lanes [] behind made = tt
      turns_each k lanes (r ∷ turns) behind made =
          of_both (turn_entries K N k r) (round_entries K N (k + 1) turns) (turn_each k r (turn_steps r made.1.of_turn)) (turns_each (k + 1) made.0 turns behind made.2)

      pub lanes_each : (lanes : List S) (turns : List (List V)) (behind : List S) → MakeRound K lanes turns behind → EachOf P (round_entries K N 0 turns)
      lanes_each lanes turns behind made = turns_each 0 lanes turns behind made.turns_made

      first_steps : (one two : List V) → EachStep K (one ++ two) → EachStep K one
      first_steps [] two own = tt
      first_steps (event ∷ one) two own = (own.0, first_steps one two own.1)

      begun_steps : (begun : List V) → BeginsTurn K begun → EachStep K begun
      begun_steps begun at = first_steps begun at.more (turn_steps (begun ++ at.more) at.of_turn)

      pub front_each : (lanes : List S) (part : List E) (behind : List S) → RoundFront K N lanes part behind → EachOf P part
      front_each lanes part behind front = grind (arith, of_same, of_both, turns_each, turn_each, begun_steps)

    -- and of ticks
    module _ (ticks : (k : ℕ) (s : S) → P (N.of_lane k (K.tick s))) where
      tick_each : (get : Bool) (k : ℕ) (s : S) → EachOf P (if get then N.of_lane k (K.tick s) ∷ [] else [])
      tick_each true k s = (ticks k s, tt)
      tick_each false k s = tt

      pub ticks_each : (k : ℕ) (lanes : List S) (marks : List Bool) → EachOf P (tick_entries K N k lanes marks)
      ticks_each k (s ∷ lanes) (had ∷ marks) = grind (arith, of_both, tick_each, ticks_each (k + 1) lanes marks)
      ticks_each k lanes marks = grind arith

      pub ticked_each : (k : ℕ) (lanes : List S) (marks : List Bool) (part : List E) (behind : List S) → TickFront K N k lanes marks part behind → EachOf P part
      ticked_each k [] marks part behind ended = of_none [] part behind ended
      ticked_each k (s ∷ lanes) [] part behind ended = of_none (s ∷ lanes) part behind ended
      ticked_each k (s ∷ lanes) (had ∷ marks) part behind (inl ended) = of_none (s ∷ lanes) part behind ended
      ticked_each k (s ∷ lanes) (had ∷ marks) part behind (inr made) =
          of_same part ((if gets_tick K s had then N.of_lane k (K.tick s) ∷ [] else []) ++ made.later) made.is
          (of_both (if gets_tick K s had then N.of_lane k (K.tick s) ∷ [] else []) made.later (tick_each (gets_tick K s had) k s) (ticked_each (k + 1) lanes marks made.later made.others made.more))

    -- and of names of these lanes
    module _ (n : ℕ) (names : (k : ℕ) → k < n → P (N.left_over k)) where
      name_each : (c : Bool) (k : ℕ) → k < n → EachOf P (if c then [] else N.left_over k ∷ [])
      name_each true k less = tt
      name_each false k less = (names k less, tt)

      pub left_each : (k : ℕ) (turns : List (List V)) (lanes : List S) → k + length lanes ≤ n → EachOf P (left_names K N k turns lanes)
      left_each k (r ∷ turns) (s ∷ lanes) few = grind (arith, of_both, name_each, left_each (k + 1) turns lanes (omega (arith, few)))
      left_each k turns lanes few = grind arith

-- TICKS of the lane with the number k: no step is one
at_most : (n : ℕ) → n ≡ 0 → n ≤ 0
at_most n none = omega (arith, none)

sum_none : (all a b : ℕ) → all ≡ a + b → a ≤ 0 → b ≤ 0 → all ≤ 0
sum_none all a b sum one two = omega (arith, sum, one, two)

pub zero_of : {E : Type 0} (count : E → ℕ) (part : List E) → EachOf (λ x. count x ≡ 0) part → sum_over count part ≤ 0
zero_of count [] each = omega (arith)
zero_of count (x ∷ part) each = sum_none (count x + sum_over count part) (count x) (sum_over count part) refl (at_most (count x) each.0) (zero_of count part each.1)

module _ {S V E : Type 0} (K : LaneKind S V) (N : Entries V E) (ticks : ℕ → E → ℕ) (laws : LaneTicks K N ticks) (k : ℕ) where
  abbrev Few : ℕ → ℕ → Type 0
  Few j n = (k < j → n ≤ 0) × (n ≤ 1)

  few_next : (j rest : ℕ) → Few (j + 1) rest → k < j → rest ≤ 0
  few_next j rest few less = few.0 (omega (arith, less))

  few_here : (j rest : ℕ) → Few (j + 1) rest → j ≡ k → rest ≤ 0
  few_here j rest few same = few.0 (omega (arith, same))

  next_few : (c had : Bool) (j rest : ℕ) → (c ≡ true → j ≡ k) → Few (j + 1) rest → Few j (once (c && had) + rest)
  next_few c had j rest same few = grind (arith, few_here, few_next)

  marks_few : (j : ℕ) (marks : List Bool) → Few j (mark_at k j marks)
  marks_few j [] = ((λ less. omega (arith)), omega (arith))
  marks_few j (had ∷ marks) = next_few (j == k) had j (mark_at k (j + 1) marks) (eqb-true j k) (marks_few (j + 1) marks)

  few_none : (j a n : ℕ) → a ≡ 0 → Few j n → Few j (a + n)
  few_none j a n none few = ((λ less. omega (arith, none, few.0 less)), omega (arith, none, few.1))

  none_few : (j : ℕ) (lanes : List S) (marks : List Bool) (part : List E) (behind : List S) → NoMore lanes part behind → Few j (sum_over (ticks k) part + mark_at k j marks)
  none_few j lanes marks part behind none = few_none j (sum_over (ticks k) part) (mark_at k j marks) (ap (sum_over (ticks k)) none.is) (marks_few j marks)

  lane_few : (c had waits : Bool) (j all later marks : ℕ) → all ≡ once (c && (if had then false else waits)) + later → (c ≡ true → j ≡ k) → Few (j + 1) (later + marks)
      → Few j (all + (once (c && had) + marks))
  lane_few c had waits j all later marks is same few = grind (arith, few_here, few_next)

  front_few : (j : ℕ) (lanes : List S) (marks : List Bool) (part : List E) (behind : List S) → TickFront K N j lanes marks part behind → Few j (sum_over (ticks k) part + mark_at k j marks)
  front_few j [] marks part behind none = none_few j [] marks part behind none
  front_few j (s ∷ lanes) [] part behind none = none_few j (s ∷ lanes) [] part behind none
  front_few j (s ∷ lanes) (had ∷ marks) part behind (inl none) = none_few j (s ∷ lanes) (had ∷ marks) part behind none
  front_few j (s ∷ lanes) (had ∷ marks) part behind (inr made) =
      grind (arith, sum_both, tick_is, lane_few, eqb-true, front_few (j + 1) lanes marks made.later made.others made.more)

  pub fronts_tick : FrontsCount (fronts_of K N) (sum_over (ticks k)) (mark_at k 0)
  fronts_tick = record {
    round = λ w part v front. zero_of (ticks k) part (front_each (λ x. ticks k x ≡ 0) K N laws.turn_steps (laws.step k) w part v front);
    ticks = λ w m part v front. (front_few 0 w m part v front).1;
  }

-- AN END THAT FINDS NO ROOM
module _ {S V E : Type 0} (K : LaneKind S V) (N : Entries V E) (k : ℕ) (stuck : ℕ → E → ℕ) (blocked moves : E → ℕ) (laws : LaneUnsticks K N k stuck blocked moves) where
  none_more : (all a b c : ℕ) → all ≡ a + b → a ≤ 0 → b + c ≤ 0 → all + c ≤ 0
  none_more all a b c sum one two = omega (arith, sum, one, two)

  none_front : (j n : ℕ) (lanes : List S) (turns : List (List V)) (between : List S) (m : ℕ) → k < j → n ≡ j + length turns → MakeTurns K j lanes turns between → m ≤ once (n == k)
      → sum_over blocked (round_entries K N j turns) + m ≤ 0
  none_front j n lanes [] between m less place made one = omega (arith, not_there (n == k) m n k (eqb-true n k) (omega (arith, less, place)) one)
  none_front j n lanes (r ∷ turns) between m less place made one =
      grind (arith, none_more, sum_both, not_there, eqb-true, none_front (j + 1) n made.0 turns between m (omega (arith, less)) (omega (arith, place)) made.2 one)

  at_one : (c : Bool) (m : ℕ) → m ≤ once c → 0 + m ≤ 1
  at_one true m one = omega (arith, one)
  at_one false m one = omega (arith, one)

  regroup : (all a b c : ℕ) → all ≡ a + b → all + c ≡ a + (b + c)
  regroup all a b c sum = omega (arith, sum)

  front_once : (j n : ℕ) (lanes : List S) (turns : List (List V)) (between : List S) (m : ℕ) → n ≡ j + length turns → MakeTurns K j lanes turns between → m ≤ once (n == k)
      → sum_over blocked (round_entries K N j turns) + m ≤ 1
  front_once j n lanes (r ∷ turns) between m place made one =
      grind (arith, one_here, regroup, sum_both, eqb-true, none_front, front_once (j + 1) n made.0 turns between m (omega (arith, place)) made.2 one)
  front_once j n lanes turns between m place made one = grind (arith, at_one)

  turn_both : (j : ℕ) (one two : List V) → turn_entries K N j (one ++ two) ≡ turn_entries K N j one ++ turn_entries K N j two
  turn_both j (event ∷ one) two = grind (arith, append_assoc, turn_both j one two)
  turn_both j one two = grind arith

  first_of : (all a b c : ℕ) → all ≡ a + b → all ≤ c → a ≤ c
  first_of all a b c sum most = omega (arith, sum, most)

  begun_once : (j : ℕ) (begun : List V) → BeginsTurn K begun → sum_over blocked (turn_entries K N j begun) ≤ once (j == k)
  begun_once j begun at =
      first_of (sum_over blocked (turn_entries K N j (begun ++ at.more))) (sum_over blocked (turn_entries K N j begun)) (sum_over blocked (turn_entries K N j at.more)) (once (j == k))
      (ap (sum_over blocked) (turn_both j begun at.more) ∙ sum_both blocked (turn_entries K N j begun) (turn_entries K N j at.more)) (laws.turn j (begun ++ at.more) at.of_turn)

  no_less : (c : Bool) → 0 ≤ once c
  no_less c = omega (arith)

  own_place : (n : ℕ) → n ≡ 0 + n
  own_place n = omega (arith)

  most_is : (all a b c : ℕ) → all ≡ a + b → a + b ≤ c → all ≤ c
  most_is all a b c sum most = omega (arith, sum, most)

  front_free : (lanes : List S) (part : List E) (behind : List S) → RoundFront K N lanes part behind → sum_over blocked part ≤ 1
  front_free lanes part behind front = grind (arith, most_is, sum_both, front_once, own_place, no_less, begun_once)

  pub fronts_unstick : FrontsUnstick (fronts_of K N) blocked
  fronts_unstick = record {
    round = front_free;
    ticks = λ w m part v front. zero_of blocked part (ticked_each (λ x. blocked x ≡ 0) K N laws.tick 0 w m part v front);
  }
