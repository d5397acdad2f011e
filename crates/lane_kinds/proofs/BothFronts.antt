-- Laws of fronts of each of two kinds are laws of fronts of both beside each other.
use Rattle.std.proofs.Common.{◌≡◌, ℕ, ◌+◌, ◌≤◌, ◌⊎◌, inl, inr, List, [], ◌∷◌, ◌++◌, refl, sym, ap, ◌∙◌, subst, arith}
use Rattle.lane_kinds.proofs.LaneFronts.{front_each, ticked_each, zero_of}
use Rattle.lane_kinds.proofs.Moving.{nothing_move}
use Rattle.lane_kinds.proofs.Stuck.{sum_both}
use Rattle.lane_kinds.specs.Both.{AllRound, AllTicks, FrontBehind, FrontOfFirst, Ignores, IgnoresFronts, OnFirst, OnSecond, Skips, SkipsFronts, Two, both, both_fronts}
use Rattle.lane_kinds.specs.Fronts.{Fronts}
use Rattle.lane_kinds.specs.LaneFronts.{fronts_of}
use Rattle.lane_kinds.specs.Lanes.{AllMove, EachOf, EachStep, Entries, LaneKind, happened}
use Rattle.lane_kinds.specs.Laws.{CountsRounds, FrontsCount, FrontsLead, FrontsUnstick, Leads, Unsticks}
use Rattle.lane_kinds.specs.Rounds.{Rounds}
use Rattle.lane_kinds.specs.Stuck.{sum_over}

-- NUMBERS
first_least : (all a b n : ℕ) → all ≡ a + b → a ≤ n → b ≤ 0 → all ≤ n
first_least all a b n sum one two = omega (arith, sum, one, two)

second_least : (all a b n : ℕ) → all ≡ a + b → a ≤ 0 → b ≤ n → all ≤ n
second_least all a b n sum one two = omega (arith, sum, one, two)

first_marked : (all a b mark new : ℕ) → all ≡ a + b → a + mark ≡ new → new ≤ 1 → b ≤ 0 → all + mark ≤ 1
first_marked all a b mark new sum one most two = omega (arith, sum, one, most, two)

second_marked : (all a b mark : ℕ) → all ≡ a + b → a ≤ 0 → b + mark ≤ 1 → all + mark ≤ 1
second_marked all a b mark sum one two = omega (arith, sum, one, two)

none_marked : (a mark : ℕ) → a ≤ 0 → mark ≤ 1 → a + mark ≤ 1
none_marked a mark none most = omega (arith, none, most)

module _ {W V M N R Q E : Type 0} (K : Rounds W M R E) (L : Rounds V N Q E) (F : Fronts W M E) (G : Fronts V N E) where
  -- WHERE THEY LEAD THE ONE
  module _ (To : W → List E → W → Type 0) (laws : Leads K To) (fronts : FrontsLead K F To) (others : SkipsFronts G To) where
    pub first_fronts_lead : FrontsLead (both K L) (both_fronts K F G) (OnFirst To)
    first_fronts_lead = grind arith

  -- AND THE OTHER
  module _ (To : V → List E → V → Type 0) (laws : Leads L To) (fronts : FrontsLead L G To) (others : Skips K To) (skips : SkipsFronts F To) where
    second_then : (w : Two W V) (part before later : List E) (v : Two W V) → part ≡ before ++ later → To w.second before w.second → To w.second later v.second → To w.second part v.second
    second_then w part before later v is one two = subst (λ (l : List E). To w.second l v.second) (sym is) (laws.both w.second w.second v.second before later one two)

    round_leads_second : (w : Two W V) (part : List E) (v : Two W V) → FrontOfFirst F.OfRound w part v ⊎ FrontBehind (AllRound K) G.OfRound w part v → To w.second part v.second
    round_leads_second w part v given = grind (arith, second_then)

    ticks_lead_second : (w : Two W V) (m : Two M N) (part : List E) (v : Two W V)
        → FrontOfFirst (λ x. F.OfTicks x m.first) w part v ⊎ FrontBehind (AllTicks K m.first) (λ x. G.OfTicks x m.second) w part v → To w.second part v.second
    ticks_lead_second w m part v given = grind (arith, second_then)

    pub second_fronts_lead : FrontsLead (both K L) (both_fronts K F G) (OnSecond To)
    second_fronts_lead = record { round = round_leads_second; ticks = ticks_lead_second }

  -- WHAT THEY COUNT of the one, and of the other
  module _ (count : List E → ℕ) (both_sum : (one two : List E) → count (one ++ two) ≡ count one + count two) where
    sum_is : (part before later : List E) → part ≡ before ++ later → count part ≡ count before + count later
    sum_is part before later is = ap count is ∙ both_sum before later

    -- so many at most in a front of a round, where all of the one counts nothing, or the other's
    first_most : (n : ℕ) → ((w : W) (steps : R) (v : W) → K.Makes w steps v → count (K.leaves steps) ≤ n) → ((w : W) (part : List E) (v : W) → F.OfRound w part v → count part ≤ n)
        → IgnoresFronts G count → (w : Two W V) (part : List E) (v : Two W V) → FrontOfFirst F.OfRound w part v ⊎ FrontBehind (AllRound K) G.OfRound w part v → count part ≤ n
    first_most n rounds fronts others w part v (inl at) = fronts w.first part v.first at.front
    first_most n rounds fronts others w part v (inr at) = grind (arith, first_least, sum_is)

    least : (a n : ℕ) → a ≤ 0 → a ≤ n
    least a n none = omega (arith, none)

    second_most : (n : ℕ) → ((w : V) (part : List E) (v : V) → G.OfRound w part v → count part ≤ n) → Ignores K count → IgnoresFronts F count → (w : Two W V) (part : List E) (v : Two W V)
        → FrontOfFirst F.OfRound w part v ⊎ FrontBehind (AllRound K) G.OfRound w part v → count part ≤ n
    second_most n fronts all others w part v (inl at) = least (count part) n (others.round w.first part v.first at.front)
    second_most n fronts all others w part v (inr at) = grind (arith, second_least, sum_is)

    pub first_fronts_count : (mark : M → ℕ) → CountsRounds K count mark → FrontsCount F count mark → IgnoresFronts G count → FrontsCount (both_fronts K F G) count (λ (m : Two M N). mark m.first)
    first_fronts_count mark laws fronts others = record { round = first_most 0 laws.round fronts.round others; ticks = ticks }
      where
        ticks : (w : Two W V) (m : Two M N) (part : List E) (v : Two W V)
            → FrontOfFirst (λ x. F.OfTicks x m.first) w part v ⊎ FrontBehind (AllTicks K m.first) (λ x. G.OfTicks x m.second) w part v → count part + mark m.first ≤ 1
        ticks w m part v (inl at) = fronts.ticks w.first m.first part v.first at.front
        ticks w m part v (inr at) = grind (arith, first_marked, sum_is)

    pub second_fronts_count : (mark : N → ℕ) → ((m : N) → mark m ≤ 1) → FrontsCount G count mark → Ignores K count → IgnoresFronts F count
        → FrontsCount (both_fronts K F G) count (λ (m : Two M N). mark m.second)
    second_fronts_count mark most fronts all others = record { round = second_most 0 fronts.round all others; ticks = ticks }
      where
        ticks : (w : Two W V) (m : Two M N) (part : List E) (v : Two W V)
            → FrontOfFirst (λ x. F.OfTicks x m.first) w part v ⊎ FrontBehind (AllTicks K m.first) (λ x. G.OfTicks x m.second) w part v → count part + mark m.second ≤ 1
        ticks w m part v (inl at) = none_marked (count part) (mark m.second) (others.ticks w.first m.first part v.first at.front) (most m.second)
        ticks w m part v (inr at) = grind (arith, second_marked, sum_is)

    -- of ticks, where neither counts
    no_ticks : ((w : W) (m : M) → count (K.ticks_leave w m) ≤ 0) → ((w : W) (m : M) (part : List E) (v : W) → F.OfTicks w m part v → count part ≤ 0)
        → ((w : V) (m : N) (part : List E) (v : V) → G.OfTicks w m part v → count part ≤ 0) → (w : Two W V) (m : Two M N) (part : List E) (v : Two W V)
        → FrontOfFirst (λ x. F.OfTicks x m.first) w part v ⊎ FrontBehind (AllTicks K m.first) (λ x. G.OfTicks x m.second) w part v → count part ≤ 0
    no_ticks all one two w m part v (inl at) = one w.first m.first part v.first at.front
    no_ticks all one two w m part v (inr at) = grind (arith, first_least, sum_is)

  -- AN END THAT FINDS NO ROOM, of the one and of the other
  pub first_fronts_unstick : (stuck : ℕ → E → ℕ) (blocked moves : E → ℕ) → Unsticks K stuck blocked moves → FrontsUnstick F blocked → IgnoresFronts G (sum_over blocked)
      → FrontsUnstick (both_fronts K F G) blocked
  first_fronts_unstick stuck blocked moves laws fronts others = grind (arith, first_most, sum_both, no_ticks)

  pub second_fronts_unstick : (blocked : E → ℕ) → FrontsUnstick G blocked → Ignores K (sum_over blocked) → IgnoresFronts F (sum_over blocked) → FrontsUnstick (both_fronts K F G) blocked
  second_fronts_unstick blocked fronts all others = grind (arith, second_most, sum_both, no_ticks)

-- FRONTS OF LANES say nothing of another kind's, and count for nothing, where their entries do
module _ {T X E : Type 0} (L : LaneKind T X) (N : Entries X E) (turn_steps : (events : List X) → L.IsTurn events → EachStep L events) where
  module _ {S V : Type 0} (Step : S → V → S → Type 0) (said : ℕ → E → List V) (ignores : (j k : ℕ) (event : X) → said j (N.of_lane k event) ≡ []) where
    none_said : (j : ℕ) (part : List E) → EachOf (λ x. (i : ℕ) → said i x ≡ []) part → happened said j part ≡ []
    none_said j [] each = refl
    none_said j (x ∷ part) each = ap (λ (l : List V). l ++ happened said j part) (each.0 j) ∙ none_said j part each.1

    pub lanes_skip_fronts : SkipsFronts (fronts_of L N) (AllMove Step said 0)
    lanes_skip_fronts = record {
      round = λ v part u front w. nothing_move Step said 0 w part
          (λ j. none_said j part (front_each (λ x. (i : ℕ) → said i x ≡ []) L N turn_steps (λ k event own i. ignores i k event) v part u front));
      ticks = λ v n part u front w. nothing_move Step said 0 w part
          (λ j. none_said j part (ticked_each (λ x. (i : ℕ) → said i x ≡ []) L N (λ k s i. ignores i k (L.tick s)) 0 v n part u front));
    }

  pub lanes_ignore_fronts : (count : E → ℕ) → ((j : ℕ) (event : X) → count (N.of_lane j event) ≡ 0) → IgnoresFronts (fronts_of L N) (sum_over count)
  lanes_ignore_fronts count none = record {
    round = λ v part u front. zero_of count part (front_each (λ x. count x ≡ 0) L N turn_steps (λ k event own. none k event) v part u front);
    ticks = λ v n part u front. zero_of count part (ticked_each (λ x. count x ≡ 0) L N (λ k s. none k (L.tick s)) 0 v n part u front);
  }
