-- Laws of each of two kinds are laws of both beside each other.
use Rattle.std.proofs.Common.{◌≡◌, ℕ, ◌+◌, ◌≤◌, ◌⊎◌, inl, inr, Bool, true, false, List, [], ◌∷◌, ◌++◌, refl, sym, ap, ap₂, subst, arith, append-nil, length-append}
use Rattle.std.specs.Prelude.{◌&&◌, ◌||◌}
use Rattle.runs.specs.Run.{Run}
use Rattle.lane_kinds.proofs.Stuck.{sum_both}
use Rattle.lane_kinds.proofs.Sums.{and_left, and_right, both_lower, both_unless, or_left, or_right}
use Rattle.lane_kinds.specs.Both.{BothHold, BothStand, BothStep, Ignores, OnFirst, OnSecond, Skips, Two, both}
use Rattle.lane_kinds.specs.Laws.{CountsRounds, AnswersLead, Falls, KeepsStanding, Leads, Moves, Names, Unsticks}
use Rattle.lane_kinds.specs.Rounds.{Rounds}
use Rattle.lane_kinds.specs.Settles.{EndsWith}
use Rattle.lane_kinds.specs.Stuck.{sum_over}

-- NUMBERS
none_of_two : (all a b : ℕ) → all ≡ a + b → a ≤ 0 → b ≤ 0 → all ≤ 0
none_of_two all a b sum one two = omega (arith, sum, one, two)

some_loud : (one two : Bool) (all a b : ℕ) → all ≡ a + b → (one && two) ≡ false → (one ≡ false → 1 ≤ a) → (two ≡ false → 1 ≤ b) → 1 ≤ all
some_loud true two all a b sum loud first second = omega (arith, sum, second loud)
some_loud false two all a b sum loud first second = omega (arith, sum, first refl)

some_ticked : (one two : Bool) (all a b : ℕ) → all ≡ a + b → (one || two) ≡ true → (one ≡ true → 1 ≤ a) → (two ≡ true → 1 ≤ b) → 1 ≤ all
some_ticked true two all a b sum some first second = omega (arith, sum, first refl)
some_ticked false two all a b sum some first second = omega (arith, sum, second some)

-- A FRONT OF TWO LISTS is one of the first, or the first and a front of the second
pub record Within {E : Type 0} (part a : List E) : Type 0 where
  pub rest : List E
  pub is : part ++ rest ≡ a

pub record Beyond {E : Type 0} (part more a b : List E) : Type 0 where
  pub rest : List E
  pub is : part ≡ a ++ rest
  pub second_is : rest ++ more ≡ b

one_more : {E : Type 0} (x : E) (part more a b : List E) → Within part a ⊎ Beyond part more a b → Within (x ∷ part) (x ∷ a) ⊎ Beyond (x ∷ part) more (x ∷ a) b
one_more x part more a b given = grind arith

pub front_of_two : {E : Type 0} (part more a b : List E) → part ++ more ≡ a ++ b → Within part a ⊎ Beyond part more a b
front_of_two part more [] b is = inr (record { rest = part; is = refl; second_is = is })
front_of_two [] more (x ∷ a) b is = inl (record { rest = x ∷ a; is = refl })
front_of_two {E} (y ∷ part) more (x ∷ a) b is =
    let same : y ≡ x = cc is in
    let rest : part ++ more ≡ a ++ b = cc is in
    subst (λ (z : E). Within (y ∷ part) (z ∷ a) ⊎ Beyond (y ∷ part) more (z ∷ a) b) same (one_more y part more a b (front_of_two part more a b rest))

-- A RUN OF BOTH is a run of each over the same entries, so that each law of one kind's runs holds of it as it stands
module _ {W V E : Type 0} (Step : W → E → W → Type 0) (Other : V → E → V → Type 0) where
  pub run_of_first : (w : Two W V) (entries : List E) (v : Two W V) → Run (BothStep Step Other) w entries v → Run Step w.first entries v.first
  run_of_first w [] v run = ap (λ (x : Two W V). x.first) run
  run_of_first w (entry ∷ entries) v run = (run.0.first, run.1.of_first, run_of_first run.0 entries v run.2)

  pub run_of_second : (w : Two W V) (entries : List E) (v : Two W V) → Run (BothStep Step Other) w entries v → Run Other w.second entries v.second
  run_of_second w [] v run = ap (λ (x : Two W V). x.second) run
  run_of_second w (entry ∷ entries) v run = (run.0.second, run.1.of_second, run_of_second run.0 entries v run.2)

  abbrev pub two_of : W → V → Two W V
  two_of first second = record { first = first; second = second }

  pub run_of_both : (first : W) (second : V) (entries : List E) (w : W) (v : V) → Run Step first entries w → Run Other second entries v
      → Run (BothStep Step Other) (two_of first second) entries (two_of w v)
  run_of_both first second [] w v one two = ap₂ two_of one two
  run_of_both first second (entry ∷ entries) w v one two =
      (two_of one.0 two.0, record { of_first = one.1; of_second = two.1 }, run_of_both one.0 two.0 entries w v one.2 two.2)

module _ {W V M N R Q E : Type 0} (K : Rounds W M R E) (L : Rounds V N Q E) where
  -- WHAT STANDS OF EACH stands of both
  pub both_keep : (P : W → M → Type 0) (S : V → N → Type 0) → KeepsStanding K P → KeepsStanding L S → KeepsStanding (both K L) (BothStand P S)
  both_keep P S one two = grind (arith, and_left, and_right)

  -- THE LAST ROUND of both is that of each
  pub first_ends_with : (P : W → M → Type 0) (S : V → N → Type 0) (behind : Two W V) (marks : Two M N) → EndsWith (both K L) (BothStand P S) behind marks
      → EndsWith K P behind.first marks.first
  first_ends_with P S behind marks given = grind (arith, and_left, or_left)

  pub second_ends_with : (P : W → M → Type 0) (S : V → N → Type 0) (behind : Two W V) (marks : Two M N) → EndsWith (both K L) (BothStand P S) behind marks
      → EndsWith L S behind.second marks.second
  second_ends_with P S behind marks given = grind (arith, and_right, or_right)

  -- WHAT REMAINS of both falls
  pub both_fall : (P : W → Type 0) (S : V → Type 0) (remaining : W → ℕ) (rest : V → ℕ) → Falls K P remaining → Falls L S rest
      → Falls (both K L) (BothHold P S) (λ w. remaining w.first + rest w.second)
  both_fall P S remaining rest one two = record {
    keeps = record {
      round = λ w m r v at made. record {
        of_first = one.keeps.round w.first m.first r.first v.first at.of_first made.of_first;
        of_second = two.keeps.round w.second m.second r.second v.second at.of_second made.of_second;
      };
      ticks = λ w m r v u at made quiet ticks. record {
        of_first = one.keeps.ticks w.first m.first r.first v.first u.first at.of_first made.of_first (and_left (K.quiet r.first) (L.quiet r.second) quiet) ticks.of_first;
        of_second = two.keeps.ticks w.second m.second r.second v.second u.second at.of_second made.of_second (and_right (K.quiet r.first) (L.quiet r.second) quiet) ticks.of_second;
      };
    };
    round = λ w r v at made.
        both_lower (K.quiet r.first) (L.quiet r.second) (remaining w.first) (remaining v.first) (rest w.second) (rest v.second)
        (one.round w.first r.first v.first at.of_first made.of_first) (two.round w.second r.second v.second at.of_second made.of_second);
    ticks = λ w m r v u at made quiet ticks. grind (arith, both_unless, and_left, and_right);
  }

  -- EACH ROUND MOVES
  pub both_move : (moves : List E → ℕ) → Moves K moves → Moves L moves → Moves (both K L) moves
  both_move moves one two = grind (arith, some_loud, some_ticked)

  -- SOME LANE OF THEM IS NAMED
  pub both_name : (P : W → M → Type 0) (S : V → N → Type 0) → Names K P → Names L S → Names (both K L) (BothStand P S)
  both_name P S one two = grind (arith, some_loud, length-append, some_ticked)

  -- WHERE ENTRIES LEAD THE ONE, those of the other leading it nowhere
  module _ (To : W → List E → W → Type 0) (laws : Leads K To) (others : Skips L To) where
    pub first_leads : Leads (both K L) (OnFirst To)
    first_leads = grind arith

    module _ (ends : AnswersLead K To) where
      names_lead : (r : Two R Q) (w : Two W V) (part more : List E) → Within part (K.names r.first w.first) ⊎ Beyond part more (K.names r.first w.first) (L.names r.second w.second)
          → To w.first part w.first
      names_lead r w part more (inl at) = ends.names r.first w.first part at.rest at.is
      names_lead r w part more (inr at) =
          subst (λ (l : List E). To w.first l w.first) (sym at.is)
          (laws.both w.first w.first w.first (K.names r.first w.first) at.rest (ends.names r.first w.first (K.names r.first w.first) [] (append-nil (K.names r.first w.first)))
          (others.names r.second w.second at.rest more at.second_is w.first))

      pub first_ends : AnswersLead (both K L) (OnFirst To)
      first_ends = record {
        answer = λ w. ends.answer w.first;
        names = λ r w part more is. names_lead r w part more (front_of_two part more (K.names r.first w.first) (L.names r.second w.second) is);
      }

  -- AND THE OTHER, where both have one answer
  module _ (To : V → List E → V → Type 0) (laws : Leads L To) (others : Skips K To) where
    pub second_leads : Leads (both K L) (OnSecond To)
    second_leads = record {
      none = λ w. laws.none w.second;
      both = λ w m v one two first second. laws.both w.second m.second v.second one two first second;
      round = λ w r v made. laws.both w.second w.second v.second (K.leaves r.first) (L.leaves r.second) (others.round r.first w.second) (laws.round w.second r.second v.second made.of_second);
      ticks = λ w m v ticks. laws.both w.second w.second v.second (K.ticks_leave w.first m.first) (L.ticks_leave w.second m.second)
          (others.ticks w.first m.first w.second) (laws.ticks w.second m.second v.second ticks.of_second);
    }

    module _ (ends : AnswersLead L To) (one_answer : K.settled ≡ L.settled) where
      names_lead_second : (r : Two R Q) (w : Two W V) (part more : List E)
          → Within part (K.names r.first w.first) ⊎ Beyond part more (K.names r.first w.first) (L.names r.second w.second) → To w.second part w.second
      names_lead_second r w part more (inl at) = others.names r.first w.first part at.rest at.is w.second
      names_lead_second r w part more (inr at) =
          subst (λ (l : List E). To w.second l w.second) (sym at.is)
          (laws.both w.second w.second w.second (K.names r.first w.first) at.rest
          (others.names r.first w.first (K.names r.first w.first) [] (append-nil (K.names r.first w.first)) w.second) (ends.names r.second w.second at.rest more at.second_is))

      pub second_ends : AnswersLead (both K L) (OnSecond To)
      second_ends = record {
        answer = λ w. subst (λ (x : E). To w.second (x ∷ []) w.second) (sym one_answer) (ends.answer w.second);
        names = λ r w part more is. names_lead_second r w part more (front_of_two part more (K.names r.first w.first) (L.names r.second w.second) is);
      }

  -- COUNTS of the one, which ignore the other
  pub first_counts : (count : List E → ℕ) (mark : M → ℕ) → CountsRounds K count mark → Ignores L count → CountsRounds (both K L) count (λ m. mark m.first)
  first_counts count mark laws others = grind (arith, none_of_two)

  -- and of the other
  pub second_counts : (count : List E → ℕ) (mark : N → ℕ) → CountsRounds L count mark → Ignores K count → K.settled ≡ L.settled → CountsRounds (both K L) count (λ m. mark m.second)
  second_counts count mark laws others one_answer = grind (arith, none_of_two)

  -- AN END OF THE ONE that finds no room, where entries of the other are none of it
  pub first_unsticks : (stuck : ℕ → E → ℕ) (blocked moves : E → ℕ) → Unsticks K stuck blocked moves → Moves L (sum_over moves) → Ignores L (sum_over blocked)
      → Unsticks (both K L) stuck blocked moves
  first_unsticks stuck blocked moves laws moving others = grind (arith, both_move, sum_both, none_of_two)

  pub second_unsticks : (stuck : ℕ → E → ℕ) (blocked moves : E → ℕ) → Unsticks L stuck blocked moves → Moves K (sum_over moves) → Ignores K (sum_over blocked) → K.settled ≡ L.settled
      → Unsticks (both K L) stuck blocked moves
  second_unsticks stuck blocked moves laws moving others one_answer = grind (arith, both_move, sum_both, none_of_two)
