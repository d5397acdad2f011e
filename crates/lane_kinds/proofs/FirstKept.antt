-- What entries lead lanes of one kind to, in a settle of theirs beside lanes of another: those of the other kind are dropped.
use Rattle.std.proofs.Common.{◌≡◌, ◌⊎◌, inl, inr, ℕ, Bool, true, false, List, [], ◌∷◌, ◌++◌, refl, sym, ap, ◌∙◌, subst, append-nil, arith}
use Rattle.std.specs.Prelude.{if◌then◌else◌}
use Rattle.lane_kinds.proofs.Both.{Beyond, Within, front_of_two}
use Rattle.lane_kinds.proofs.EntriesEach.{first_each}
use Rattle.lane_kinds.proofs.EntryRuns.{names_each, round_each, ticks_each}
use Rattle.lane_kinds.proofs.LaneFronts.{front_each, of_same, ticked_each}
use Rattle.lane_kinds.proofs.Sums.{and_left}
use Rattle.lane_kinds.specs.Both.{AllRound, AllTicks, FrontBehind, FrontOfFirst, Two, both, both_fronts}
use Rattle.lane_kinds.specs.LaneFronts.{RoundFront, TickFront, fronts_of}
use Rattle.lane_kinds.specs.Lanes.{EachOf, EachStep, Entries, LaneKind, lanes_of}
use Rattle.lane_kinds.specs.Laws.{AnswersLead, FrontsLeadWhere, LeadsWhere}
use Rattle.lane_kinds.specs.Rounds.{Rounds}

-- THOSE THAT ARE KEPT
abbrev pub put_if : {E : Type 0} → Bool → E → List E → List E
put_if c x part = if c then x ∷ part else part

abbrev pub kept : {E : Type 0} → (E → Bool) → List E → List E
kept keep [] = []
kept keep (x ∷ part) = put_if (keep x) x (kept keep part)

module _ {E : Type 0} (keep : E → Bool) where
  abbrev pub IsKept : E → Type 0
  IsKept x = keep x ≡ true

  abbrev pub IsDropped : E → Type 0
  IsDropped x = keep x ≡ false

  put_both : (c : Bool) (x : E) (one two : List E) → put_if c x (one ++ two) ≡ put_if c x one ++ two
  put_both true x one two = refl
  put_both false x one two = refl

  pub kept_both : (one two : List E) → kept keep (one ++ two) ≡ kept keep one ++ kept keep two
  kept_both [] two = refl
  kept_both (x ∷ one) two = ap (put_if (keep x) x) (kept_both one two) ∙ put_both (keep x) x (kept keep one) (kept keep two)

  pub kept_all : (part : List E) → EachOf IsKept part → kept keep part ≡ part
  kept_all [] each = refl
  kept_all (x ∷ part) each = ap (λ (c : Bool). put_if c x (kept keep part)) each.0 ∙ ap (λ (l : List E). x ∷ l) (kept_all part each.1)

  pub kept_none : (part : List E) → EachOf IsDropped part → kept keep part ≡ []
  kept_none [] each = refl
  kept_none (x ∷ part) each = ap (λ (c : Bool). put_if c x (kept keep part)) each.0 ∙ kept_none part each.1

  kept_first : (one two : List E) → EachOf IsKept one → EachOf IsDropped two → kept keep (one ++ two) ≡ one
  kept_first one two first second =
      kept_both one two ∙ ap (λ (l : List E). l ++ kept keep two) (kept_all one first) ∙ ap (λ (l : List E). one ++ l) (kept_none two second) ∙ append-nil one

  kept_then : (one two a b : List E) → kept keep one ≡ a → kept keep two ≡ b → kept keep (one ++ two) ≡ a ++ b
  kept_then one two a b first second = kept_both one two ∙ ap (λ (l : List E). l ++ kept keep two) first ∙ ap (λ (l : List E). a ++ l) second

-- TWO KINDS, and what says which entries are of the first
pub record Tells {S V T X E : Type 0} (K : LaneKind S V) (N : Entries V E) (L : LaneKind T X) (O : Entries X E) (keep : E → Bool) : Type 0 where
  pub own : (k : ℕ) (event : V) → keep (N.of_lane k event) ≡ true
  pub own_left : (k : ℕ) → keep (N.left_over k) ≡ true
  pub answer : keep N.settled ≡ true
  pub other : (k : ℕ) (event : X) → keep (O.of_lane k event) ≡ false
  pub other_left : (k : ℕ) → keep (O.left_over k) ≡ false
  pub own_steps : (events : List V) → K.IsTurn events → EachStep K events
  pub other_steps : (events : List X) → L.IsTurn events → EachStep L events

module _ {S V T X E : Type 0} (K : LaneKind S V) (N : Entries V E) (L : LaneKind T X) (O : Entries X E) (keep : E → Bool) (says : Tells K N L O keep) where
  abbrev One : Rounds (List S) (List Bool) (List (List V)) E
  One = lanes_of K N

  abbrev Other : Rounds (List T) (List Bool) (List (List X)) E
  Other = lanes_of L O

  abbrev All : Rounds (Two (List S) (List T)) (Two (List Bool) (List Bool)) (Two (List (List V)) (List (List X))) E
  All = both One Other

  own_round : (r : List (List V)) → EachOf (IsKept keep) (One.leaves r)
  own_round r = round_each K N (IsKept keep) says.own 0 r

  round_kept : (r : Two (List (List V)) (List (List X))) → kept keep (All.leaves r) ≡ One.leaves r.first
  round_kept r = kept_first keep (One.leaves r.first) (Other.leaves r.second) (own_round r.first) (round_each L O (IsDropped keep) says.other 0 r.second)

  ticks_kept : (w : Two (List S) (List T)) (m : Two (List Bool) (List Bool)) → kept keep (All.ticks_leave w m) ≡ One.ticks_leave w.first m.first
  ticks_kept w m =
      kept_first keep (One.ticks_leave w.first m.first) (Other.ticks_leave w.second m.second) (ticks_each K N (IsKept keep) says.own 0 w.first m.first)
      (ticks_each L O (IsDropped keep) says.other 0 w.second m.second)

  module _ (Stands : List S → List Bool → Type 0) (To : List S → List E → List S → Type 0) (laws : LeadsWhere One Stands To) where
    abbrev pub FirstStands : Two (List S) (List T) → Two (List Bool) (List Bool) → Type 0
    FirstStands w m = Stands w.first m.first

    abbrev pub FirstTo : Two (List S) (List T) → List E → Two (List S) (List T) → Type 0
    FirstTo w part v = To w.first (kept keep part) v.first

    as_kept : (w v : List S) (part a : List E) → kept keep part ≡ a → To w a v → To w (kept keep part) v
    as_kept w v part a is at = subst (λ (l : List E). To w l v) (sym is) at

    pub first_leads_where : LeadsWhere All FirstStands FirstTo
    first_leads_where = grind (arith, and_left, as_kept, kept_both, round_kept, kept_then, ticks_kept)

    -- A FRONT
    module _ (fronts : FrontsLeadWhere One (fronts_of K N) Stands To) where
      own_front : (w : List S) (part : List E) (v : List S) → RoundFront K N w part v → kept keep part ≡ part
      own_front w part v front = kept_all keep part (front_each (IsKept keep) K N says.own_steps (λ k event own. says.own k event) w part v front)

      own_ticks : (w : List S) (m : List Bool) (part : List E) (v : List S) → TickFront K N 0 w m part v → kept keep part ≡ part
      own_ticks w m part v front = kept_all keep part (ticked_each (IsKept keep) K N (λ k s. says.own k (K.tick s)) 0 w m part v front)

      kept_behind : (part before later all : List E) → part ≡ before ++ later → before ≡ all → EachOf (IsKept keep) all → EachOf (IsDropped keep) later → kept keep part ≡ all
      kept_behind part before later all is all_is own other =
          ap (kept keep) (is ∙ ap (λ (l : List E). l ++ later) all_is) ∙ kept_first keep all later own other

      round_front : (w : Two (List S) (List T)) (m : Two (List Bool) (List Bool)) (part : List E) (v : Two (List S) (List T)) → FirstStands w m
          → FrontOfFirst (RoundFront K N) w part v ⊎ FrontBehind (AllRound One) (RoundFront L O) w part v → FirstTo w part v
      round_front w m part v at (inl front) =
          as_kept w.first v.first part part (own_front w.first part v.first front.front) (fronts.round w.first m.first part v.first at front.front)
      round_front w m part v at (inr front) =
          as_kept w.first v.first part (One.leaves front.all.steps)
          (kept_behind part front.before front.later (One.leaves front.all.steps) front.is front.all.is (own_round front.all.steps)
          (front_each (IsDropped keep) L O says.other_steps (λ k event own. says.other k event) w.second front.later v.second front.front))
          (laws.round w.first m.first front.all.steps v.first at front.all.made)

      ticks_front : (w : Two (List S) (List T)) (m : Two (List Bool) (List Bool)) (r : Two (List (List V)) (List (List X))) (v : Two (List S) (List T)) (part : List E) (u : Two (List S) (List T))
          → FirstStands w m → All.Makes w r v → All.quiet r ≡ true
          → FrontOfFirst (λ x. TickFront K N 0 x m.first) v part u ⊎ FrontBehind (AllTicks One m.first) (λ x. TickFront L O 0 x m.second) v part u → FirstTo w (All.leaves r ++ part) u
      ticks_front w m r v part u at made quiet (inl front) = grind (arith, as_kept, kept_then, round_kept, own_ticks, and_left)
      ticks_front w m r v part u at made quiet (inr front) =
          let all = One.ticks_leave v.first m.first in
          as_kept w.first u.first (All.leaves r ++ part) (One.leaves r.first ++ all)
          (kept_then keep (All.leaves r) part (One.leaves r.first) all (round_kept r)
          (kept_behind part front.before front.later all front.is front.all.is (ticks_each K N (IsKept keep) says.own 0 v.first m.first)
          (ticked_each (IsDropped keep) L O (λ k s. says.other k (L.tick s)) 0 v.second m.second front.later u.second front.front)))
          (laws.ticks w.first m.first r.first v.first u.first at made.of_first (and_left (One.quiet r.first) (Other.quiet r.second) quiet) front.all.ticks)

      pub first_fronts_where : FrontsLeadWhere All (both_fronts One (fronts_of K N) (fronts_of L O)) FirstStands FirstTo
      first_fronts_where = record { round = round_front; ticks = ticks_front }

    -- THE ANSWER, and names
    module _ (ends : AnswersLead One To) where
      own_names : (r : List (List V)) (w : List S) → EachOf (IsKept keep) (One.names r w)
      own_names r w = names_each K N (IsKept keep) says.own_left 0 r w

      names_to : (r : Two (List (List V)) (List (List X))) (w : Two (List S) (List T)) (part more : List E)
          → Within part (One.names r.first w.first) ⊎ Beyond part more (One.names r.first w.first) (Other.names r.second w.second) → FirstTo w part w
      names_to r w part more (inl at) = grind (arith, as_kept, kept_all, first_each, of_same, own_names)
      names_to r w part more (inr at) =
          let all = One.names r.first w.first in
          as_kept w.first w.first part all
          (ap (kept keep) at.is
          ∙ kept_first keep all at.rest (own_names r.first w.first)
          (first_each (IsDropped keep) at.rest more
          (of_same (IsDropped keep) (at.rest ++ more) (Other.names r.second w.second) at.second_is (names_each L O (IsDropped keep) says.other_left 0 r.second w.second))))
          (ends.names r.first w.first all [] (append-nil all))

      pub first_ends_where : AnswersLead All FirstTo
      first_ends_where = record {
        answer = λ w. as_kept w.first w.first (N.settled ∷ []) (N.settled ∷ []) (ap (λ (c : Bool). put_if c N.settled []) says.answer) (ends.answer w.first);
        names = λ r w part more is. names_to r w part more (front_of_two part more (One.names r.first w.first) (Other.names r.second w.second) is);
      }
